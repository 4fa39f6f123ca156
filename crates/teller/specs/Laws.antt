-- What a hearer of lines must be shown to keep, of the explainer: a line is told in at most 41 bytes, and its first 85 are enough. Assumes nothing.
use Rattle.std.specs.Prelude.{◌≡◌, List, [], ◌∷◌, ◌++◌, ℕ, zero, suc, ◌+◌, ◌/◌, ◌<◌, ◌≤◌, ℤ, nat_abs, eqb, ltb, length}
use Rattle.std.proofs.Common.{ap, ◌∙◌, arith, length-append}
use mathlib.Core.List.{append-nil}
use borrow.Author.Tests.{lt-ltb}
use Rattle.numbers.proofs.Parts.{zarith, of, sign}
use Rattle.rows.proofs.Choice.{by_yes, by_test}
use Rattle.lines.specs.Answers.{decoded_of}
use Rattle.lines.proofs.Malformed.{decoded_short}
use Rattle.pieces.specs.Lines.{short}
use Rattle.threshold.specs.declared.Way.{Way}
use Rattle.why.specs.declared.Flag.{Flag}
use Rattle.why.specs.Why.{Why}
use Rattle.why.specs.Fits.{flag_case, way_case}
use Rattle.why.proofs.Range.{WaitingIn, WhyIn, explained_in}
use Rattle.teller.specs.declared.Hearing.{Hearing}
use Rattle.teller.specs.Told.{Told}
use Rattle.teller.specs.Decimal.{decimal_from, decimal_of}
use Rattle.teller.specs.Words.{flag_word, way_word, values_text, flag_text, way_text, reasons_text, text_of, most}
use Rattle.teller.specs.Run.{direction_by, sent_of, denied_of, told_of, next_of, line_text}

-- ---- the digits of a number: at most k, and one below ten
pub decimal_most : (k n : ℕ) → length (decimal_from k n) ≤ k
unfolding decimal_from
decimal_most zero n = omega arith
decimal_most (suc k) n =
    by_test (λ (l : List ℕ). length l ≤ suc k) (ltb n 10) _ _
    (λ t. omega arith)
    (λ t. simp length-append (omega (arith, decimal_most k (n / 10))))

pub decimal_ten : (n : ℕ) → length (decimal_of n) ≤ 10
unfolding decimal_of
decimal_ten n = decimal_most 10 n

pub decimal_one : (k n : ℕ) → n < 10 → decimal_from (suc k) n ≡ (48 + n) ∷ []
unfolding decimal_from
decimal_one k n h = by_yes _ _ (lt-ltb n 10 h)

pub decimal_digit : (n : ℕ) → n < 10 → decimal_of n ≡ (48 + n) ∷ []
unfolding decimal_of
decimal_digit n h = decimal_one 9 n h

-- ---- the two cases that carry a number: the word and its blank, then the number
abbrev pub hangover : List ℕ
hangover = 104 ∷ 97 ∷ 110 ∷ 103 ∷ 111 ∷ 118 ∷ 101 ∷ 114 ∷ 32 ∷ []

pub hangover_text : (n : ℕ) → flag_text (Flag.Hangover n) ≡ hangover ++ decimal_of n
unfolding flag_text flag_word flag_case values_text
hangover_text n = ap (λ (x : List ℕ). hangover ++ x) (append-nil (decimal_of n))

abbrev pub waiting : List ℕ
waiting = 119 ∷ 97 ∷ 105 ∷ 116 ∷ 105 ∷ 110 ∷ 103 ∷ 32 ∷ []

pub waiting_text : (k : ℤ) → way_text (Way.Waiting k) ≡ waiting ++ decimal_of (nat_abs k)
unfolding way_text way_word way_case values_text
waiting_text k = ap (λ (x : List ℕ). waiting ++ x) (append-nil (decimal_of (nat_abs k)))

-- ---- the most bytes of a text: each word with its number
flag_most : (f : Flag) → length (flag_text f) ≤ 19
unfolding flag_text flag_word flag_case values_text
flag_most Flag.Energy = omega arith
flag_most (Flag.Hangover n) =
    let e = ap length (hangover_text n) ∙ length-append hangover (decimal_of n) in
    let d = decimal_ten n in
    omega arith
flag_most Flag.Quiet = omega arith

-- a count that is waited for is one digit
way_most : (w : Way) → WaitingIn w → length (way_text w) ≤ 9
unfolding way_text way_word way_case values_text
way_most Way.Floor h = omega arith
way_most Way.Periodic h = omega arith
way_most Way.Unsteady h = omega arith
way_most Way.Tone h = omega arith
way_most (Way.Waiting k) h =
    let e = ap length (waiting_text k) ∙ length-append waiting (decimal_of (nat_abs k)) in
    let d = ap length (decimal_digit (nat_abs k) (omega (zarith, of k, sign k, h.0, h.1))) in
    omega arith
way_most Way.Adapted h = omega arith

why_most : (y : Why) → WhyIn y → length (text_of y) ≤ most
unfolding text_of reasons_text
why_most (Why.Refused n) h = let d = decimal_ten n in simp length-append (omega arith)
why_most (Why.Because r) h =
    let d = decimal_ten r.number in
    let f = flag_most r.flag in
    let w = way_most r.threshold h in
    simp length-append (omega arith)

pub line_most : (h : Hearing) (block l : List ℕ) → length (line_text h block l) ≤ most
unfolding line_text told_of sent_of denied_of
line_most h block l =
    why_most (told_of h block l).why
    (by_test (λ (t : Told). WhyIn t.why) (eqb (decoded_of l).refusal 0) _ _
    (λ t. explained_in (direction_by h.downlink block) h.explainer (decoded_of l).acf (decoded_of l).lags (decoded_of l).scale)
    (λ t. tt))

-- ---- a line is known by what is read of it
pub told_short : (h : Hearing) (block l : List ℕ) → told_of h block (short l) ≡ told_of h block l
unfolding told_of
told_short h block l = rw (decoded_short l)

pub short_next : (h : Hearing) (block l : List ℕ) → next_of h block (short l) ≡ next_of h block l
unfolding next_of
short_next h block l = ap (λ (x : Told). x.next) (told_short h block l)

pub short_text : (h : Hearing) (block l : List ℕ) → line_text h block (short l) ≡ line_text h block l
unfolding line_text
short_text h block l = ap (λ (x : Told). text_of x.why) (told_short h block l)
