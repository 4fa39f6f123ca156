-- The decimal digits of a number: how many they are, that they read as the number, begin with no zero and are digits all, and how a loop
-- writes them from the last one on. Assumes nothing.
use mathlib.Core.Path.{◌≡◌, refl, sym, ap, ap₂, ◌∙◌}
use mathlib.Core.List.{List, [], ◌∷◌, ◌++◌, append_assoc}
use Prim.Native.Nat.{ℕ, zero, suc, ◌+◌, ◌-◌, ◌*◌, ◌/◌, ◌%◌, ◌^◌, ◌<◌, ◌≤◌}
use native.Mathlib.Omega.{arith}
use native.Mathlib.Nat.{pow-suc}
use native.Mathlib.Numerals.{add-one}
use borrow.Author.Tests.{le-ltb, ltb-true, ltb-false}
use lib.Dec.{ltb}
use lib.ListN.{length, get_or, drop, set, length-set}
use lib.Seq.{drop-cons, drop-set-lt, get_or-set_same}
use Rattle.rows.proofs.Choice.{by_test, by_no, either}
use Rattle.teller.specs.Decimal.{decimal_from, decimal_of, read_from, read_of}
use Rattle.teller.specs.Laws.{decimal_one, decimal_digit}

-- ---- one digit more
module _ (k n : ℕ) where
  pub decimal_more : 10 ≤ n → decimal_from (suc k) n ≡ decimal_from k (n / 10) ++ ((48 + n % 10) ∷ [])
  unfolding decimal_from
  decimal_more h = by_no _ _ (le-ltb n 10 h)

-- ---- none
pub decimal_zero : decimal_of 0 ≡ 48 ∷ []
decimal_zero = decimal_digit 0 (omega arith)

-- ---- read back
read_last : (v : ℕ) (ds : List ℕ) (d : ℕ) → read_from v (ds ++ (d ∷ [])) ≡ 10 * read_from v ds + (d - 48)
unfolding read_from
read_last v [] d = refl
read_last v (e ∷ ds) d = read_last (10 * v + (e - 48)) ds d

reads_from : (k n : ℕ) → n < 10 ^ k → read_from 0 (decimal_from k n) ≡ n
unfolding read_from decimal_from
reads_from zero n h = omega arith
reads_from (suc k) n h =
    either (read_from 0 (decimal_from (suc k) n) ≡ n) (ltb n 10)
    (λ t. ap (read_from 0) (decimal_one k n (ltb-true n 10 t)) ∙ omega arith)
    (λ t.
    let p = pow-suc 10 k in
    let i = reads_from k (n / 10) (omega arith) in
    ap (read_from 0) (decimal_more k n (ltb-false n 10 t)) ∙ (read_last 0 (decimal_from k (n / 10)) (48 + n % 10) ∙ omega arith))

pub decimal_reads : (n : ℕ) → n < 10 ^ 10 → read_of (decimal_of n) ≡ n
unfolding read_of decimal_of
decimal_reads n h = reads_from 10 n h

-- ---- no leading zero
first_from : (k n : ℕ) → 0 < n → n < 10 ^ k → 48 < get_or (decimal_from k n) 0 0
first_from zero n z h = absurd (omega arith)
first_from (suc k) n z h =
    either (48 < get_or (decimal_from (suc k) n) 0 0) (ltb n 10)
    (λ t. rw (decimal_one k n (ltb-true n 10 t)) (omega arith))
    (λ t.
    let g = ltb-false n 10 t in
    let p = pow-suc 10 k in
    let i = first_from k (n / 10) (omega arith) (omega arith) in
    rw (decimal_more k n g) (first_of (decimal_from k (n / 10)) _ i))
  where
    first_of : (l m : List ℕ) → 48 < get_or l 0 0 → 48 < get_or (l ++ m) 0 0
    first_of [] m i = absurd (omega arith)
    first_of (d ∷ l) m i = i

pub decimal_first : (n : ℕ) → 0 < n → n < 10 ^ 10 → 48 < get_or (decimal_of n) 0 0
unfolding decimal_of
decimal_first n z h = first_from 10 n z h

-- ---- digits and nothing else
abbrev pub Digit : ℕ → Type 0
Digit b = (48 ≤ b) × (b ≤ 57)

abbrev pub Digits : List ℕ → Type 0
Digits l = (i : ℕ) → i < length l → Digit (get_or l i 0)

more_digits : (l : List ℕ) (d : ℕ) → Digits l → Digit d → Digits (l ++ (d ∷ []))
more_digits [] d h e zero z = e
more_digits [] d h e (suc i) z = absurd (omega arith)
more_digits (x ∷ l) d h e zero z = h 0 (omega arith)
more_digits (x ∷ l) d h e (suc i) z = more_digits l d (λ j q. h (suc j) (omega arith)) e i (omega arith)

digits_from : (k n : ℕ) → Digits (decimal_from k n)
unfolding decimal_from
digits_from zero n = λ i h. absurd (omega arith)
digits_from (suc k) n =
    by_test Digits (ltb n 10) _ _
    (λ t. more_digits [] (48 + n) (λ i h. absurd (omega arith)) (let h = ltb-true n 10 t in (omega arith, omega arith)))
    (λ t. more_digits (decimal_from k (n / 10)) (48 + n % 10) (digits_from k (n / 10)) (omega arith, omega arith))

pub decimal_digits : (n : ℕ) → Digits (decimal_of n)
unfolding decimal_of
decimal_digits n = digits_from 10 n

-- ---- written from the last digit on
module _ (text : List ℕ) (from rest : ℕ) (inside : from < length text) where
  stored : (d : ℕ) → drop from (set text from d) ≡ d ∷ drop (from + 1) text
  stored d =
      let n = length-set text from d in
      drop-cons (set text from d) from 0 (omega arith)
      ∙ ap₂ (λ (x : ℕ) (l : List ℕ). x ∷ l) (get_or-set_same text from d 0 inside) (drop-set-lt (suc from) text from d (omega arith) ∙ ap (λ (i : ℕ). drop i text) (sym (add-one from)))

  pub digit_next : 10 ≤ rest → 0 < from → decimal_from (from - 1 + 1) (rest / 10) ++ drop (from - 1 + 1) (set text from (48 + rest % 10)) ≡ decimal_from (from + 1) rest ++ drop (from + 1) text
  digit_next h z =
      let e : from - 1 + 1 ≡ from = omega arith in
      let m = ap (λ (k : ℕ). decimal_from k rest) (add-one from) ∙ decimal_more from rest h in
      ap (λ (k : ℕ). decimal_from k (rest / 10) ++ drop k (set text from (48 + rest % 10))) e
      ∙ (ap (λ (l : List ℕ). decimal_from from (rest / 10) ++ l) (stored (48 + rest % 10))
      ∙ (sym (append_assoc (decimal_from from (rest / 10)) ((48 + rest % 10) ∷ []) (drop (from + 1) text)) ∙ ap (λ (l : List ℕ). l ++ drop (from + 1) text) (sym m)))

  pub digit_last : rest < 10 → drop from (set text from (48 + rest)) ≡ decimal_from (from + 1) rest ++ drop (from + 1) text
  digit_last h =
      let m = ap (λ (k : ℕ). decimal_from k rest) (add-one from) ∙ decimal_one from rest h in
      stored (48 + rest) ∙ ap (λ (l : List ℕ). l ++ drop (from + 1) text) (sym m)

-- a number of two digits or more leaves room for one more, and the digits before it are of a smaller number
module _ (from rest : ℕ) (small : rest < 10 ^ (from + 1)) where
  pub digit_room : 10 ≤ rest → 0 < from
  digit_room h = room from (rw (add-one from) at small)
    where
      room : (k : ℕ) → rest < 10 ^ suc k → 0 < k
      room zero l = absurd (omega arith)
      room (suc k) l = omega arith

  pub digit_small : 0 < from → rest / 10 < 10 ^ (from - 1 + 1)
  digit_small z =
      let e : from - 1 + 1 ≡ from = omega arith in
      let p : 10 ^ (from + 1) ≡ 10 ^ from * 10 = ap (λ (k : ℕ). 10 ^ k) (add-one from) ∙ pow-suc 10 from in
      rw e (omega arith)
