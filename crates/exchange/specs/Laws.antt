-- What a hearer of lines must be shown to keep, of a card's bank: an answer has four bytes; and by what a well-formed line ends with, its first 85 bytes
-- are enough. Assumes nothing.
use Rattle.std.specs.Prelude.{◌≡◌, refl, Bool, true, false, ◌||◌, List, ℕ, suc, ◌<◌, ◌≤◌, eqb, leb, length, take, drop, get_or}
use Rattle.std.proofs.Common.{sym, ap, ◌∙◌, arith}
use borrow.Author.Tests.{eqb-true, leb-true, leb-false}
use lib.ListN.{length-take, length-drop}
use lib.Seq.{take_all, get_or-drop}
use Rattle.rows.specs.Rows.{all}
use Rattle.rows.proofs.Choice.{either, and_left, and_right, by_no}
use Rattle.lines.specs.Hex.{hex_of}
use Rattle.lines.proofs.Fields.{formed}
use Rattle.pieces.specs.Lines.{short, kept}
use Rattle.state.specs.declared.State.{State}
use Rattle.runner.specs.Said as runner
use Rattle.exchange.specs.declared.Bank.{Bank}
use Rattle.exchange.specs.Line.{calls_of, resets_of, orderly}
use Rattle.exchange.specs.Run as run
use Rattle.exchange.specs.Hears.{next_of, text_of}

pub text_most : (b : Bank) (s l : List ℕ) → length (text_of b s l) ≤ 4
unfolding text_of run.write_of runner.text_of
text_most b s l = omega arith

-- ---- the line feed of a well-formed line, and so its length
pub record Ends (l : List ℕ) : Type 0 where
  pub last : ℕ
  pub size : length l ≡ suc last
  pub least : 2 ≤ last
  pub most : last ≤ 83
  pub feed : get_or l last 0 ≡ 10

module _ (l : List ℕ) where
  calls_end : calls_of l ≡ true → Ends l
  unfolding calls_of
  calls_end t =
      let f = formed (drop 2 l) t in
      let n = f.size in
      let d = length-drop 2 l in
      record { last = 83; size = omega arith; least = omega arith; most = omega arith; feed = sym (get_or-drop 2 l 81 0) ∙ f.feed }

  resets_end : resets_of l ≡ true → Ends l
  unfolding resets_of
  resets_end t =
      let a = and_left (eqb (length l) 3) (eqb (get_or l 2 0) 10) t in
      let b = and_right (eqb (length l) 3) (eqb (get_or l 2 0) 10) t in
      record { last = 2; size = eqb-true (length l) 3 a; least = omega arith; most = omega arith; feed = eqb-true (get_or l 2 0) 10 b }

  pub orderly_end : orderly l ≡ true → Ends l
  unfolding orderly
  orderly_end t = go (calls_of l) refl (and_right (all hex_of (take 2 l)) (calls_of l || resets_of l) t)
    where
      go : (b : Bool) → calls_of l ≡ b → (calls_of l || resets_of l) ≡ true → Ends l
      go true e h = calls_end e
      go false e h = resets_end (rw e at h)

  pub long_malformed : 84 < length l → orderly l ≡ false
  long_malformed h =
      either (orderly l ≡ false) (orderly l)
      (λ t. let e = orderly_end t in let n = e.size in let m = e.most in absurd (omega arith))
      (λ t. t)

-- ---- what goes by the form alone, and leaves malformed lines alone, goes by the first 85 bytes
pub by_short : {A : Type 0} (x : List ℕ → A) (y : A) → ((l : List ℕ) → orderly l ≡ false → x l ≡ y) → (l : List ℕ) → x (short l) ≡ x l
unfolding short
by_short x y f l =
    either (x (take kept l) ≡ x l) (leb (length l) kept)
    (λ t. ap x (take_all kept l (leb-true (length l) kept t)))
    (λ t.
    let h = leb-false (length l) kept t in
    let n = length-take kept l in
    f (take kept l) (long_malformed (take kept l) (omega arith)) ∙ sym (f l (long_malformed l (omega arith))))

-- ---- so the bank's answer and its next states do
abbrev bank : List State → Bank
bank states = record { states = states }

next_short : (states : List State) (l : List ℕ) → run.next_of states (short l) ≡ run.next_of states l
unfolding run.next_of
next_short states l = by_short (run.next_of states) states (λ m t. by_no _ _ t) l

reply_short : (states : List State) (l : List ℕ) → run.reply_of states (short l) ≡ run.reply_of states l
unfolding run.reply_of
reply_short states l = by_short (run.reply_of states) run.malformed (λ m t. by_no _ _ t) l

pub short_next : (b : Bank) (s l : List ℕ) → next_of b s (short l) ≡ next_of b s l
unfolding next_of
short_next b s l = ap bank (next_short b.states l)

pub short_text : (b : Bank) (s l : List ℕ) → text_of b s (short l) ≡ text_of b s l
unfolding text_of run.write_of
short_text b s l = ap runner.text_of (reply_short b.states l)
