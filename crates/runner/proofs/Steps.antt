-- One line: what the proofs of `answer`, `run` and `feed` cite. Assumes nothing.
use mathlib.Core.Path.{◌≡◌, refl, ap}
use mathlib.Core.List.{List}
use Prim.Native.Nat.{ℕ, ◌<◌, ◌≤◌}
use native.Mathlib.Omega.{arith}
use borrow.Author.Tests.{eq-eqb, ne_eqb}
use lib.Dec.{eqb}
use lib.ListN.{length}
use Rattle.rows.specs.Choice.{IF◌THEN◌ELSE◌}
use Rattle.rows.proofs.Choice.{by_test}
use Rattle.counts.specs.declared.Reply.{Reply}
use Rattle.frames.specs.Frame.{up}
use Rattle.lines.specs.Line.{LINE}
use Rattle.lines.specs.Answers.{Decoded, decoded_of, refused_of}
use Rattle.lines.proofs.Answers.{decoded_digit}
use Rattle.lines.proofs.Malformed.{decoded_long, decoded_cut, decoded_short}
use Rattle.state.specs.declared.State.{State}
use Rattle.detector.specs.Step.{step_of}
use Rattle.detector.proofs.Table.{answer_digit}
use Rattle.pieces.specs.Lines.{plain_of, short}
use Rattle.runner.specs.declared.Said.{Said}
use Rattle.runner.specs.Said.{said_of, denied_of, stepped_of, text_of}
use Rattle.runner.specs.Run.{reply_of, answer_of}

pub said_no : (s : State) (l : List ℕ) → ((decoded_of l).refusal ≡ 0 → ⊥) → said_of s l ≡ denied_of (decoded_of l).refusal s
unfolding said_of IF◌THEN◌ELSE◌
said_no s l h = rw (ne_eqb (decoded_of l).refusal 0 h)

pub said_ok : (s : State) (l : List ℕ) → (decoded_of l).refusal ≡ 0 → said_of s l ≡ stepped_of (step_of (decoded_of l).acf (decoded_of l).lags (decoded_of l).scale s)
unfolding said_of IF◌THEN◌ELSE◌
said_ok s l h = rw (eq-eqb (decoded_of l).refusal 0 h)

-- its number is a digit, so that its text has no `?`; and its text has four bytes
pub said_small : (s : State) (l : List ℕ) → (said_of s l).reply.refusal < 10
unfolding said_of stepped_of denied_of
said_small s l =
    by_test (λ (x : Said). x.reply.refusal < 10) (eqb (decoded_of l).refusal 0) _ _
    (λ t. answer_digit up (decoded_of l).acf (decoded_of l).lags (decoded_of l).scale s)
    (λ t. decoded_digit l)

pub text_four : (r : Reply) → length (text_of r) ≡ 4
unfolding text_of
text_four r = refl

pub answer_most : (s : State) (l : List ℕ) → length (answer_of s l) ≤ 4
unfolding answer_of
answer_most s l = let h = text_four (reply_of s l) in omega arith

-- ---- a line is known by what is read of it: so of one the first 85 bytes are enough, and a malformed one is answered `600`
module _ (s : State) where
  abbrev said_by : Decoded → Said
  said_by d = IF eqb d.refusal 0 THEN stepped_of (step_of d.acf d.lags d.scale s) ELSE denied_of d.refusal s

  said_as : (l : List ℕ) {d : Decoded} → decoded_of l ≡ d → said_of s l ≡ said_by d
  unfolding said_of
  said_as l e = ap said_by e

  pub said_short : (l : List ℕ) → said_of s (short l) ≡ said_of s l
  unfolding said_of
  said_short l = said_as (short l) (decoded_short l)

  pub said_long : (l : List ℕ) → (length l ≡ LINE → ⊥) → said_of s l ≡ denied_of 6 s
  unfolding refused_of IF◌THEN◌ELSE◌
  said_long l h = said_as l (decoded_long l h)

  pub said_cut : (l : List ℕ) → plain_of l ≡ length l → said_of s l ≡ denied_of 6 s
  unfolding refused_of IF◌THEN◌ELSE◌
  said_cut l p = said_as l (decoded_cut l p)
