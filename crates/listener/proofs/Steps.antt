-- One line with its samples: what the proofs of `answer` and `hear` cite. Assumes nothing.
use mathlib.Core.Path.{◌≡◌, refl, ap}
use mathlib.Core.List.{List}
use Prim.Native.Nat.{ℕ, ◌<◌}
use borrow.Author.Tests.{eq-eqb, ne_eqb}
use lib.Dec.{eqb}
use lib.ListN.{length}
use Rattle.rows.specs.Choice.{IF◌THEN◌ELSE◌}
use Rattle.rows.proofs.Choice.{by_test}
use Rattle.frames.specs.Frame.{down}
use Rattle.lines.specs.Answers.{Decoded, decoded_of, refused_of}
use Rattle.lines.proofs.Answers.{decoded_digit}
use Rattle.lines.proofs.Malformed.{decoded_cut}
use Rattle.state.specs.declared.State.{State}
use Rattle.detector.specs.Step.{downlink_of}
use Rattle.detector.proofs.Table.{answer_digit}
use Rattle.pieces.specs.Lines.{plain_of}
use Rattle.samples.specs.Samples.{sof_of}
use Rattle.listener.specs.declared.Reply.{Reply}
use Rattle.listener.specs.declared.Said.{Said}
use Rattle.listener.specs.Said.{said_of, denied_of, stepped_of, text_of}

module _ (s : State) (b l : List ℕ) where
  pub said_no : ((decoded_of l).refusal ≡ 0 → ⊥) → said_of s b l ≡ denied_of (decoded_of l).refusal s
  unfolding said_of IF◌THEN◌ELSE◌
  said_no h = rw (ne_eqb (decoded_of l).refusal 0 h)

  pub said_ok : (decoded_of l).refusal ≡ 0 → said_of s b l ≡ stepped_of (downlink_of (decoded_of l).acf (decoded_of l).lags (decoded_of l).scale (sof_of b) s)
  unfolding said_of IF◌THEN◌ELSE◌
  said_ok h = rw (eq-eqb (decoded_of l).refusal 0 h)

  -- its number is a digit
  pub said_small : (said_of s b l).reply.refusal < 10
  unfolding said_of stepped_of denied_of
  said_small =
      by_test (λ (x : Said). x.reply.refusal < 10) (eqb (decoded_of l).refusal 0) _ _
      (λ t. answer_digit (down (sof_of b)) (decoded_of l).acf (decoded_of l).lags (decoded_of l).scale s)
      (λ t. decoded_digit l)

-- its text has five bytes
pub text_five : (r : Reply) → length (text_of r) ≡ 5
unfolding text_of
text_five r = refl

-- ---- a line is known by what is read of it: so one without a line feed is malformed
module _ (s : State) (b : List ℕ) where
  abbrev said_by : Decoded → Said
  said_by d = IF eqb d.refusal 0 THEN stepped_of (downlink_of d.acf d.lags d.scale (sof_of b) s) ELSE denied_of d.refusal s

  said_as : (l : List ℕ) {d : Decoded} → decoded_of l ≡ d → said_of s b l ≡ said_by d
  unfolding said_of
  said_as l e = ap said_by e

  pub said_cut : (l : List ℕ) → plain_of l ≡ length l → said_of s b l ≡ denied_of 6 s
  unfolding refused_of IF◌THEN◌ELSE◌
  said_cut l p = said_as l (decoded_cut l p)
