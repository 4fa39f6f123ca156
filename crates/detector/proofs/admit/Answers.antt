-- `detector::admit` looks at the buffers, the samples, the state and the frame, in this order. Assumes nothing.
use mathlib.Core.Path.{◌≡◌, ap₂, ◌∙◌}
use mathlib.Core.Bool.{true}
use mathlib.Core.List.{List}
use Prim.Native.Nat.{ℕ}
use borrow.Author.Tests.{eq-eqb, ne_eqb}
use lib.IntN.{ℤ, pos}
use Rattle.std.proofs.Common.{rules}
use Rattle.numbers.proofs.Read.{zreads}
use Rattle.rows.specs.Choice.{IF◌THEN◌ELSE◌}
use Rattle.rows.proofs.Fill.{first_whole}
use Rattle.refusals.specs.Refusal.{number_of, number_in}
use Rattle.frames.specs.Frame.{lengths_ok, frame_refusal_of}
use Rattle.detector.specs.Refusal.{refusal_of}
use Rattle.detector.proofs.admit.Goals as goal
use Rattle.detector.proofs.admit.Goals.{Else-lags-ne-LAGS, Else-not-state_ok, then-acf-ne-NUMBERS-via-then-acf-ne-NUMBERS, then-acf-ne-NUMBERS-via-else-acf-ne-NUMBERS+then-lags-ne-LAGS}

lengths : (c : Else-lags-ne-LAGS) → lengths_ok c.args.acf.now c.args.lags.now ≡ true
unfolding lengths_ok
lengths c = rw (eq-eqb _ 9 c.if-acf-ne-NUMBERS.false, eq-eqb _ 4 c.if-lags-ne-LAGS.false)

pub returns-then-acf-ne-NUMBERS : goal.returns-then-acf-ne-NUMBERS
unfolding refusal_of lengths_ok number_of number_in IF◌THEN◌ELSE◌
returns-then-acf-ne-NUMBERS c =
    elim c.then-acf-ne-NUMBERS.branch [
      | then-acf-ne-NUMBERS-via-then-acf-ne-NUMBERS w ↦ rw (ne_eqb _ 9 w.if-acf-ne-NUMBERS.true)
      | then-acf-ne-NUMBERS-via-else-acf-ne-NUMBERS+then-lags-ne-LAGS w ↦ rw (eq-eqb _ 9 w.if-acf-ne-NUMBERS.false, ne_eqb _ 4 w.if-lags-ne-LAGS.true)
    ]

pub returns-then-not-samples_ok : goal.returns-then-not-samples_ok
unfolding refusal_of number_of number_in IF◌THEN◌ELSE◌
returns-then-not-samples_ok c =
    let l = lengths (goal.at.returns-then-not-samples_ok c).Else-lags-ne-LAGS in
    search rules

pub returns-then-not-state_ok : goal.returns-then-not-state_ok
unfolding refusal_of number_of number_in IF◌THEN◌ELSE◌
returns-then-not-state_ok c =
    let l = lengths (goal.at.returns-then-not-state_ok c).Else-lags-ne-LAGS in
    search rules

pub returns : goal.returns
unfolding refusal_of IF◌THEN◌ELSE◌
returns c =
    let a = c.args in
    let f = c.ranges.scalvad in
    let l = lengths (goal.at.returns c).Else-lags-ne-LAGS in
    let n = c.nine.ensures ∙ first_whole 9 a.acf.now (pos 0) c.if-acf-ne-NUMBERS.false in
    let k = c.four.ensures ∙ first_whole 4 a.lags.now 0 c.if-lags-ne-LAGS.false in
    let r = simp zreads at c.check.ensures in
    r ∙ ap₂ (λ (x : List ℤ) (y : List ℕ). frame_refusal_of x y a.scalvad) n k ∙ search rules
