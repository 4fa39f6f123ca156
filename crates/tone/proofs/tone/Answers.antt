-- `tone::tone` gives the flag: the scaled samples are small, so that the sums are exact. Assumes nothing.
use Rattle.std.proofs.Common.{rules, arith}
use Rattle.std.proofs.lemmas.Grind.{common_steps}
use mathlib.Core.Path.{sym, ap, subst, ◌∙◌}
use mathlib.Core.List.{List}
use Prim.Native.Nat.{ℕ}
use lib.IntN.{ℤ, pos}
use mir.Syntax.{w16}
use mir.Val.{SFits}
use Rattle.numbers.specs.Sum.{at}
use Rattle.operations.specs.Operations.{mult_r}
use Rattle.operations.proofs.Laws.{mult_r_fits}
use Rattle.numbers.proofs.Magnitude.{abs_fits}
use Rattle.rows.specs.Choice.{IF◌THEN◌ELSE◌}
use Rattle.rows.proofs.Fill.{length_row, row_all}
use Rattle.tone.specs.Window.{window_of, sofh_of}
use Rattle.tone.specs.Autocorrelation.{dynamic_of, Small}
use Rattle.tone.specs.Tone.{tone_of, flag_of}
use Rattle.tone.proofs.Small.{small}
use Rattle.tone.proofs.tone.Goals as goal

windowed_small : (sof : List ℤ) → Small (dynamic_of (sofh_of sof))
unfolding sofh_of
windowed_small sof =
    let f : ℕ → ℤ = λ k. mult_r (at sof k) (window_of k) in
    small (sofh_of sof) (omega (arith, length_row 160 f)) (row_all (SFits w16) 160 f (abs_fits w16 (pos 0) (omega arith)) (λ k. mult_r_fits (at sof k) (window_of k)))

pub rc-requires : goal.rc-requires
rc-requires c = subst Small (sym (c.dynamic.ensures ∙ ap dynamic_of c.sofh.ensures)) (windowed_small _)

pub returns-then-sof-eq160 : goal.returns-then-sof-eq160
unfolding flag_of tone_of IF◌THEN◌ELSE◌
returns-then-sof-eq160 c = search rules

pub returns-else-sof-eq160 : goal.returns-else-sof-eq160
unfolding flag_of tone_of IF◌THEN◌ELSE◌
returns-else-sof-eq160 c = grind (arith, common_steps)
