-- `predictor::coefficients` gives the coefficients after the order 8: before the turn m they are those of the order m - 1. Assumes nothing.
use mathlib.Core.Path.{ap, ◌∙◌}
use mathlib.Core.List.{List, [], ◌∷◌, ◌++◌}
use native.Mathlib.Omega.{arith}
use lib.IntN.{ℤ, pos}
use mir.Syntax.{w32}
use Rattle.numbers.proofs.Read.{back}
use Rattle.rows.specs.Choice.{IF◌THEN◌ELSE◌}
use Rattle.rows.specs.Rows.{row}
use Rattle.predictor.specs.StepUp.{l_coef_of}
use Rattle.predictor.proofs.StepUp.{zeros}
use Rattle.predictor.proofs.coefficients.Goals as goal

abbrev above : List ℤ
above = pos 0 ∷ pos 0 ∷ pos 0 ∷ pos 0 ∷ pos 0 ∷ pos 0 ∷ pos 0 ∷ pos 0 ∷ []

pub loop-m-init : goal.loop-m-init
unfolding l_coef_of row IF◌THEN◌ELSE◌
loop-m-init c = (omega arith, omega arith, ap (λ (z : ℤ). zeros ++ z ∷ above) (back w32 c.l_shl.type_inv ∙ c.l_shl.ensures))
