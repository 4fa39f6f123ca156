-- `predictor::vpar` gives the reflection coefficients of the averages. Assumes nothing.
use Rattle.std.proofs.Common.{rules, arith}
use Rattle.std.proofs.lemmas.Int.{ints}
use mathlib.Core.Path.{◌≡◌}
use lib.IntN.{pos}
use Rattle.numbers.specs.Sum.{at}
use Rattle.rows.specs.Choice.{IF◌THEN◌ELSE◌}
use Rattle.rows.specs.Rows.{row}
use Rattle.rows.proofs.Choice.{eqZ_yes, eqZ_no}
use Rattle.predictor.specs.Schur.{reflection_of, vpar_of}
use Rattle.predictor.proofs.vpar.Goals as goal

pub returns-then-av1-eq0 : goal.returns-then-av1-eq0
unfolding vpar_of reflection_of IF◌THEN◌ELSE◌ row
returns-then-av1-eq0 c = let e : at c.args.av1 0 ≡ pos 0 = omega (arith, ints) in rw (eqZ_yes e) (search rules)

pub returns : goal.returns
unfolding vpar_of reflection_of IF◌THEN◌ELSE◌
returns c = let n : at c.args.av1 0 ≡ pos 0 → ⊥ = λ e. omega (arith, ints, e, c.if-av1-eq0.false) in rw (eqZ_no n) (search rules)
