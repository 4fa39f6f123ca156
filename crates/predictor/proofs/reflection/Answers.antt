-- `predictor::reflection` gives the reflection coefficients of an order. Assumes nothing.
use Rattle.std.proofs.Common.{rules, arith}
use Rattle.std.proofs.lemmas.Int.{ints}
use mathlib.Core.Path.{◌≡◌}
use lib.IntN.{pos}
use Rattle.numbers.specs.Sum.{at}
use Rattle.rows.specs.Choice.{IF◌THEN◌ELSE◌}
use Rattle.rows.specs.Rows.{row}
use Rattle.rows.proofs.Choice.{eqZ_yes, eqZ_no}
use Rattle.predictor.specs.Schur.{reflection_of}
use Rattle.predictor.proofs.reflection.Goals as goal

pub returns-then-acf-eq0 : goal.returns-then-acf-eq0
unfolding reflection_of IF◌THEN◌ELSE◌ row
returns-then-acf-eq0 c = let e : at c.args.acf 0 ≡ pos 0 = omega (arith, ints) in rw (eqZ_yes e) (search rules)

pub returns : goal.returns
unfolding reflection_of IF◌THEN◌ELSE◌
returns c = let n : at c.args.acf 0 ≡ pos 0 → ⊥ = λ e. omega (arith, ints, e, c.if-acf-eq0.false) in rw (eqZ_no n) (search rules)
