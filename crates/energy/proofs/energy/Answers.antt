-- `energy::energy` is clause 6.1: silent for a frame whose first autocorrelation is 0, and otherwise the two energies. Assumes nothing.
use Rattle.std.proofs.Common.{rules, arith}
use Rattle.std.proofs.lemmas.Int.{ints}
use mathlib.Core.Path.{◌≡◌}
use lib.IntN.{pos}
use mir.Facts.{to_z-of_z}
use Rattle.numbers.specs.Sum.{at}
use Rattle.rows.specs.Choice.{IF◌THEN◌ELSE◌}
use Rattle.rows.proofs.Choice.{eqZ_yes, eqZ_no}
use Rattle.energy.specs.Energy.{energy_of}
use Rattle.energy.proofs.energy.Goals as goal

pub returns-then-acf-eq0 : goal.returns-then-acf-eq0
unfolding energy_of IF◌THEN◌ELSE◌
returns-then-acf-eq0 c = let e : at c.args.acf 0 ≡ pos 0 = omega (arith, ints) in rw (eqZ_yes e) (search rules)

pub returns : goal.returns
unfolding energy_of IF◌THEN◌ELSE◌
returns c =
    let n : at c.args.acf 0 ≡ pos 0 → ⊥ = λ e. omega (arith, ints, e, c.if-acf-eq0.false) in
    rw (eqZ_no n) (search (rules, to_z-of_z))
