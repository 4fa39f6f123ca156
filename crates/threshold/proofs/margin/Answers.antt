-- `threshold::margin` adds the margin to a pair. Assumes nothing.
use Rattle.std.proofs.Common.{rules, arith}
use Rattle.std.proofs.lemmas.Int.{ints}
use mathlib.Core.Path.{◌≡◌}
use mathlib.Core.Bool.{true, false}
use lib.IntN.{pos}
use lib.Signed.{lt_z}
use mir.Facts.{to_z-of_z}
use Rattle.rows.specs.Choice.{IF◌THEN◌ELSE◌}
use Rattle.rows.proofs.Choice.{eqZ_yes, eqZ_no}
use Rattle.threshold.specs.Threshold.{margin_of}
use Rattle.threshold.proofs.margin.Goals as goal

pub returns-in-Equal : goal.returns-in-Equal
unfolding margin_of IF◌THEN◌ELSE◌
returns-in-Equal c = let e : c.args.pvad.e ≡ pos 27 = grind (arith, ints) in rw (eqZ_yes e) (search (rules, to_z-of_z))

pub returns-in-Greater : goal.returns-in-Greater
unfolding margin_of IF◌THEN◌ELSE◌
returns-in-Greater c =
    let n : c.args.pvad.e ≡ pos 27 → ⊥ = λ e. grind (arith, ints) in
    let t : lt_z (pos 27) c.args.pvad.e ≡ true = grind (arith, ints) in
    rw (eqZ_no n, t) (search (rules, to_z-of_z))

pub returns-in-Less : goal.returns-in-Less
unfolding margin_of IF◌THEN◌ELSE◌
returns-in-Less c =
    let n : c.args.pvad.e ≡ pos 27 → ⊥ = λ e. grind (arith, ints) in
    let t : lt_z (pos 27) c.args.pvad.e ≡ false = grind (arith, ints) in
    rw (eqZ_no n, t) (search (rules, to_z-of_z))
