-- `tone::scalauto` gives the scaling factor. Assumes nothing.
use Rattle.std.proofs.Common.{rules, arith}
use Rattle.std.proofs.lemmas.Int.{ints}
use mathlib.Core.Path.{◌≡◌}
use lib.IntN.{pos}
use mir.Facts.{to_z-of_z}
use Rattle.rows.specs.Choice.{IF◌THEN◌ELSE◌}
use Rattle.rows.proofs.Choice.{eqZ_yes, eqZ_no}
use Rattle.tone.specs.Autocorrelation.{scalauto_of}
use Rattle.tone.proofs.scalauto.Goals as goal

pub returns-then-smax-eq0 : goal.returns-then-smax-eq0
unfolding scalauto_of IF◌THEN◌ELSE◌
returns-then-smax-eq0 c = let e : c.args.smax ≡ pos 0 = omega (arith, ints) in rw (eqZ_yes e) (search rules)

pub returns : goal.returns
unfolding scalauto_of IF◌THEN◌ELSE◌
returns c =
    let n : c.args.smax ≡ pos 0 → ⊥ = λ e. omega (arith, ints, e, c.if-smax-eq0.false) in rw (eqZ_no n) (search (rules, to_z-of_z))
