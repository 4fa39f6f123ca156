-- `threshold::way_taken` makes the clause's tests in its order. Assumes nothing.
use Rattle.std.proofs.Common.{rules}
use mir.Facts.{to_z-of_z}
use Rattle.rows.specs.Choice.{IF◌THEN◌ELSE◌}
use Rattle.threshold.specs.Ways.{risen_of, way_taken}
use Rattle.threshold.proofs.way_taken.Goals as goal

pub returns-then-greater : goal.returns-then-greater
unfolding way_taken risen_of IF◌THEN◌ELSE◌
returns-then-greater c = search (rules, to_z-of_z)

pub returns-then-ptch : goal.returns-then-ptch
unfolding way_taken risen_of IF◌THEN◌ELSE◌
returns-then-ptch c = search (rules, to_z-of_z)

pub returns-then-not-stat : goal.returns-then-not-stat
unfolding way_taken risen_of IF◌THEN◌ELSE◌
returns-then-not-stat c = search (rules, to_z-of_z)

pub returns-then-tone : goal.returns-then-tone
unfolding way_taken risen_of IF◌THEN◌ELSE◌
returns-then-tone c = search (rules, to_z-of_z)

pub returns-then-risen-le8 : goal.returns-then-risen-le8
unfolding way_taken risen_of IF◌THEN◌ELSE◌
returns-then-risen-le8 c = search (rules, to_z-of_z)

pub returns : goal.returns
unfolding way_taken risen_of IF◌THEN◌ELSE◌
returns c = search (rules, to_z-of_z)
