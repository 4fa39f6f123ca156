-- `threshold::at_most` gives the lesser of two pairs. Assumes nothing.
use Rattle.std.proofs.Common.{rules}
use mir.Facts.{to_z-of_z}
use Rattle.rows.specs.Choice.{IF◌THEN◌ELSE◌}
use Rattle.threshold.specs.Threshold.{at_most_of}
use Rattle.threshold.proofs.at_most.Goals as goal

pub returns-then-greater : goal.returns-then-greater
unfolding at_most_of IF◌THEN◌ELSE◌
returns-then-greater c = search (rules, to_z-of_z)

pub returns-else-greater : goal.returns-else-greater
unfolding at_most_of IF◌THEN◌ELSE◌
returns-else-greater c = search (rules, to_z-of_z)
