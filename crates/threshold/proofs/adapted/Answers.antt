-- `threshold::adapted` gives the new threshold. Assumes nothing.
use Rattle.std.proofs.Common.{rules}
use mir.Facts.{to_z-of_z}
use Rattle.rows.specs.Choice.{IF◌THEN◌ELSE◌}
use Rattle.threshold.specs.Threshold.{adapted_of}
use Rattle.threshold.proofs.adapted.Goals as goal

pub returns : goal.returns
unfolding adapted_of IF◌THEN◌ELSE◌
returns c = search (rules, to_z-of_z)
