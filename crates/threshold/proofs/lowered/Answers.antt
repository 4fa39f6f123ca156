-- `threshold::lowered` takes a 32nd off a pair. Assumes nothing.
use Rattle.std.proofs.Common.{rules}
use mir.Facts.{to_z-of_z}
use Rattle.rows.specs.Choice.{IF◌THEN◌ELSE◌}
use Rattle.threshold.specs.Threshold.{lowered_of}
use Rattle.threshold.proofs.lowered.Goals as goal

pub returns-then-m-lt16384 : goal.returns-then-m-lt16384
unfolding lowered_of IF◌THEN◌ELSE◌
returns-then-m-lt16384 c = search (rules, to_z-of_z)

pub returns : goal.returns
unfolding lowered_of IF◌THEN◌ELSE◌
returns c = search (rules, to_z-of_z)
