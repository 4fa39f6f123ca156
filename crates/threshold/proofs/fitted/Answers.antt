-- `threshold::fitted` halves a mantissa that has grown past 15 bits. Assumes nothing.
use Rattle.std.proofs.Common.{rules}
use mir.Facts.{to_z-of_z}
use Rattle.rows.specs.Choice.{IF◌THEN◌ELSE◌}
use Rattle.threshold.specs.Threshold.{fitted_of}
use Rattle.threshold.proofs.fitted.Goals as goal

pub returns-then-x-gt32767 : goal.returns-then-x-gt32767
unfolding fitted_of IF◌THEN◌ELSE◌
returns-then-x-gt32767 c = search (rules, to_z-of_z)

pub returns : goal.returns
unfolding fitted_of IF◌THEN◌ELSE◌
returns c = search (rules, to_z-of_z)
