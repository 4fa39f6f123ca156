-- `spectrum::divided` gives the sum over the first entry. Assumes nothing.
use Rattle.std.proofs.Common.{rules}
use mir.Facts.{to_z-of_z}
use Rattle.rows.specs.Choice.{IF◌THEN◌ELSE◌}
use Rattle.spectrum.specs.Spectrum.{divided_of}
use Rattle.spectrum.proofs.divided.Goals as goal

pub returns-then-sum-lt0 : goal.returns-then-sum-lt0
unfolding divided_of IF◌THEN◌ELSE◌
returns-then-sum-lt0 c = search (rules, to_z-of_z)

pub returns-else-sum-lt0 : goal.returns-else-sum-lt0
unfolding divided_of IF◌THEN◌ELSE◌
returns-else-sum-lt0 c = search (rules, to_z-of_z)
