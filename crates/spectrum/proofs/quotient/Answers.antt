-- `spectrum::quotient` gives the doubled quotient. Assumes nothing.
use Rattle.std.proofs.Common.{rules}
use mir.Facts.{to_z-of_z}
use Rattle.rows.specs.Choice.{IF◌THEN◌ELSE◌}
use Rattle.spectrum.specs.Spectrum.{quotient_of}
use Rattle.spectrum.proofs.quotient.Goals as goal

pub returns-then-temp-first : goal.returns-then-temp-first
unfolding quotient_of IF◌THEN◌ELSE◌
returns-then-temp-first c = search (rules, to_z-of_z)

pub returns : goal.returns
unfolding quotient_of IF◌THEN◌ELSE◌
returns c = search (rules, to_z-of_z)
