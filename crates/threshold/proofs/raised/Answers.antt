-- `threshold::raised` adds a 16th to a pair. Assumes nothing.
use Rattle.std.proofs.Common.{rules}
use mir.Facts.{to_z-of_z}
use Rattle.threshold.specs.Threshold.{raised_of}
use Rattle.threshold.proofs.raised.Goals as goal

pub returns : goal.returns
unfolding raised_of
returns c = search (rules, to_z-of_z)
