-- `threshold::tripled` gives three times a pair. Assumes nothing.
use Rattle.std.proofs.Common.{rules}
use mir.Facts.{to_z-of_z}
use Rattle.threshold.specs.Threshold.{tripled_of}
use Rattle.threshold.proofs.tripled.Goals as goal

pub returns : goal.returns
unfolding tripled_of
returns c = search (rules, to_z-of_z)
