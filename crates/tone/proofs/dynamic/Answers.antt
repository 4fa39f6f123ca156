-- `tone::dynamic` scales the samples by their largest magnitude. Assumes nothing.
use Rattle.std.proofs.Common.{rules}
use mir.Facts.{to_z-of_z}
use Rattle.tone.specs.Autocorrelation.{dynamic_of}
use Rattle.tone.proofs.Small.{scalauto_le}
use Rattle.tone.proofs.dynamic.Goals as goal

pub scaled-requires : goal.scaled-requires
scaled-requires c = let h = scalauto_le c.smax.result in search (rules, to_z-of_z)

pub returns : goal.returns
unfolding dynamic_of
returns c = search (rules, to_z-of_z)
