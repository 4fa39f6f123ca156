-- `spectrum::measured` gives the distance measure from the quotient. Assumes nothing.
use Rattle.std.proofs.Common.{rules}
use mir.Facts.{to_z-of_z}
use Rattle.spectrum.specs.Spectrum.{measured_of}
use Rattle.spectrum.proofs.measured.Goals as goal

pub returns : goal.returns
unfolding measured_of
returns c = search (rules, to_z-of_z)
