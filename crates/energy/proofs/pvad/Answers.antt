-- `energy::pvad` gives the filtered energy as a pair. Assumes nothing.
use Rattle.std.proofs.Common.{rules}
use mir.Facts.{to_z-of_z}
use Rattle.energy.specs.Energy.{pvad_of}
use Rattle.energy.proofs.pvad.Goals as goal

pub returns : goal.returns
unfolding pvad_of
returns c = search (rules, to_z-of_z)
