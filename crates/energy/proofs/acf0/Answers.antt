-- `energy::acf0` gives the energy of a frame as a pair. Assumes nothing.
use Rattle.std.proofs.Common.{rules}
use mir.Facts.{to_z-of_z}
use Rattle.energy.specs.Energy.{sacf_of, acf0_of}
use Rattle.energy.proofs.acf0.Goals as goal

pub returns : goal.returns
unfolding acf0_of sacf_of
returns c = search (rules, to_z-of_z)
