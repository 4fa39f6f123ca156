-- `averages::clipped_at` adds four entries, in the order of the clause. Assumes nothing.
use Rattle.std.proofs.Common.{rules}
use mir.Facts.{to_z-of_z}
use Rattle.averages.specs.Averages.{l_av0_of}
use Rattle.averages.proofs.clipped_at.Goals as goal

pub returns : goal.returns
unfolding l_av0_of
returns c = search (rules, to_z-of_z)
