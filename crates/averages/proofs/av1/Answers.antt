-- `averages::av1` reads the nine entries from the pointer on. Assumes nothing.
use Rattle.std.proofs.Common.{rules, of_calls}
use lib.IntN.{pos}
use mir.Facts.{to_z-of_z}
use Rattle.rows.proofs.Made.{made}
use Rattle.averages.specs.Averages.{l_av1_of}
use Rattle.averages.proofs.av1.Goals as goal

pub returns : goal.returns
unfolding l_av1_of
returns c = made _ _ _ 9 (λ i y q u k. (search (rules, of_calls, to_z-of_z), search (rules, of_calls))) _ c.from_fn.ensures.items
