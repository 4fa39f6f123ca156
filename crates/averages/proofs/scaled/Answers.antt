-- `averages::scaled` shifts each entry. Assumes nothing.
use Rattle.std.proofs.Common.{rules, of_calls}
use lib.IntN.{pos}
use mir.Syntax.{w32}
use mir.Facts.{to_z-of_z}
use Rattle.rows.proofs.Made.{mapped_fits}
use Rattle.averages.specs.Averages.{l_temp_of}
use Rattle.averages.proofs.scaled.Goals as goal

pub returns : goal.returns
unfolding l_temp_of
returns c =
    let f = c.ranges.scalvad in
    mapped_fits w32 _ _ _ _ _ 9 (pos 0) _ c.well_formed.0.1.1 (search rules)
    (λ i u r y q k. (search (rules, of_calls, to_z-of_z), search (rules, of_calls))) c.map.ensures.items
