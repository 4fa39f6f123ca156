-- `averages::av0` makes the nine sums, plain where all four frames are of quarters, and clipped where not. Assumes nothing.
use Rattle.std.proofs.Common.{rules, of_calls}
use lib.IntN.{pos}
use mir.Facts.{to_z-of_z}
use Rattle.rows.proofs.Made.{made}
use Rattle.averages.proofs.av0.Goals as goal

pub returns-then-of_quarters : goal.returns-then-of_quarters
returns-then-of_quarters c = made _ _ _ 9 (λ i y q u k. (search (rules, of_calls, to_z-of_z), search (rules, of_calls))) _ c.from_fn.ensures.items

pub returns : goal.returns
returns c = made _ _ _ 9 (λ i y q u k. (search (rules, of_calls, to_z-of_z), search (rules, of_calls))) _ c.from_fn-2.ensures.items
