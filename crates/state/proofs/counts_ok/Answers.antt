-- `state::counts_ok` tests each count, and the last lag. Assumes nothing.
use Rattle.std.proofs.Common.{rules, arith}
use mir.Facts.{to_z-of_z}
use Rattle.state.specs.Valid.{counts_ok}
use Rattle.state.proofs.counts_ok.Goals as goal

pub returns-then-short_within-5 : goal.returns-then-short_within-5
unfolding counts_ok
returns-then-short_within-5 c = search (rules, to_z-of_z)

pub returns-else-short_within-5 : goal.returns-else-short_within-5
unfolding counts_ok
returns-else-short_within-5 c = grind (arith, to_z-of_z)
