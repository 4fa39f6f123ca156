-- `lags::lagcount` counts along the row: what is counted, and what is left to count, make the whole. Assumes nothing.
use mathlib.Core.Path.{◌≡◌}
use lib.IntN.{pos, ◌+ℤ◌}
use lib.ListN.{drop}
use lib.Signed.{◌≤ℤ◌}
use Rattle.lags.specs.Lags.{lagcount_of}
use Rattle.lags.proofs.lagcount.Given as goal

abbrev pub invariant-loop-lag : goal.invariant-loop-lag
invariant-loop-lag l =
    (pos 0 ≤ℤ l.count) × (l.count ≤ℤ pos l.lag-index) × (l.count +ℤ pos (lagcount_of l.last (drop l.lag-index l.lag-items)) ≡ pos (lagcount_of l.oldlag l.lag-items))
