-- `tone::acfh` gives one autocorrelation: after j turns the sum is the exact one of j products, and at the end it is doubled. Assumes nothing.
use mathlib.Core.Path.{◌≡◌}
use Prim.Native.Nat.{◌-◌, ◌≤◌}
use Rattle.numbers.specs.Sum.{sum}
use Rattle.tone.proofs.Exact.{term}
use Rattle.tone.proofs.acfh.Given as goal

abbrev pub invariant-loop-j : goal.invariant-loop-j
invariant-loop-j l = (l.j ≤ 160 - l.k) × (l.s ≡ sum l.j (term l.sofh l.k))

abbrev pub decreases-loop-j : goal.decreases-loop-j
decreases-loop-j l = 160 - l.k - l.j
