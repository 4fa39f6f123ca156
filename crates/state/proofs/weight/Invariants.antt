-- `state::weight` sums the true magnitudes: after some turns, so many of them. Assumes nothing.
use mathlib.Core.Path.{◌≡◌}
use Prim.Native.Nat.{suc, ◌*◌, ◌≤◌}
use lib.IntN.{nat_abs}
use Rattle.numbers.specs.Sum.{at, total}
use Rattle.state.proofs.weight.Given as goal

abbrev pub invariant-loop-x : goal.invariant-loop-x
invariant-loop-x l = (l.sum ≤ 32768 * l.x-index) × (l.sum ≡ total l.x-index (λ i. nat_abs (at l.fn.rvad (suc i))))
