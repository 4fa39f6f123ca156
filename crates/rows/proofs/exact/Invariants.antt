-- `rows::exact` gives the exact sum of products: after k turns it is the sum of the first k, of which each is at most 2 ^ 27. Assumes nothing.
use mathlib.Core.Path.{◌≡◌}
use mathlib.Core.List.{List}
use Prim.Native.Nat.{ℕ, ◌^◌, ◌<◌, ◌≤◌}
use lib.IntN.{ℤ, nat_abs, ◌*ℤ◌}
use lib.ListN.{length}
use Rattle.numbers.specs.Sum.{sum, at}
use Rattle.rows.proofs.exact.Given as goal

-- the entries before k are numbers of 16 bits
abbrev pub Short : List ℤ → ℕ → Type 0
Short a k = (i : ℕ) → i < k → nat_abs (at a i) ≤ 2 ^ 15

abbrev pub invariant-loop-x : goal.invariant-loop-x
invariant-loop-x l = (l.s ≡ sum (length l.yielded) (λ i. at l.a i *ℤ at l.b i)) × Short l.a (length l.yielded)
