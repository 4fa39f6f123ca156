-- `rows::clipped` gives the running sum: after k turns it is the sum of the first k terms. Assumes nothing.
use mathlib.Core.Path.{◌≡◌}
use lib.ListN.{length}
use Rattle.numbers.specs.Sum.{at}
use Rattle.operations.specs.Operations.{l_mult}
use Rattle.rows.specs.Rows.{l_sum}
use Rattle.rows.proofs.clipped.Given as goal

abbrev pub invariant-loop-x : goal.invariant-loop-x
invariant-loop-x l = l.s ≡ l_sum (length l.yielded) (λ i. l_mult (at l.a i) (at l.b i))
