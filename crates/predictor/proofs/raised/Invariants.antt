-- `predictor::raised` gives the coefficients of an order from those of the order before: after the turns up to i, the entries below i. The others
-- are still as they were. Assumes nothing.
use Prim.Native.Nat.{◌-◌}
use Rattle.predictor.proofs.StepUp.{Made}
use Rattle.predictor.proofs.raised.Given as goal

abbrev pub invariant-loop-i : goal.invariant-loop-i
invariant-loop-i l = Made l.vpar l.coef l.m l.n l.out l.i

abbrev pub decreases-loop-i : goal.decreases-loop-i
decreases-loop-i l = l.n - l.i
