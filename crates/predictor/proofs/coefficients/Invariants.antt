-- `predictor::coefficients` gives the coefficients after the order 8: before the turn m they are those of the order m - 1. Assumes nothing.
use mathlib.Core.Path.{◌≡◌}
use Prim.Native.Nat.{◌-◌, ◌≤◌}
use Rattle.predictor.proofs.StepUp.{held}
use Rattle.predictor.proofs.coefficients.Given as goal

abbrev pub invariant-loop-m : goal.invariant-loop-m
invariant-loop-m l = (1 ≤ l.m) × (l.m ≤ 5) × (l.coef ≡ held l.vpar (l.m - 1))

abbrev pub decreases-loop-m : goal.decreases-loop-m
decreases-loop-m l = 5 - l.m

abbrev pub invariant-loop-m-2 : goal.invariant-loop-m-2
invariant-loop-m-2 l = (5 ≤ l.m) × (l.m ≤ 9) × (l.coef ≡ held l.vpar (l.m - 1))

abbrev pub decreases-loop-m-2 : goal.decreases-loop-m-2
decreases-loop-m-2 l = 9 - l.m
