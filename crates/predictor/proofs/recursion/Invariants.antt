-- `predictor::recursion` gives the reflection coefficients. The invariants: what is left of each loop, from the arrays as they are, is what it was
-- at its start. Assumes nothing.
use Prim.Native.Nat.{◌+◌, ◌-◌}
use Rattle.predictor.specs.Schur.{inner_from, outer_from}
use Rattle.predictor.proofs.Turns.{arrays, Inner, Outer}
use Rattle.predictor.proofs.recursion.Given as goal

abbrev pub invariant-loop-m : goal.invariant-loop-m
invariant-loop-m l = Inner l.order l.n (l.c) (inner_from l.order (l.c) (l.order - l.n) 1 (arrays l.order l.initial.p l.initial.k)) l.p l.k l.m

abbrev pub decreases-loop-m : goal.decreases-loop-m
decreases-loop-m l = l.order + 1 - l.n - l.m

abbrev pub invariant-outer : goal.invariant-outer
invariant-outer l = Outer l.order (outer_from l.order l.order 1 (arrays l.order l.initial.p l.initial.k) l.initial.v) l.p l.k l.v l.n

abbrev pub decreases-outer : goal.decreases-outer
decreases-outer l = l.order + 1 - l.n
