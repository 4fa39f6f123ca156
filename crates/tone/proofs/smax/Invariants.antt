-- `tone::smax` gives the largest magnitude: after some turns it is that of the largest and the least of so many samples. Assumes nothing.
use Rattle.tone.proofs.Largest.{Ends}
use Rattle.tone.proofs.smax.Given as goal

abbrev pub invariant-loop-x : goal.invariant-loop-x
invariant-loop-x l = Ends l.fn.sofh l.x-index (l.high) (l.low)
