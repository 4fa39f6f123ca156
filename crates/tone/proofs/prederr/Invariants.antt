-- `tone::prederr` gives the normalised prediction error: after some turns, of so many coefficients. Assumes nothing.
use mathlib.Core.Path.{◌≡◌}
use Rattle.tone.specs.Gain.{prederr_of}
use Rattle.tone.proofs.prederr.Given as goal

abbrev pub invariant-loop-r : goal.invariant-loop-r
invariant-loop-r l = l.err ≡ prederr_of l.fn.rc l.r-index
