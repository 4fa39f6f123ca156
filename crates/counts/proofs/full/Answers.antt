-- `counts::full` adds in 64 bits, where no sum of counts is too large. Assumes nothing.
use Rattle.counts.specs.Counts.{full_of}
use Rattle.counts.proofs.full.Goals as goal

pub returns : goal.returns
unfolding full_of
returns c = rw (c.from.ensures, c.from-2.ensures, c.from-3.ensures, c.from-4.ensures, c.from-5.ensures)
