-- `detector::step` answers as the definition does, for every input. Assumes nothing.
use Rattle.numbers.proofs.Read.{zreads}
use Rattle.frames.specs.Direction.{direction_in}
use Rattle.detector.proofs.step.Goals as goal

pub returns : goal.returns
unfolding direction_in
returns c = let f = c.ranges.scalvad in simp zreads at c.frame.ensures
