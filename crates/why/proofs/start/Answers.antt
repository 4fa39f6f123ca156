-- `why::start` holds the state after a reset, and no number. Assumes nothing.
use Rattle.why.specs.Explain.{start_of}
use Rattle.why.proofs.start.Goals as goal

pub returns : goal.returns
unfolding start_of
returns c = rw c.reset-state.ensures
