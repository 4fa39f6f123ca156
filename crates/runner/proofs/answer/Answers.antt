-- `runner::answer` is the answer and the state that the detector is left in. Assumes nothing.
use mathlib.Core.Path.{ap₂}
use Rattle.counts.specs.declared.Reply.{Reply}
use Rattle.state.specs.declared.State.{State}
use Rattle.runner.specs.declared.Said.{Said}
use Rattle.runner.specs.Run.{next_of, reply_of}
use Rattle.runner.proofs.answer.Goals as goal

abbrev made : Reply → State → Said
made r s = record { reply = r; next = s }

pub returns : goal.returns
unfolding next_of reply_of
returns c = ap₂ made c.answered-reply.ensures.value c.answered-reply.ensures.state_after
