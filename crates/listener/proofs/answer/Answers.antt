-- `listener::answer` is the answer and the state that the detector is left in. Assumes nothing.
use mathlib.Core.Path.{ap₂}
use Rattle.state.specs.declared.State.{State}
use Rattle.listener.specs.declared.Reply.{Reply}
use Rattle.listener.specs.declared.Said.{Said}
use Rattle.listener.specs.Run.{next_of, reply_of}
use Rattle.listener.proofs.answer.Goals as goal

abbrev made : Reply → State → Said
made r s = record { reply = r; next = s }

pub returns : goal.returns
unfolding next_of reply_of
returns c = ap₂ made c.reply-reply.ensures.value c.reply-reply.ensures.state_after
