-- `listener::denied` answers with the number, and keeps the state. Assumes nothing.
use mathlib.Core.Path.{ap}
use Rattle.listener.specs.declared.Reply.{Reply}
use Rattle.listener.specs.Said.{denied_of}
use Rattle.listener.proofs.denied.Goals as goal

pub returns : goal.returns
unfolding denied_of
returns c = ap (λ (r : Reply). record { reply = r; next = c.args.s }) c.only.ensures
