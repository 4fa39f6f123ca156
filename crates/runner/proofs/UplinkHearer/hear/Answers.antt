-- The detector hears a line: it is answered, and the answer's text is put. Assumes nothing.
use mathlib.Core.Path.{sym, ap, ◌∙◌}
use Prim.Native.Nat.{ℕ, ◌+◌}
use Rattle.pieces.specs.Put.{put_of}
use Rattle.counts.specs.declared.Reply.{Reply}
use Rattle.state.specs.declared.State.{State}
use Rattle.runner.specs.declared.Uplink.{Uplink}
use Rattle.runner.specs.Said as one
use Rattle.runner.specs.Run.{answer_of}
use Rattle.runner.specs.Hears as hears
use Rattle.runner.proofs.Steps.{text_four}
use Rattle.runner.proofs.UplinkHearer.hear.Goals as goal

abbrev uplink : State → Uplink
uplink s = record { state = s }

pub returns-clause-heard : goal.returns-clause-heard
unfolding hears.next_of
returns-clause-heard c = ap uplink c.answered-reply.ensures.state_after

pub returns-clause-wrote : goal.returns-clause-wrote
unfolding hears.text_of answer_of
returns-clause-wrote c = ap (λ (n : ℕ). c.args.at + n) (sym (text_four _))

pub returns-clause-written : goal.returns-clause-written
unfolding hears.text_of answer_of
returns-clause-written c =
    c.put.ensures ∙ ap (put_of c.args.out.now c.args.at) (c.text.ensures ∙ ap (λ (x : Reply). one.text_of x) c.answered-reply.ensures.value)
