-- The detector hears a line beside its samples: it is answered, and the answer's text is put. Assumes nothing.
use mathlib.Core.Path.{sym, ap, subst, ◌∙◌}
use Prim.Native.Nat.{ℕ, ◌+◌, ◌<◌}
use Rattle.pieces.specs.Put.{put_of}
use Rattle.state.specs.declared.State.{State}
use Rattle.listener.specs.declared.Downlink.{Downlink}
use Rattle.listener.specs.declared.Reply.{Reply}
use Rattle.listener.specs.Said as one
use Rattle.listener.specs.Run.{reply_of, answer_of}
use Rattle.listener.specs.Hears as hears
use Rattle.listener.proofs.Steps.{said_small, text_five}
use Rattle.listener.proofs.DownlinkHearer.hear.Goals as goal

abbrev downlink : State → Downlink
downlink s = record { state = s }

pub text-requires : goal.text-requires
unfolding reply_of
text-requires c = subst (λ (x : Reply). x.refusal < 10) (sym c.reply-reply.ensures.value) (said_small _ _ _)

pub returns-clause-heard : goal.returns-clause-heard
unfolding hears.next_of
returns-clause-heard c = ap downlink c.reply-reply.ensures.state_after

pub returns-clause-wrote : goal.returns-clause-wrote
unfolding hears.text_of answer_of
returns-clause-wrote c = ap (λ (n : ℕ). c.args.at + n) (sym (text_five _))

pub returns-clause-written : goal.returns-clause-written
unfolding hears.text_of answer_of
returns-clause-written c =
    c.put.ensures ∙ ap (put_of c.args.out.now c.args.at) (c.text.ensures ∙ ap (λ (x : Reply). one.text_of x) c.reply-reply.ensures.value)
