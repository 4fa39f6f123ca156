-- The bank hears a line: the state of the named channel is taken out of it, and its next one is stored. Assumes nothing.
use borrow.Author.Rules.{rules}
use mathlib.Core.Path.{◌≡◌, sym, ap, subst, ◌∙◌}
use mathlib.Core.Bool.{false}
use mathlib.Core.List.{List}
use Prim.Native.Nat.{ℕ, ◌+◌, ◌<◌}
use native.Mathlib.Omega.{arith}
use lib.ListN.{length, get_or, set}
use Rattle.std.specs.Prelude.{Ok}
use Rattle.counts.specs.declared.Reply.{Reply}
use Rattle.state.specs.declared.State.{State}
use Rattle.state.specs.Valid.{reset_of}
use Rattle.pieces.specs.Put.{put_of}
use Rattle.runner.specs.declared.Said.{Said}
use Rattle.runner.specs.Said as runner
use Rattle.runner.proofs.Steps.{text_four}
use Rattle.exchange.specs.declared.Bank.{Bank}
use Rattle.exchange.specs.declared.Named as code
use Rattle.exchange.specs.Run.{channels, next_of, reply_of, write_of}
use Rattle.exchange.specs.Named.{Named, said_of, named_of, read_in}
use Rattle.exchange.specs.Hears as hears
use Rattle.exchange.proofs.Steps.{Steps, line_steps, named_in, any_default, asked_named, refused_steps}
use Rattle.exchange.proofs.BankHearer.hear.Goals as goal
use Rattle.exchange.proofs.BankHearer.hear.Goals.{in-Ok, in-Err}

-- the channel is one of the 64
named : (n : code.Named) (l : List ℕ) → read_in (Ok n) ≡ named_of l → n.channel < 64
named n l e = subst (λ (i : ℕ). i < 64) (asked_named n) (subst (λ (x : Named). x.channel < 64) (sym e) (named_in l))

pub offset_bounds-self-named : goal.offset_bounds-self-named
offset_bounds-self-named c = let h = named c.in-Ok.named c.args.line.now c.in-Ok.ensures in search rules

pub bounds-self-named : goal.bounds-self-named
bounds-self-named c = named c.in-Ok.named c.args.line.now c.in-Ok.ensures

pub offset_bounds-self-named-in-Ok : goal.offset_bounds-self-named-in-Ok
offset_bounds-self-named-in-Ok c = let h = named c.in-Ok.named c.args.line.now c.in-Ok.ensures in search rules

pub bounds-self-named-in-Ok : goal.bounds-self-named-in-Ok
bounds-self-named-in-Ok c = named c.in-Ok.named c.args.line.now c.in-Ok.ensures

-- what is said of the channel's state, and the two steps together
module _ (bank : List State) (l : List ℕ) (n : code.Named) (d : State) (x : Said) (size : length bank ≡ channels) (e : read_in (Ok n) ≡ named_of l) (h : x ≡ said_of (get_or bank n.channel d) (read_in (Ok n))) where
  abbrev m : Named
  m = read_in (Ok n)

  steps : Steps bank l m
  steps = subst (Steps bank l) (sym e) (line_steps bank l size)

  said : x ≡ said_of (get_or bank m.channel reset_of) m
  said =
      let k = named n l e in
      h
      ∙ ap (λ (s : State). said_of s m) (any_default bank n.channel d reset_of (omega arith))
      ∙ ap (λ (i : ℕ). said_of (get_or bank i reset_of) m) (sym (asked_named n))

  next_is : set bank n.channel x.next ≡ next_of bank l
  next_is = ap (λ (i : ℕ). set bank i x.next) (sym (asked_named n)) ∙ (ap (λ (y : Said). set bank m.channel y.next) said ∙ steps.next)

  reply_is : x.reply ≡ reply_of bank l
  reply_is = ap (λ (y : Said). y.reply) said ∙ steps.reply

abbrev only : ℕ → Reply
only k = record { refusal = k; vad = false; vvad = false }

abbrev bank_of : List State → Bank
bank_of states = record { states = states }

pub returns-clause-heard : goal.returns-clause-heard
unfolding hears.next_of
returns-clause-heard c =
    let b = c.args.self.now.states in
    let l = c.args.line.now in
    elim c.match-read.branch [
      | in-Ok w ↦ w.self-is ∙ ap bank_of (next_is b l w.in-Ok.named _ w.answer-said.result (search rules) w.in-Ok.ensures w.answer-said.ensures)
      | in-Err w ↦ w.self-is ∙ ap bank_of (refused_steps b l (search rules) w.in-Err.refusal w.in-Err.ensures).1
    ]

pub returns-clause-wrote : goal.returns-clause-wrote
unfolding hears.text_of write_of
returns-clause-wrote c = ap (λ (n : ℕ). c.args.at + n) (sym (text_four _))

pub returns-clause-written : goal.returns-clause-written
unfolding hears.text_of write_of
returns-clause-written c =
    let b = c.args.self.now.states in
    let l = c.args.line.now in
    let r : c.match-read.reply ≡ reply_of b l = elim c.match-read.branch [
      | in-Ok w ↦ w.reply-is ∙ reply_is b l w.in-Ok.named _ w.answer-said.result (search rules) w.in-Ok.ensures w.answer-said.ensures
      | in-Err w ↦ w.reply-is ∙ (w.only-reply.ensures ∙ (ap only w.number.ensures.value ∙ (refused_steps b l (search rules) w.in-Err.refusal w.in-Err.ensures).0))
    ] in
    c.put.ensures ∙ ap (put_of c.args.out.now c.args.at) (c.text.ensures ∙ ap runner.text_of r)
