-- `card::call` meets its contract: a frame on a channel of the bank is stepped from the channel's state, and an accepted one's next state is stored there.
-- Assumes nothing.
use mathlib.Core.Path.{◌≡◌, refl, sym, ap, ap₂, ◌∙◌}
use mathlib.Core.Bool.{true}
use native.Mathlib.Omega.{arith}
use mir.Facts.{to_z-of_z}
use lib.IntN.{ℤ}
use Prim.Native.Nat.{◌<◌}
use lib.ListN.{length, get_or, set}
use Rattle.std.proofs.Common.{rules}
use Rattle.std.specs.Prelude.{Err}
use Rattle.std.proofs.lemmas.List.{get_or_default}
use Rattle.std.proofs.lemmas.Result.{err_from_is_err_and}
use Rattle.refusals.specs.Refusal.{number_of}
use Rattle.refusals.proofs.Laws.{number_digit}
use Rattle.frames.specs.Frame.{Frame}
use Rattle.frames.specs.Direction.{direction_in}
use Rattle.state.specs.declared.State.{State}
use Rattle.state.specs.Valid.{reset_of}
use Rattle.detector.specs.declared.Refused.{Refused}
use Rattle.detector.specs.Answer.{Answer}
use Rattle.detector.specs.Step.{refused_of, answer_for}
use Rattle.detector.specs.Run.{answer_to}
use Rattle.detector.specs.Result as step
use Rattle.card.specs.Called.{Called}
use Rattle.card.specs.Card.{call, in_bank, called_of, number_only, answer_of, bank_after, frame_of}
use Rattle.card.specs.Result.{called_in}
use Rattle.card.proofs.Orders.{call_answer, call_bank, call_out}
use Rattle.card.proofs.Histories.{refused}
use Rattle.card.proofs.Shared.{below, below_64}
use Rattle.card.proofs.call.Goals as goal
use Rattle.card.proofs.call.Goals.{After-frame}

-- the frame that is lent
abbrev lent : After-frame → Frame
lent c = let a = c.args in frame_of (direction_in a.direction) a.acf.now a.lags.now a.scalvad

inside : (c : After-frame) → in_bank (length c.args.bank.now) c.args.channel ≡ true
inside c = search rules

place : (c : After-frame) → c.args.channel < length c.args.bank.now
place c = below (length c.args.bank.now) c.args.channel c.in_bank.ensures c.if-not-in_bank.false

pub returns-then-not-in_bank-clause-value : goal.returns-then-not-in_bank-clause-value
unfolding called_in number_of
returns-then-not-in_bank-clause-value c = sym (call_out c.args.bank.now c.args.channel _ (search rules)).0

pub returns-then-not-in_bank-clause-bank_after : goal.returns-then-not-in_bank-clause-bank_after
returns-then-not-in_bank-clause-bank_after c = sym (call_out c.args.bank.now c.args.channel _ (search rules)).1

pub offset_bounds-bank-channel : goal.offset_bounds-bank-channel
offset_bounds-bank-channel c = let l = below_64 (length c.args.bank.now) c.args.channel c.in_bank.ensures c.if-not-in_bank.false in omega arith

pub slice_copy_out-frame : goal.slice_copy_out-frame
slice_copy_out-frame c = below (length c.args.bank.now) c.args.channel c.in_bank.ensures c.if-not-in_bank.false

pub offset_bounds-bank-channel-2 : goal.offset_bounds-bank-channel-2
offset_bounds-bank-channel-2 c = let l = below_64 (length c.args.bank.now) c.args.channel c.in_bank.ensures c.if-not-in_bank.false in omega arith

pub bounds-bank-channel : goal.bounds-bank-channel
bounds-bank-channel c = place (goal.at.bounds-bank-channel c).After-frame

-- what the step of the channel's state answers is what the card answers, and its next state goes into the bank
step_is : (c : After-frame) → step.answer_of c.frame.result ≡ answer_to (get_or c.args.bank.now c.args.channel reset_of) (lent c)
unfolding answer_to frame_of
step_is c =
    let a = c.args in
    c.frame.ensures
    ∙ ap₂ (λ (s : State) (z : ℤ). answer_for (direction_in a.direction) a.acf.now a.lags.now z s) (get_or_default a.bank.now a.channel _ reset_of (place c)) (to_z-of_z c.ranges.scalvad)

said_is : (c : After-frame) → called_of (step.answer_of c.frame.result) ≡ answer_of c.args.bank.now (call c.args.channel (lent c))
said_is c = ap called_of (step_is c) ∙ sym (call_answer c.args.bank.now c.args.channel (lent c) (inside c))

stored_is : (c : After-frame) → set c.args.bank.now c.args.channel (step.answer_of c.frame.result).next ≡ bank_after c.args.bank.now (call c.args.channel (lent c))
stored_is c =
    ap (λ (r : Answer). set c.args.bank.now c.args.channel r.next) (step_is c) ∙ sym (call_bank c.args.bank.now c.args.channel (lent c) (inside c))

-- a refusal of the step, by itself
refused_is : (r : Refused) → called_in (Err r.refusal) ≡ called_of (step.answer_of (Err r))
unfolding called_in called_of number_only step.answer_of refused_of
refused_is r = refl

refused_number : (r : Refused) → (called_of (step.answer_of (Err r))).refusal ≡ number_of r.refusal
unfolding called_of step.answer_of refused_of
refused_number r = refl

pub returns-in_err-a-clause-value : goal.returns-in_err-a-clause-value
returns-in_err-a-clause-value c =
    let p = err_from_is_err_and c.from_residual.result c.from_residual.ensures.1 in
    ap called_in (p.1 ∙ ap Err p.2)
    ∙ refused_is c.in_err-a.field-0.0
    ∙ ap (λ r. called_of (step.answer_of r)) (sym c.in_err-a.was)
    ∙ said_is (goal.at.returns-in_err-a-clause-value c).After-frame

pub returns-in_err-a-clause-bank_after : goal.returns-in_err-a-clause-bank_after
returns-in_err-a-clause-bank_after c =
    let x = (goal.at.returns-in_err-a-clause-bank_after c).After-frame in
    let r = c.in_err-a.field-0.0 in
    let n : (answer_of c.args.bank.now (call c.args.channel (lent x))).refusal ≡ number_of r.refusal =
    ap (λ (y : Called). y.refusal) (sym (said_is x) ∙ ap (λ y. called_of (step.answer_of y)) c.in_err-a.was) ∙ refused_number r in
    let d = number_digit r.refusal in
    sym (refused c.args.bank.now (call c.args.channel (lent x)) (λ e. omega arith))

pub returns-clause-value : goal.returns-clause-value
unfolding called_in called_of step.answer_of
returns-clause-value c =
    ap (λ r. called_of (step.answer_of r)) (sym c.in_ok-a.was) ∙ said_is (goal.at.returns-clause-value c).After-frame

pub returns-clause-bank_after : goal.returns-clause-bank_after
unfolding step.answer_of
returns-clause-bank_after c =
    ap (λ r. set c.args.bank.now c.args.channel (step.answer_of r).next) (sym c.in_ok-a.was) ∙ stored_is (goal.at.returns-clause-bank_after c).After-frame
