-- `card::reset` meets its contract: where the test of the bank holds, the state after a reset is stored at the channel's place. Assumes nothing.
use mathlib.Core.Path.{◌≡◌, refl, sym, ap, ◌∙◌}
use Prim.Native.Nat.{ℕ}
use native.Mathlib.Omega.{arith}
use lib.ListN.{length, set}
use Rattle.std.proofs.Common.{rules}
use Rattle.refusals.specs.Refusal.{number_of, number_in}
use Rattle.state.specs.declared.State.{State}
use Rattle.card.specs.Called.{Called}
use Rattle.card.specs.Card.{number_only}
use Rattle.card.proofs.Orders.{reset_answer, reset_bank, reset_out}
use Rattle.card.proofs.Shared.{below, below_64}
use Rattle.card.proofs.reset.Goals as goal

-- the numbers that are answered
number_is : (n : ℕ) → (number_only n).refusal ≡ n
unfolding number_only
number_is n = refl

pub offset_bounds-bank-channel : goal.offset_bounds-bank-channel
offset_bounds-bank-channel c = let l = below_64 (length c.args.bank.now) c.args.channel c.in_bank.ensures c.if-not-in_bank.false in omega arith

pub bounds-bank-channel : goal.bounds-bank-channel
bounds-bank-channel c = below (length c.args.bank.now) c.args.channel c.in_bank.ensures c.if-not-in_bank.false

pub returns-then-not-in_bank-clause-value : goal.returns-then-not-in_bank-clause-value
unfolding number_in number_of
returns-then-not-in_bank-clause-value c =
    sym (ap (λ (y : Called). y.refusal) (reset_out c.args.bank.now c.args.channel (search rules)).0 ∙ number_is 9)

pub returns-then-not-in_bank-clause-bank_after : goal.returns-then-not-in_bank-clause-bank_after
returns-then-not-in_bank-clause-bank_after c = sym (reset_out c.args.bank.now c.args.channel (search rules)).1

pub returns-clause-value : goal.returns-clause-value
unfolding number_in
returns-clause-value c = sym (ap (λ (y : Called). y.refusal) (reset_answer c.args.bank.now c.args.channel (search rules)) ∙ number_is 0)

pub returns-clause-bank_after : goal.returns-clause-bank_after
returns-clause-bank_after c =
    ap (λ (s : State). set c.args.bank.now c.args.channel s) c.reset.ensures ∙ sym (reset_bank c.args.bank.now c.args.channel (search rules))
