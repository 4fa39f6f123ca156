-- One order by the test of the bank: what it answers and leaves on a channel of the bank, and where there is none. Assumes nothing.
use mathlib.Core.Path.{◌≡◌}
use mathlib.Core.Bool.{true, false}
use mathlib.Core.List.{List}
use Prim.Native.Nat.{ℕ}
use lib.ListN.{length, get_or, set}
use Rattle.rows.proofs.Choice.{by_yes, by_no}
use Rattle.frames.specs.Frame.{Frame}
use Rattle.state.specs.declared.State.{State}
use Rattle.state.specs.Valid.{reset_of}
use Rattle.detector.specs.Run.{answer_to}
use Rattle.card.specs.Card.{Order, call, reset, channel_of, in_bank, state_at, number_only, next_for, said_for, called_of, answer_of, bank_after}

-- looked at first: a definition that is wrong is refused by an instance that comes out otherwise

module _ (bank : List State) (o : Order) where
  pub answer_in : in_bank (length bank) (channel_of o) ≡ true → answer_of bank o ≡ said_for o (state_at bank (channel_of o))
  unfolding answer_of
  answer_in t = by_yes _ _ t

  pub answer_out : in_bank (length bank) (channel_of o) ≡ false → answer_of bank o ≡ number_only 9
  unfolding answer_of
  answer_out t = by_no _ _ t

  pub bank_in : in_bank (length bank) (channel_of o) ≡ true → bank_after bank o ≡ set bank (channel_of o) (next_for o (state_at bank (channel_of o)))
  unfolding bank_after
  bank_in t = by_yes _ _ t

  pub bank_out : in_bank (length bank) (channel_of o) ≡ false → bank_after bank o ≡ bank
  unfolding bank_after
  bank_out t = by_no _ _ t

-- ---- a call, by the step of its state
module _ (bank : List State) (i : ℕ) (f : Frame) where
  pub call_answer : in_bank (length bank) i ≡ true → answer_of bank (call i f) ≡ called_of (answer_to (get_or bank i reset_of) f)
  unfolding channel_of said_for state_at
  call_answer t = answer_in bank (call i f) t

  pub call_bank : in_bank (length bank) i ≡ true → bank_after bank (call i f) ≡ set bank i (answer_to (get_or bank i reset_of) f).next
  unfolding channel_of next_for state_at
  call_bank t = bank_in bank (call i f) t

  pub call_out : in_bank (length bank) i ≡ false → (answer_of bank (call i f) ≡ number_only 9) × (bank_after bank (call i f) ≡ bank)
  unfolding channel_of
  call_out t = (answer_out bank (call i f) t, bank_out bank (call i f) t)

-- ---- a reset
module _ (bank : List State) (i : ℕ) where
  pub reset_answer : in_bank (length bank) i ≡ true → answer_of bank (reset i) ≡ number_only 0
  unfolding channel_of said_for
  reset_answer t = answer_in bank (reset i) t

  pub reset_bank : in_bank (length bank) i ≡ true → bank_after bank (reset i) ≡ set bank i reset_of
  unfolding channel_of next_for
  reset_bank t = bank_in bank (reset i) t

  pub reset_out : in_bank (length bank) i ≡ false → (answer_of bank (reset i) ≡ number_only 9) × (bank_after bank (reset i) ≡ bank)
  unfolding channel_of
  reset_out t = (answer_out bank (reset i) t, bank_out bank (reset i) t)
