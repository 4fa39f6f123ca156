-- What is asked of a card. `asked` in `proofs/Asked.antt` shows it. Assumes nothing.
use Rattle.std.specs.Prelude.{◌≡◌, ◌≢◌, true, false, List, ℕ, length}
use Rattle.frames.specs.Frame.{Frame}
use Rattle.state.specs.declared.State.{State}
use Rattle.state.specs.Valid.{reset_of}
use Rattle.detector.specs.Run.{answer_to, state_from}
use Rattle.card.specs.Card.{Order, call, reset, channel_of, in_bank, state_at, called_of, number_only, answer_of, bank_after}
use Rattle.card.specs.History.{all_reset, bank_from, heard, orders_on}

-- of one order, on any bank
pub record OneOrder (bank : List State) (o : Order) : Type 0 where
  -- 9 is given exactly if the bank has another size than 1 to 64, or the channel is not in it
  pub nine : in_bank (length bank) (channel_of o) ≡ false → answer_of bank o ≡ number_only 9
  pub nine_only : (answer_of bank o).refusal ≡ 9 → in_bank (length bank) (channel_of o) ≡ false
  -- a refusal of any number has flags 0 and energies 0, and leaves every state as it was
  pub silent : (answer_of bank o).refusal ≢ 0 → answer_of bank o ≡ number_only (answer_of bank o).refusal
  pub refused : (answer_of bank o).refusal ≢ 0 → bank_after bank o ≡ bank
  -- every other channel keeps its state, and the bank its size
  pub others : (i : ℕ) → i ≢ channel_of o → state_at (bank_after bank o) i ≡ state_at bank i
  pub size : length (bank_after bank o) ≡ length bank

-- of two orders on different channels: the same bank in either order, and the same two answers
pub record TwoOrders (bank : List State) (o p : Order) : Type 0 where
  pub bank_alike : bank_after (bank_after bank o) p ≡ bank_after (bank_after bank p) o
  pub first_alike : answer_of (bank_after bank p) o ≡ answer_of bank o
  pub second_alike : answer_of (bank_after bank o) p ≡ answer_of bank p

-- of channel i of a bank
pub record OnChannel (bank : List State) (i : ℕ) : Type 0 where
  -- a call answers what the step of its direction answers for the channel's state, and the step's next state is the channel's
  pub answers : (f : Frame) → answer_of bank (call i f) ≡ called_of (answer_to (state_at bank i) f)
  pub steps : (f : Frame) → state_at (bank_after bank (call i f)) i ≡ (answer_to (state_at bank i) f).next
  -- a reset is answered 0, and starts it anew
  pub reset_answers : answer_of bank (reset i) ≡ number_only 0
  pub restarts : state_at (bank_after bank (reset i)) i ≡ reset_of

pub record Asked : Type 0 where
  pub one : (bank : List State) (o : Order) → OneOrder bank o
  pub two : (bank : List State) (o p : Order) → channel_of o ≢ channel_of p → TwoOrders bank o p
  pub on : (bank : List State) (i : ℕ) → in_bank (length bank) i ≡ true → OnChannel bank i
  -- over whole histories, from any bank on in which channel i is as after a reset: a call there is answered as by one detector by itself, after what
  -- that channel has heard
  pub alone : (bank : List State) (i : ℕ) (os : List Order) (f : Frame) → in_bank (length bank) i ≡ true → state_at bank i ≡ reset_of
      → answer_of (bank_from bank os) (call i f) ≡ called_of (answer_to (state_from reset_of (heard bank i os)) f)
  -- what a channel has heard goes by the orders on that channel alone: without those on the others it has heard the same
  pub own : (bank : List State) (i : ℕ) (os : List Order) → heard bank i os ≡ heard bank i (orders_on i os)
  -- so in a bank of n channels that was all reset an answer depends on what the channel has heard, its present frame, the bank's size and the channel's
  -- number, and on nothing else
  pub only : (n i : ℕ) (os os' : List Order) (f : Frame) → heard (all_reset n) i os ≡ heard (all_reset n) i os'
      → answer_of (bank_from (all_reset n) os) (call i f) ≡ answer_of (bank_from (all_reset n) os') (call i f)
