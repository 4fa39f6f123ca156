-- A card: a bank of 1 to 64 channel states, and what is asked of it. An order names a channel, counted from 0: a call is a frame there, in either
-- direction, and a reset starts the channel anew. An order on a bank of another size, or on a channel that is not in it, is refusal 9, before all
-- others, and leaves the bank as it was. Assumes nothing.
use Rattle.std.specs.Prelude.{Bool, false, ◌&&◌, List, ℕ, leb, ltb, ℤ, pos, length, get_or, set}
use Rattle.rows.specs.Choice.{IF◌THEN◌ELSE◌}
use Rattle.pairs.specs.Pairs.{pair}
use Rattle.frames.specs.Frame.{Direction, Frame}
use Rattle.state.specs.declared.State.{State}
use Rattle.state.specs.Valid.{reset_of}
use Rattle.detector.specs.Answer.{Answer}
use Rattle.detector.specs.Run.{answer_to}
use Rattle.card.specs.Called.{Called}

pub data Order : Type 0 where
  call : ℕ → Frame → Order
  reset : ℕ → Order

unfoldable pub channel_of : Order → ℕ
channel_of (call i f) = i
channel_of (reset i) = i

-- the bank has 1 to 64 channels, and the channel is one of them
unfoldable pub in_bank : ℕ → ℕ → Bool
in_bank n channel = leb 1 n && (leb n 64 && ltb channel n)

-- the state of a channel; where the bank has no such channel, that after a reset
unfoldable pub state_at : List State → ℕ → State
state_at bank i = get_or bank i reset_of

-- ---- what an order on a channel of the bank makes of its state, and answers

-- what the step answers, but for the next state, which the bank keeps
unfoldable pub called_of : Answer → Called
called_of a = record { refusal = a.refusal; vad = a.vad; vvad = a.vvad; stat = a.stat; acf0 = a.acf0; pvad = a.pvad }

-- a number by itself: flags 0 and stat false, energies 0 in both parts
unfoldable pub number_only : ℕ → Called
number_only n = record { refusal = n; vad = false; vvad = false; stat = false; acf0 = pair (pos 0) (pos 0); pvad = pair (pos 0) (pos 0) }

unfoldable pub next_for : Order → State → State
next_for (call i f) s = (answer_to s f).next
next_for (reset i) s = reset_of

unfoldable pub said_for : Order → State → Called
said_for (call i f) s = called_of (answer_to s f)
said_for (reset i) s = number_only 0

-- ---- every order, on every bank: what is answered, and the bank afterwards
unfoldable pub answer_of : List State → Order → Called
answer_of bank o = IF in_bank (length bank) (channel_of o) THEN said_for o (state_at bank (channel_of o)) ELSE number_only 9

unfoldable pub bank_after : List State → Order → List State
bank_after bank o = IF in_bank (length bank) (channel_of o) THEN set bank (channel_of o) (next_for o (state_at bank (channel_of o))) ELSE bank

-- ---- the parameters of a call as a frame
unfoldable pub frame_of : Direction → List ℤ → List ℕ → ℤ → Frame
frame_of d l_acf lags scalvad = record { direction = d; l_acf = l_acf; lags = lags; scalvad = scalvad }
