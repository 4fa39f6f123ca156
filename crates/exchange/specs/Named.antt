-- What is read of a line before its channel's state is taken out of the bank, and what is made of that state: the two steps of a line, as the code has
-- them. `line_steps` in `proofs/Steps.antt` shows that together they are `reply_of` and `next_of` of Run.antt. No public promise
-- names them. Assumes nothing.
use Rattle.std.specs.Prelude.{Bool, false, true, not, List, ℕ, ℤ, eqb, pos, replicate, drop, Result, Ok, Err}
use Rattle.rows.specs.Choice.{IF◌THEN◌ELSE◌}
use Rattle.refusals.specs.declared.Refusal.{Refusal}
use Rattle.refusals.specs.Refusal.{number_of}
use Rattle.lines.specs.Answers.{Decoded, parsed_of}
use Rattle.state.specs.declared.State.{State}
use Rattle.state.specs.Valid.{reset_of}
use Rattle.detector.specs.Step.{step_of}
use Rattle.runner.specs.declared.Said.{Said}
use Rattle.runner.specs.Said.{stepped_of, denied_of}
use Rattle.card.specs.Card.{in_bank}
use Rattle.exchange.specs.declared.Order.{Order}
use Rattle.exchange.specs.declared.Order.TheVariants.{Call, Reset}
use Rattle.exchange.specs.declared.Named as code
use Rattle.exchange.specs.Line.{channel_in, calls_of, orderly}
use Rattle.exchange.specs.Run.{channels}

-- what a line names: a channel of the bank, and its reset or the numbers of a frame; or 6, or 9, and channel 0
pub record Named : Type 0 where
  pub refusal : ℕ
  pub resets : Bool
  pub channel : ℕ
  pub acf : List ℤ
  pub lags : List ℕ
  pub scale : ℤ

-- a line that names no channel of the bank: its number, and zeros
unfoldable pub none_of : ℕ → Named
none_of n = record { refusal = n; resets = false; channel = 0; acf = replicate 9 (pos 0); lags = replicate 4 0; scale = pos 0 }

-- one that names this channel: whether it is a reset, and the numbers of the frame, or zeros
unfoldable pub found_of : ℕ → Bool → Decoded → Named
found_of channel resets d =
    IF in_bank channels channel THEN record { refusal = 0; resets = resets; channel = channel; acf = d.acf; lags = d.lags; scale = d.scale }
    ELSE none_of 9

-- any line: 6, and then 9
unfoldable pub named_of : List ℕ → Named
named_of l = IF orderly l THEN found_of (channel_in l) (not (calls_of l)) (parsed_of (drop 2 l)) ELSE none_of 6

-- what code reads of a line, as its number and values
unfoldable pub asked_in : ℕ → Order → Named
asked_in c (Call f) = record { refusal = 0; resets = false; channel = c; acf = f.acf; lags = f.lags; scale = f.scale }
asked_in c Reset = record { refusal = 0; resets = true; channel = c; acf = replicate 9 (pos 0); lags = replicate 4 0; scale = pos 0 }

unfoldable pub read_in : Result code.Named Refusal → Named
read_in (Ok n) = asked_in n.channel n.order
read_in (Err e) = none_of (number_of e)

-- what is answered, and the state afterwards
unfoldable pub said_of : State → Named → Said
said_of s n =
    IF eqb n.refusal 0 THEN IF n.resets THEN denied_of 0 reset_of ELSE stepped_of (step_of n.acf n.lags n.scale s)
    ELSE denied_of n.refusal s
