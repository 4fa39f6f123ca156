-- The meaning of a card's run: from the bytes of the whole input to the bytes of the output. A well-formed line is answered what the card answers its
-- order; a malformed one names no order: it is refused with 6, and leaves the bank as it was. The bank has 64 channels, and they are all reset at the
-- start. An answer's text is that of `runner`. A line cut by the end of the input is a line too, and malformed: it has no line feed. Nothing in is
-- nothing out. Assumes nothing.
use Rattle.std.specs.Prelude.{false, List, ℕ}
use Rattle.rows.specs.Choice.{IF◌THEN◌ELSE◌}
use Rattle.counts.specs.declared.Reply.{Reply}
use Rattle.state.specs.declared.State.{State}
use Rattle.pieces.specs.Lines.{lines_of}
use Rattle.pieces.specs.Pieces.{state_after, text_after}
use Rattle.runner.specs.Said.{text_of}
use Rattle.card.specs.Called.{Called}
use Rattle.card.specs.Card.{answer_of, bank_after}
use Rattle.card.specs.History.{all_reset}
use Rattle.exchange.specs.Line.{orderly, order_in}

-- the channels of the card
abbrev pub channels : ℕ
channels = 64

-- what a line is answered: the number, vad and vvad of what the card answers
unfoldable pub replied_of : Called → Reply
replied_of c = record { refusal = c.refusal; vad = c.vad; vvad = c.vvad }

unfoldable pub malformed : Reply
malformed = record { refusal = 6; vad = false; vvad = false }

-- one line: its answer, and the bank for the next
unfoldable pub reply_of : List State → List ℕ → Reply
reply_of bank l = IF orderly l THEN replied_of (answer_of bank (order_in l)) ELSE malformed

unfoldable pub next_of : List State → List ℕ → List State
next_of bank l = IF orderly l THEN bank_after bank (order_in l) ELSE bank

-- what is written
unfoldable pub write_of : List State → List ℕ → List ℕ
write_of bank l = text_of (reply_of bank l)

-- lines one after the other, from a bank on
unfoldable pub bank_of : List State → List (List ℕ) → List State
bank_of bank ls = state_after next_of bank ls

unfoldable pub answers_of : List State → List (List ℕ) → List ℕ
answers_of bank ls = text_after next_of write_of bank ls

-- the whole input
unfoldable pub run_of : List ℕ → List ℕ
run_of input = answers_of (all_reset channels) (lines_of input)
