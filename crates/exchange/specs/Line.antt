-- A line of a card's trace and its order. Two upper-case hexadecimal digits name a channel. After them stand the 81 digits of a frame and a line feed, which is a call, of the
-- uplink; or a line feed alone, which is a reset. A line of any other form is malformed. Characters are their ASCII codes: 10 is a line feed.
-- Assumes nothing.
use Rattle.std.specs.Prelude.{Bool, ◌&&◌, ◌||◌, List, ℕ, eqb, length, take, drop, get_or}
use Rattle.rows.specs.Choice.{IF◌THEN◌ELSE◌}
use Rattle.rows.specs.Rows.{all}
use Rattle.frames.specs.Frame.{up, Frame}
use Rattle.lines.specs.Hex.{hex_of, number_of}
use Rattle.lines.specs.Line.{frame_of, formed_of}
use Rattle.card.specs.Card.{Order, call, reset}

-- the channel that the first two digits name
unfoldable pub channel_in : List ℕ → ℕ
channel_in l = number_of (take 2 l)

-- after the channel stands a frame, or nothing but the line feed
unfoldable pub calls_of : List ℕ → Bool
calls_of l = formed_of (drop 2 l)

unfoldable pub resets_of : List ℕ → Bool
resets_of l = eqb (length l) 3 && eqb (get_or l 2 0) 10

-- the line is well formed
unfoldable pub orderly : List ℕ → Bool
orderly l = all hex_of (take 2 l) && (calls_of l || resets_of l)

-- the frame of 81 digits, whatever its numbers are: what is to be refused of them is the card's business
unfoldable pub frame_at : List ℕ → Frame
frame_at l = record { direction = up; l_acf = (frame_of l).acf; lags = (frame_of l).lags; scalvad = (frame_of l).scale }

-- the order of a line that is well formed
unfoldable pub order_in : List ℕ → Order
order_in l = IF calls_of l THEN call (channel_in l) (frame_at (drop 2 l)) ELSE reset (channel_in l)
