-- Lines of a card's trace that the checker computes: document 01's whole case on the last channel and on one that is not there, a reset, and what is
-- neither; a short run, with the end of the input inside a line; and the lines of two channels, taken apart. So what Orders.antt says has instances.
-- Assumes nothing.
use Rattle.std.specs.Prelude.{◌≡◌, refl, Bool, true, false, List, [], ◌∷◌, ◌++◌, ℕ}
use Rattle.rows.specs.Choice.{IF◌THEN◌ELSE◌}
use Rattle.rows.specs.Rows.{all}
use Rattle.pieces.specs.Lines.{on_first, lines_of}
use Rattle.pieces.specs.Pieces.{state_after, text_after}
use Rattle.lines.specs.Hex.{value_of, hex_of, number_from, number_of}
use Rattle.lines.specs.Line.{formed_of}
use Rattle.lines.specs.Worked.{line}
use Rattle.runner.specs.Said.{numeral_of, flag_of, text_of}
use Rattle.card.specs.Card.{channel_of, in_bank, state_at, number_only, next_for, said_for, answer_of, bank_after}
use Rattle.card.specs.History.{all_reset}
use Rattle.exchange.specs.Line.{channel_in, calls_of, resets_of, orderly, order_in}
use Rattle.exchange.specs.Run.{replied_of, malformed, reply_of, next_of, write_of, answers_of, run_of}
use Rattle.exchange.specs.Orders.{lines_from, lines_on}

-- whether a line is well formed, whether it is a call, and its channel
unfoldable pub Reads : List ℕ → Bool → Bool → ℕ → Type 0
Reads l formed calls channel = (orderly l ≡ formed) × (calls_of l ≡ calls) × (channel_in l ≡ channel)

pub lines_read :
    -- 3F and 40 before the line; 00 and a line feed; 00, a blank and a line feed; and a line with no channel
    Reads (51 ∷ 70 ∷ line) true true 63
    × Reads (52 ∷ 48 ∷ line) true true 64
    × Reads (48 ∷ 48 ∷ 10 ∷ []) true false 0
    × (orderly (48 ∷ 48 ∷ 32 ∷ 10 ∷ []) ≡ false)
    × (orderly line ≡ false)
unfolding Reads line orderly calls_of resets_of channel_in formed_of number_of number_from hex_of value_of all IF◌THEN◌ELSE◌
lines_read = ((refl, refl, refl), (refl, refl, refl), (refl, refl, refl), refl, refl)

-- a reset of 3F, one of 40, an empty line, and a reset that the end of the input cuts
pub short_run :
    run_of (51 ∷ 70 ∷ 10 ∷ 52 ∷ 48 ∷ 10 ∷ 10 ∷ 51 ∷ 70 ∷ [])
    ≡ (48 ∷ 48 ∷ 48 ∷ 10 ∷ []) ++ (57 ∷ 48 ∷ 48 ∷ 10 ∷ []) ++ (54 ∷ 48 ∷ 48 ∷ 10 ∷ []) ++ (54 ∷ 48 ∷ 48 ∷ 10 ∷ [])
unfolding run_of answers_of write_of reply_of next_of replied_of malformed order_in orderly calls_of resets_of channel_in formed_of number_of number_from hex_of value_of all text_of numeral_of flag_of answer_of bank_after channel_of in_bank state_at number_only next_for said_for all_reset lines_of on_first state_after text_after IF◌THEN◌ELSE◌
short_run = refl

pub nothing : run_of [] ≡ []
unfolding run_of answers_of lines_of text_after
nothing = refl

-- the same line on 00, on 01, on 00 again, a reset of 01, and once more on each
abbrev pub two_calls : List (List ℕ)
two_calls = (48 ∷ 48 ∷ line) ∷ (48 ∷ 49 ∷ line) ∷ (48 ∷ 48 ∷ line) ∷ (48 ∷ 49 ∷ 10 ∷ []) ∷ (48 ∷ 49 ∷ line) ∷ (48 ∷ 48 ∷ line) ∷ []

pub apart : (lines_on 0 two_calls ≡ line ∷ line ∷ line ∷ []) × (lines_on 1 two_calls ≡ line ∷ []) × (lines_on 2 two_calls ≡ [])
unfolding line lines_on lines_from orderly calls_of resets_of channel_in formed_of number_of number_from hex_of value_of all IF◌THEN◌ELSE◌
apart = (refl, refl, refl)
