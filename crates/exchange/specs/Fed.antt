-- What feeding a piece of a card's trace answers: an exchange holds the bank and the unfinished line. The lent output needs four bytes for each byte of
-- the piece: with less the piece is refused, number 1, and nothing changes. `called` in `proofs/Calls.antt` shows that what the pieces write, in order,
-- is what the run of the whole input writes. Assumes nothing.
use Rattle.std.specs.Prelude.{List, [], ℕ, eqb, length, Option, Some, None, unwrap_or, Result}
use Rattle.rows.specs.Choice.{IF◌THEN◌ELSE◌}
use Rattle.pieces.specs.Cut.{held_of}
use Rattle.pieces.specs.Calls.{Call, calls_give}
use Rattle.refusals.specs.declared.Refusal.{Refusal}
use Rattle.player.specs.declared.Player.{Player}
use Rattle.player.specs.Played as player
use Rattle.runner.specs.Said.{answer_bytes}
use Rattle.card.specs.History.{all_reset}
use Rattle.exchange.specs.declared.Bank.{Bank}
use Rattle.exchange.specs.Run.{channels, write_of}
use Rattle.exchange.specs.Hears.{next_of, text_of}

abbrev pub start_of : Player Bank
start_of = player.start_of (record { states = all_reset channels })

-- a piece, with n bytes of output lent: how many bytes are written, or a refusal
abbrev pub fed_of : Player Bank → List ℕ → ℕ → Result ℕ Refusal
fed_of x p n = player.fed_of next_of text_of answer_bytes x p [] n

-- the player and the lent output afterwards
abbrev pub player_after : Player Bank → List ℕ → ℕ → Player Bank
player_after x p n = player.player_after next_of answer_bytes x p [] n

abbrev pub out_after : Player Bank → List ℕ → List ℕ → List ℕ
out_after x p o = player.out_after next_of text_of answer_bytes x p [] o

-- the end of the input, with n bytes of output lent: what is carried is a line too
abbrev pub finish_of : Player Bank → ℕ → Result ℕ Refusal
finish_of x n = player.finish_of next_of text_of answer_bytes x n

abbrev pub ended_of : Player Bank → ℕ → Player Bank
ended_of x n = player.ended_of next_of answer_bytes x n

abbrev pub out_ended : Player Bank → List ℕ → List ℕ
out_ended x o = player.out_ended next_of text_of answer_bytes x o

-- the end of the input with nothing lent: the four bytes of an answer, if a line was begun
unfoldable pub end_of : Player Bank → Option (List ℕ)
end_of x = IF eqb (length (held_of x.finder)) 0 THEN None ELSE Some (write_of x.hearer.states (held_of x.finder))

-- ---- a run whose input comes in pieces, by the promises
-- what a call gives and leaves, and what the end gives
unfoldable pub given_of : Player Bank → Call answer_bytes → List ℕ
given_of x c = player.given_of next_of text_of x [] c

unfoldable pub left_of : Player Bank → Call answer_bytes → Player Bank
left_of x c = player.left_of next_of x [] c

unfoldable pub last_of : Player Bank → List ℕ
last_of x = unwrap_or (end_of x) []

-- all of it
unfoldable pub calls_from : Player Bank → List (Call answer_bytes) → List ℕ
calls_from x cs = calls_give given_of left_of last_of x cs

-- and where the end is lent `o`
abbrev pub calls_lent : Player Bank → List (Call answer_bytes) → List ℕ → List ℕ
calls_lent x cs o = player.calls_alone next_of text_of x cs o
