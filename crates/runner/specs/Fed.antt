-- What feeding a piece of the input answers: a runner holds the detector's state and the unfinished line. The lent output needs four bytes for
-- each byte of the piece: with less the piece is refused, number 1, and nothing changes. `called` in `proofs/Calls.antt` shows that what the pieces
-- write, in order, is what the run of the whole input writes. Assumes nothing.
use Rattle.std.specs.Prelude.{List, [], ℕ, eqb, length, Option, Some, None, unwrap_or, Result}
use Rattle.rows.specs.Choice.{IF◌THEN◌ELSE◌}
use Rattle.state.specs.Valid.{reset_of}
use Rattle.pieces.specs.Cut.{held_of}
use Rattle.pieces.specs.Calls.{Call, calls_give}
use Rattle.refusals.specs.declared.Refusal.{Refusal}
use Rattle.player.specs.declared.Player.{Player}
use Rattle.player.specs.Played as player
use Rattle.runner.specs.declared.Uplink.{Uplink}
use Rattle.runner.specs.Said.{answer_bytes}
use Rattle.runner.specs.Run.{answer_of}
use Rattle.runner.specs.Hears.{next_of, text_of}

abbrev pub start_of : Player Uplink
start_of = player.start_of (record { state = reset_of })

-- a piece, with n bytes of output lent: how many bytes are written, or a refusal
abbrev pub fed_of : Player Uplink → List ℕ → ℕ → Result ℕ Refusal
fed_of r p n = player.fed_of next_of text_of answer_bytes r p [] n

-- the player and the lent output afterwards
abbrev pub player_after : Player Uplink → List ℕ → ℕ → Player Uplink
player_after r p n = player.player_after next_of answer_bytes r p [] n

abbrev pub out_after : Player Uplink → List ℕ → List ℕ → List ℕ
out_after r p o = player.out_after next_of text_of answer_bytes r p [] o

-- the end of the input, with n bytes of output lent: what is carried is a line too
abbrev pub finish_of : Player Uplink → ℕ → Result ℕ Refusal
finish_of r n = player.finish_of next_of text_of answer_bytes r n

abbrev pub ended_of : Player Uplink → ℕ → Player Uplink
ended_of r n = player.ended_of next_of answer_bytes r n

abbrev pub out_ended : Player Uplink → List ℕ → List ℕ
out_ended r o = player.out_ended next_of text_of answer_bytes r o

-- the end of the input with nothing lent: the four bytes of an answer, if a line was begun
unfoldable pub end_of : Player Uplink → Option (List ℕ)
end_of r = IF eqb (length (held_of r.finder)) 0 THEN None ELSE Some (answer_of r.hearer.state (held_of r.finder))

-- ---- a run whose input comes in pieces, by the promises
-- what a call gives and leaves, and what the end gives
unfoldable pub given_of : Player Uplink → Call answer_bytes → List ℕ
given_of r c = player.given_of next_of text_of r [] c

unfoldable pub left_of : Player Uplink → Call answer_bytes → Player Uplink
left_of r c = player.left_of next_of r [] c

unfoldable pub last_of : Player Uplink → List ℕ
last_of r = unwrap_or (end_of r) []

-- all of it
unfoldable pub calls_from : Player Uplink → List (Call answer_bytes) → List ℕ
calls_from r cs = calls_give given_of left_of last_of r cs

-- and where the end is lent `o`
abbrev pub calls_lent : Player Uplink → List (Call answer_bytes) → List ℕ → List ℕ
calls_lent r cs o = player.calls_alone next_of text_of r cs o
