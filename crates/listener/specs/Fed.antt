-- What feeding a piece of the trace answers: a listener holds the detector's state and the unfinished line. With the piece the samples of the lines that
-- end in it are lent, 320 bytes for each, or what is there of them. The lent output needs five bytes for each byte of the piece: with less the piece is
-- refused, number 1, and nothing changes. `called` in `proofs/Calls.antt` shows that what the pieces write, in order, is what the run of the whole trace
-- beside all samples writes. Assumes nothing.
use Rattle.std.specs.Prelude.{List, [], ℕ, eqb, length, Option, Some, None, unwrap_or, Result}
use Rattle.rows.specs.Choice.{IF◌THEN◌ELSE◌}
use Rattle.state.specs.Valid.{reset_of}
use Rattle.pieces.specs.Cut.{held_of}
use Rattle.pieces.specs.Calls.{Call, calls_give}
use Rattle.samples.specs.Beside.{gives_beside, leaves_beside, ends_beside}
use Rattle.refusals.specs.declared.Refusal.{Refusal}
use Rattle.player.specs.declared.Player.{Player}
use Rattle.player.specs.Played as player
use Rattle.listener.specs.declared.Downlink.{Downlink}
use Rattle.listener.specs.Said as one
use Rattle.listener.specs.Said.{answer_bytes}
use Rattle.listener.specs.Hears.{next_of, text_of}

abbrev pub start_of : Player Downlink
start_of = player.start_of (record { state = reset_of })

-- a piece and its samples, with n bytes of output lent: how many bytes are written, or a refusal
abbrev pub fed_of : Player Downlink → List ℕ → List ℕ → ℕ → Result ℕ Refusal
fed_of r p samples n = player.fed_of next_of text_of answer_bytes r p samples n

-- the player and the lent output afterwards
abbrev pub player_after : Player Downlink → List ℕ → List ℕ → ℕ → Player Downlink
player_after r p samples n = player.player_after next_of answer_bytes r p samples n

abbrev pub out_after : Player Downlink → List ℕ → List ℕ → List ℕ → List ℕ
out_after r p samples o = player.out_after next_of text_of answer_bytes r p samples o

-- the end of the trace, with n bytes of output lent: what is carried is a line too
abbrev pub finish_of : Player Downlink → ℕ → Result ℕ Refusal
finish_of r n = player.finish_of next_of text_of answer_bytes r n

abbrev pub ended_of : Player Downlink → ℕ → Player Downlink
ended_of r n = player.ended_of next_of answer_bytes r n

abbrev pub out_ended : Player Downlink → List ℕ → List ℕ
out_ended r o = player.out_ended next_of text_of answer_bytes r o

-- the end where no output is lent: the five bytes of an answer, where anything is carried. What is carried has no line feed, and is malformed
unfoldable pub end_of : Player Downlink → Option (List ℕ)
end_of r = IF eqb (length (held_of r.finder)) 0 THEN None ELSE Some (one.text_of (one.denied_of 6 r.hearer.state).reply)

-- a run whose trace comes in pieces, by the promises: each call is lent the samples of the lines that end in its piece
unfoldable pub last_of : Player Downlink → List ℕ
last_of r = unwrap_or (end_of r) []

unfoldable pub calls_from : Player Downlink → List ℕ → List (Call answer_bytes) → List ℕ
calls_from r samples cs =
    calls_give (gives_beside (player.given_of next_of text_of)) (leaves_beside (player.left_of next_of)) (ends_beside last_of) (record { state = r; left = samples }) cs

-- the same, where the end is lent `o`
abbrev pub calls_lent : Player Downlink → List ℕ → List (Call answer_bytes) → List ℕ → List ℕ
calls_lent r samples cs o = player.calls_beside next_of text_of r samples cs o
