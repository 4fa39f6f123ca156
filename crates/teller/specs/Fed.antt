-- What feeding a piece of the trace answers: a teller holds the run and the unfinished line. With the piece the samples of the lines that end in it are
-- lent, or what is there of them; on the uplink they are not looked at. The lent output needs 41 bytes for each byte of the piece: with less the piece
-- is refused, number 1, and nothing changes. `called` in `proofs/Calls.antt` shows that what the pieces write, in order, is what the whole trace is
-- told. Assumes nothing.
use Rattle.std.specs.Prelude.{Bool, List, [], ℕ, eqb, length, Option, Some, None, unwrap_or, Result}
use Rattle.rows.specs.Choice.{IF◌THEN◌ELSE◌}
use Rattle.pieces.specs.Cut.{held_of}
use Rattle.pieces.specs.Calls.{Call, calls_give}
use Rattle.samples.specs.Beside.{gives_beside, leaves_beside, ends_beside}
use Rattle.why.specs.Why.{Why}
use Rattle.refusals.specs.declared.Refusal.{Refusal}
use Rattle.player.specs.declared.Player.{Player}
use Rattle.player.specs.Played as player
use Rattle.teller.specs.Words.{text_of, most}
use Rattle.teller.specs.declared.Hearing.{Hearing}
use Rattle.teller.specs.Run as run
use Rattle.teller.specs.Run.{next_of, line_text}

abbrev pub start_of : Bool → Player Hearing
start_of downlink = player.start_of (run.start_of downlink)

-- a piece and its samples, with n bytes of output lent: how many bytes are written, or a refusal
abbrev pub fed_of : Player Hearing → List ℕ → List ℕ → ℕ → Result ℕ Refusal
fed_of t p samples n = player.fed_of next_of line_text most t p samples n

-- the player and the lent output afterwards
abbrev pub player_after : Player Hearing → List ℕ → List ℕ → ℕ → Player Hearing
player_after t p samples n = player.player_after next_of most t p samples n

abbrev pub out_after : Player Hearing → List ℕ → List ℕ → List ℕ → List ℕ
out_after t p samples o = player.out_after next_of line_text most t p samples o

-- the end of the trace, with n bytes of output lent: what is carried is a line too
abbrev pub finish_of : Player Hearing → ℕ → Result ℕ Refusal
finish_of t n = player.finish_of next_of line_text most t n

abbrev pub ended_of : Player Hearing → ℕ → Player Hearing
ended_of t n = player.ended_of next_of most t n

abbrev pub out_ended : Player Hearing → List ℕ → List ℕ
out_ended t o = player.out_ended next_of line_text most t o

-- the end where no output is lent: the text of the line that is carried, where one is. It has no line feed, so it is refused with 6
unfoldable pub end_of : Player Hearing → Option (List ℕ)
end_of t = IF eqb (length (held_of t.finder)) 0 THEN None ELSE Some (text_of (Why.Refused 6))

-- a trace that comes in pieces, by the promises: each call is lent the samples of the lines that end in its piece
unfoldable pub last_of : Player Hearing → List ℕ
last_of t = unwrap_or (end_of t) []

unfoldable pub calls_from : Player Hearing → List ℕ → List (Call most) → List ℕ
calls_from t samples cs =
    calls_give (gives_beside (player.given_of next_of line_text)) (leaves_beside (player.left_of next_of)) (ends_beside last_of) (record { state = t; left = samples }) cs

-- the same, where the end is lent `o`
abbrev pub calls_lent : Player Hearing → List ℕ → List (Call most) → List ℕ → List ℕ
calls_lent t samples cs o = player.calls_beside next_of line_text t samples cs o
