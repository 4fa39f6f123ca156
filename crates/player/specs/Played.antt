-- What a hearer makes of a trace: `next` is the hearer after a line and `text` what the line is answered, beside the bytes of its frame's samples.
-- Assumes nothing.
use Rattle.std.specs.Prelude.{List, [], ℕ, ◌+◌, ◌*◌, leb, length, take, Result, Ok, Err}
use Rattle.std.specs.Result.{result_unwrap_or}
use Rattle.rows.specs.Choice.{IF◌THEN◌ELSE◌}
use Rattle.pieces.specs.Lines.{lines_of}
use Rattle.pieces.specs.Cut.{finder_of, held_of, rest_of}
use Rattle.pieces.specs.Pieces.{state_after, text_after, handed_of}
use Rattle.pieces.specs.Put.{put_of}
use Rattle.pieces.specs.Calls.{Call, calls_give}
use Rattle.samples.specs.Beside.{Beside, next_beside, text_beside, taken_of, gives_beside, leaves_beside, ends_beside}
use Rattle.refusals.specs.declared.Refusal.{Refusal}
use Rattle.player.specs.declared.Ran.{Ran}
use Rattle.player.specs.declared.Player.{Player}

-- the hearer, and the samples that no line has taken yet
abbrev pub beside_of : {H : Type 0} → H → List ℕ → Beside H
beside_of h left = record { state = h; left = left }

-- lines one after the other, each with its samples
unfoldable pub heard_of : {H : Type 0} → (H → List ℕ → List ℕ → H) → Beside H → List (List ℕ) → Beside H
heard_of next b ls = state_after (next_beside next) b ls

unfoldable pub texts_of : {H : Type 0} → (H → List ℕ → List ℕ → H) → (H → List ℕ → List ℕ → List ℕ) → Beside H → List (List ℕ) → List ℕ
texts_of next text b ls = text_after (next_beside next) (text_beside text) b ls

-- the lines of a text with their samples: how many bytes of the samples they take, and where the answers end that are written from `at` on
unfoldable pub ran_of : {H : Type 0} → (H → List ℕ → List ℕ → H) → (H → List ℕ → List ℕ → List ℕ) → H → List ℕ → List ℕ → ℕ → Ran
ran_of next text h samples l at =
    record {
      used = taken_of samples (heard_of next (beside_of h samples) (lines_of l)).left;
      wrote = at + length (texts_of next text (beside_of h samples) (lines_of l));
    }

-- ---- a trace in pieces
unfoldable pub start_of : {H : Type 0} → H → Player H
start_of h = record { hearer = h; finder = finder_of [] }

-- a piece with its samples: the answers to the lines that end in it, and the player for the next piece
unfoldable pub written_of : {H : Type 0} → (H → List ℕ → List ℕ → H) → (H → List ℕ → List ℕ → List ℕ) → Player H → List ℕ → List ℕ → List ℕ
written_of next text p piece samples = texts_of next text (beside_of p.hearer samples) (handed_of p.finder piece)

unfoldable pub next_player : {H : Type 0} → (H → List ℕ → List ℕ → H) → Player H → List ℕ → List ℕ → Player H
next_player next p piece samples = record { hearer = (heard_of next (beside_of p.hearer samples) (handed_of p.finder piece)).state; finder = rest_of p.finder piece }

-- with n bytes of output lent: k are needed for each byte of the piece. How many bytes are written, or a refusal
unfoldable pub fed_of : {H : Type 0} → (H → List ℕ → List ℕ → H) → (H → List ℕ → List ℕ → List ℕ) → ℕ → Player H → List ℕ → List ℕ → ℕ → Result ℕ Refusal
fed_of next text k p piece samples n = IF leb (k * length piece) n THEN Ok (length (written_of next text p piece samples)) ELSE Err Refusal.Length

-- the player and the lent output afterwards: as they were, where the piece is refused
unfoldable pub player_after : {H : Type 0} → (H → List ℕ → List ℕ → H) → ℕ → Player H → List ℕ → List ℕ → ℕ → Player H
player_after next k p piece samples n = IF leb (k * length piece) n THEN next_player next p piece samples ELSE p

unfoldable pub out_after : {H : Type 0} → (H → List ℕ → List ℕ → H) → (H → List ℕ → List ℕ → List ℕ) → ℕ → Player H → List ℕ → List ℕ → List ℕ → List ℕ
out_after next text k p piece samples o = IF leb (k * length piece) (length o) THEN put_of o 0 (written_of next text p piece samples) ELSE o

-- ---- the end: what is carried is a line, where anything is
unfoldable pub carried_of : {H : Type 0} → Player H → List (List ℕ)
carried_of p = lines_of (held_of p.finder)

unfoldable pub last_written : {H : Type 0} → (H → List ℕ → List ℕ → H) → (H → List ℕ → List ℕ → List ℕ) → Player H → List ℕ
last_written next text p = texts_of next text (beside_of p.hearer []) (carried_of p)

unfoldable pub last_player : {H : Type 0} → (H → List ℕ → List ℕ → H) → Player H → Player H
last_player next p = start_of (heard_of next (beside_of p.hearer []) (carried_of p)).state

-- with n bytes of output lent: k are needed for a line. How many bytes are written, or a refusal
unfoldable pub finish_of : {H : Type 0} → (H → List ℕ → List ℕ → H) → (H → List ℕ → List ℕ → List ℕ) → ℕ → Player H → ℕ → Result ℕ Refusal
finish_of next text k p n = IF leb (k * length (carried_of p)) n THEN Ok (length (last_written next text p)) ELSE Err Refusal.Length

-- the player and the lent output afterwards
unfoldable pub ended_of : {H : Type 0} → (H → List ℕ → List ℕ → H) → ℕ → Player H → ℕ → Player H
ended_of next k p n = IF leb (k * length (carried_of p)) n THEN last_player next p ELSE p

unfoldable pub out_ended : {H : Type 0} → (H → List ℕ → List ℕ → H) → (H → List ℕ → List ℕ → List ℕ) → ℕ → Player H → List ℕ → List ℕ
out_ended next text k p o = IF leb (k * length (carried_of p)) (length o) THEN put_of o 0 (last_written next text p) ELSE o

-- ---- a whole trace
unfoldable pub whole_of : {H : Type 0} → (H → List ℕ → List ℕ → H) → (H → List ℕ → List ℕ → List ℕ) → H → List ℕ → List ℕ → List ℕ
whole_of next text h samples input = texts_of next text (beside_of h samples) (lines_of input)

-- one that comes in pieces, by the promises: what a call gives, as many bytes of its output as it says, and leaves; and what the end gives, to which `o` is
-- lent
unfoldable pub given_of : {H : Type 0} {k : ℕ} → (H → List ℕ → List ℕ → H) → (H → List ℕ → List ℕ → List ℕ) → Player H → List ℕ → Call k → List ℕ
given_of {H} {k} next text p samples c = take (result_unwrap_or (fed_of next text k p c.piece samples (length c.lent)) 0) (out_after next text k p c.piece samples c.lent)

unfoldable pub left_of : {H : Type 0} {k : ℕ} → (H → List ℕ → List ℕ → H) → Player H → List ℕ → Call k → Player H
left_of {H} {k} next p samples c = player_after next k p c.piece samples (length c.lent)

unfoldable pub last_of : {H : Type 0} → (H → List ℕ → List ℕ → H) → (H → List ℕ → List ℕ → List ℕ) → ℕ → List ℕ → Player H → List ℕ
last_of next text k o p = take (result_unwrap_or (finish_of next text k p (length o)) 0) (out_ended next text k p o)

-- all of it with no samples, and beside samples, where each call is lent those of the lines that end in its piece
unfoldable pub calls_alone : {H : Type 0} {k : ℕ} → (H → List ℕ → List ℕ → H) → (H → List ℕ → List ℕ → List ℕ) → Player H → List (Call k) → List ℕ → List ℕ
calls_alone {H} {k} next text p cs o = calls_give (λ q c. given_of next text q [] c) (λ q c. left_of next q [] c) (last_of next text k o) p cs

unfoldable pub calls_beside : {H : Type 0} {k : ℕ} → (H → List ℕ → List ℕ → H) → (H → List ℕ → List ℕ → List ℕ) → Player H → List ℕ → List (Call k) → List ℕ → List ℕ
calls_beside {H} {k} next text p samples cs o =
    calls_give (gives_beside (given_of next text)) (leaves_beside (left_of next)) (ends_beside (last_of next text k o)) (record { state = p; left = samples }) cs
