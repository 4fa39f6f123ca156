-- A trace beside its samples: each line of the trace, a refused one too, takes a frame's 320 bytes of the samples, in order. Where the samples end
-- before the trace, the last frame has what is there, and the others none. For a caller that answers one line after the other, `next` and `text` are
-- what a line with its samples leaves and what is written for it. Assumes nothing.
use Rattle.std.specs.Prelude.{List, ℕ, ◌+◌, ◌-◌, ◌*◌, min, length, take, drop}
use Rattle.pieces.specs.Lines.{feeds_of}
use Rattle.pieces.specs.Calls.{Call}
use Rattle.samples.specs.Samples.{frame_bytes}

-- the caller's state, and the samples that no line has taken yet
pub record Beside (S : Type 0) : Type 0 where
  pub state : S
  pub left : List ℕ

-- a line more: the bytes of its frame, the state for the next line, and what is written
unfoldable pub block_of : List ℕ → List ℕ
block_of left = take frame_bytes left

unfoldable pub next_beside : {S : Type 0} → (S → List ℕ → List ℕ → S) → Beside S → List ℕ → Beside S
next_beside next b l = record { state = next b.state (block_of b.left) l; left = drop frame_bytes b.left }

unfoldable pub text_beside : {S : Type 0} → (S → List ℕ → List ℕ → List ℕ) → Beside S → List ℕ → List ℕ
text_beside text b l = text b.state (block_of b.left) l

-- where the frame ends that begins at a place of n bytes of samples: 320 on, or at the end
unfoldable pub end_of : ℕ → ℕ → ℕ
end_of from n = from + min frame_bytes (n - from)

-- the bytes that are taken of some samples, where these are left
unfoldable pub taken_of : List ℕ → List ℕ → ℕ
taken_of samples left = length samples - length left

-- ---- a trace that comes in pieces. Of a piece the caller is lent the samples of the lines that end in it, or what is there of them
unfoldable pub lent_of : List ℕ → List ℕ → List ℕ
lent_of piece left = take (frame_bytes * feeds_of piece) left

-- calls one after the other, each with its samples: what each gives and leaves, and the end
unfoldable pub gives_beside : {T : Type 0} {k : ℕ} → (T → List ℕ → Call k → List ℕ) → Beside T → Call k → List ℕ
gives_beside gives b c = gives b.state (lent_of c.piece b.left) c

unfoldable pub leaves_beside : {T : Type 0} {k : ℕ} → (T → List ℕ → Call k → T) → Beside T → Call k → Beside T
leaves_beside leaves b c = record { state = leaves b.state (lent_of c.piece b.left) c; left = drop (frame_bytes * feeds_of c.piece) b.left }

unfoldable pub ends_beside : {T : Type 0} → (T → List ℕ) → Beside T → List ℕ
ends_beside end b = end b.state
