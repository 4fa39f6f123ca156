-- The meaning of a run on the downlink: from the bytes of a whole trace and of all its samples to the bytes of the output. Each line of the trace is
-- answered, one after the other, whatever its length, and takes a frame's 320 bytes of the samples, a refused line too; the detector starts as reset
-- leaves it. Where the samples end before the trace, the lines that lack some are refused with 8, unless they are refused as they are read. A line cut by
-- the end of the trace is a line too, and malformed, `600` and the flag kept: it has no line feed. `replies_of` is the list of the answers, and `run_text`
-- in `proofs/Replies.antt` shows that a run writes this list's text. Assumes nothing.
use Rattle.std.specs.Prelude.{List, [], ◌∷◌, ◌++◌, ℕ}
use Rattle.state.specs.declared.State.{State}
use Rattle.state.specs.Valid.{reset_of}
use Rattle.pieces.specs.Lines.{lines_of}
use Rattle.pieces.specs.Pieces.{state_after, text_after}
use Rattle.samples.specs.Beside.{Beside, block_of, next_beside, text_beside}
use Rattle.listener.specs.declared.Reply.{Reply}
use Rattle.listener.specs.Said.{said_of, text_of}

-- one line: the state for the next, its answer, and what is written
unfoldable pub next_of : State → List ℕ → List ℕ → State
next_of s block l = (said_of s block l).next

unfoldable pub reply_of : State → List ℕ → List ℕ → Reply
reply_of s block l = (said_of s block l).reply

unfoldable pub answer_of : State → List ℕ → List ℕ → List ℕ
answer_of s block l = text_of (reply_of s block l)

-- the state, and the samples that no line has taken yet
abbrev pub beside_of : State → List ℕ → Beside State
beside_of s left = record { state = s; left = left }

-- lines one after the other, each with its samples
unfoldable pub state_of : Beside State → List (List ℕ) → Beside State
state_of b ls = state_after (next_beside next_of) b ls

unfoldable pub answers_of : Beside State → List (List ℕ) → List ℕ
answers_of b ls = text_after (next_beside next_of) (text_beside answer_of) b ls

-- the whole trace, and all samples
unfoldable pub run_of : List ℕ → List ℕ → List ℕ
run_of trace samples = answers_of (beside_of reset_of samples) (lines_of trace)

-- ---- the answers as a list, one for each line
unfoldable pub replies_from : Beside State → List (List ℕ) → List Reply
replies_from b [] = []
replies_from b (l ∷ ls) = reply_of b.state (block_of b.left) l ∷ replies_from (next_beside next_of b l) ls

unfoldable pub replies_of : List ℕ → List ℕ → List Reply
replies_of trace samples = replies_from (beside_of reset_of samples) (lines_of trace)

-- their text
unfoldable pub texts_of : List Reply → List ℕ
texts_of [] = []
texts_of (r ∷ rs) = text_of r ++ texts_of rs
