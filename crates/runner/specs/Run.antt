-- The meaning of a run: from the bytes of the whole input to the bytes of the output. Each line of the input is answered, one after the other,
-- whatever its length; the detector starts as reset leaves it. A line cut by the end of the input is a line too, and malformed, `600`: it has no
-- line feed. Nothing in is nothing out. `replies_of` is the list of the answers, and `run_text` in `proofs/Replies.antt` shows that a run writes
-- this list's text. Assumes nothing.
use Rattle.std.specs.Prelude.{List, [], ◌∷◌, ◌++◌, ℕ}
use Rattle.counts.specs.declared.Reply.{Reply}
use Rattle.state.specs.declared.State.{State}
use Rattle.state.specs.Valid.{reset_of}
use Rattle.pieces.specs.Lines.{lines_of}
use Rattle.pieces.specs.Pieces.{state_after, text_after}
use Rattle.runner.specs.Said.{said_of, text_of}

-- one line: the state for the next, its answer, and what is written
unfoldable pub next_of : State → List ℕ → State
next_of s l = (said_of s l).next

unfoldable pub reply_of : State → List ℕ → Reply
reply_of s l = (said_of s l).reply

unfoldable pub answer_of : State → List ℕ → List ℕ
answer_of s l = text_of (reply_of s l)

-- lines one after the other, from a state on
unfoldable pub state_of : State → List (List ℕ) → State
state_of s ls = state_after next_of s ls

unfoldable pub answers_of : State → List (List ℕ) → List ℕ
answers_of s ls = text_after next_of answer_of s ls

-- the whole input
unfoldable pub run_of : List ℕ → List ℕ
run_of input = answers_of reset_of (lines_of input)

-- ---- the answers as a list, one for each line
unfoldable pub replies_from : State → List (List ℕ) → List Reply
replies_from s [] = []
replies_from s (l ∷ ls) = reply_of s l ∷ replies_from (next_of s l) ls

unfoldable pub replies_of : List ℕ → List Reply
replies_of input = replies_from reset_of (lines_of input)

-- their text
unfoldable pub texts_of : List Reply → List ℕ
texts_of [] = []
texts_of (r ∷ rs) = text_of r ++ texts_of rs
