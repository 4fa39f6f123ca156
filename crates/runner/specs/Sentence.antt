-- The hangover as a sentence about a trace. Of the answers that are accepted, those whose text begins with 0, counted from 0 in their order: vad is 1
-- in one of them exactly if vvad is 1 there, or three consecutive ones with vvad 1 ended at one of the five before it. And refused lines change
-- nothing: the trace without them is given just these answers. `trace_sentence` in `proofs/Sentence.antt` shows it. Assumes nothing.
use Rattle.std.specs.Prelude.{◌≡◌, Bool, List, [], ◌∷◌, map, ℕ, ◌<◌, eqb, length}
use Rattle.rows.specs.Choice.{IF◌THEN◌ELSE◌}
use Rattle.hangover.specs.Bursts.{by_place}
use Rattle.hangover.specs.Sentence.{Sentence}
use Rattle.counts.specs.declared.Reply.{Reply}
use Rattle.state.specs.declared.State.{State}
use Rattle.state.specs.Valid.{reset_of}
use Rattle.pieces.specs.Lines.{lines_of}
use Rattle.pieces.specs.Pieces.{flat}
use Rattle.runner.specs.Run.{next_of, reply_of, replies_of}

-- the answers to a trace that are accepted
unfoldable pub replies_taken : List Reply → List Reply
replies_taken [] = []
replies_taken (r ∷ rs) = IF eqb r.refusal 0 THEN r ∷ replies_taken rs ELSE replies_taken rs

unfoldable pub accepted : List ℕ → List Reply
accepted input = replies_taken (replies_of input)

-- the flags of number i of them
unfoldable pub vad : List ℕ → ℕ → Bool
vad input i = by_place (map (λ (r : Reply). r.vad) (accepted input)) i

unfoldable pub vvad : List ℕ → ℕ → Bool
vvad input i = by_place (map (λ (r : Reply). r.vvad) (accepted input)) i

-- the lines that are accepted, one after the other from a state on, and the trace of these alone
unfoldable pub lines_taken : State → List (List ℕ) → List (List ℕ)
lines_taken s [] = []
lines_taken s (l ∷ ls) = IF eqb (reply_of s l).refusal 0 THEN l ∷ lines_taken (next_of s l) ls ELSE lines_taken (next_of s l) ls

unfoldable pub without_refused : List ℕ → List ℕ
without_refused input = flat (lines_taken reset_of (lines_of input))

pub record TraceSentence (input : List ℕ) : Type 0 where
  pub sentence : (i : ℕ) → i < length (accepted input) → Sentence (vad input) (vvad input) i
  pub unmoved : replies_of (without_refused input) ≡ accepted input
