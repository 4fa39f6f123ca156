-- What is asked of a night's totals, of a trace that comes in any pieces: the numbers are counts of the list of answers to its lines, and they add
-- up. `asked` in `proofs/Calls.antt` shows it of what `start`, `feed` and `finish` promise. Assumes nothing.
use Rattle.std.specs.Prelude.{◌≡◌, List, ℕ, ◌+◌, ◌<◌, ◌≤◌, min, length, take}
use Rattle.counts.specs.declared.Reply.{Reply}
use Rattle.counts.specs.declared.Counted.{Counted}
use Rattle.counts.specs.Counts.{is_accepted, is_speech, is_held, is_quiet, is_refused, how_many, limit}
use Rattle.pieces.specs.Lines.{lines_of}
use Rattle.pieces.specs.Pieces.{flat}
use Rattle.runner.specs.Run.{replies_of}
use Rattle.totals.specs.Fed.{start_of, calls_from}

-- what the pieces of a trace come to, by the promises
unfoldable pub comes_to : List (List ℕ) → Counted
comes_to pieces = calls_from start_of pieces

-- the answers that are counted
unfoldable pub counted_replies : List (List ℕ) → List Reply
counted_replies pieces = take limit (replies_of (flat pieces))

pub record Asked (pieces : List (List ℕ)) : Type 0 where
  -- each number is the count
  pub accepted : (comes_to pieces).totals.accepted ≡ how_many is_accepted (counted_replies pieces)
  pub speech : (comes_to pieces).totals.speech ≡ how_many is_speech (counted_replies pieces)
  pub held : (comes_to pieces).totals.held ≡ how_many is_held (counted_replies pieces)
  pub quiet : (comes_to pieces).totals.quiet ≡ how_many is_quiet (counted_replies pieces)
  pub refused : (comes_to pieces).totals.refused ≡ how_many is_refused (counted_replies pieces)
  -- the middle three add up to the first, and the first and the last to the lines that are counted
  pub three : (comes_to pieces).totals.speech + (comes_to pieces).totals.held + (comes_to pieces).totals.quiet ≡ (comes_to pieces).totals.accepted
  pub lines : (comes_to pieces).totals.accepted + (comes_to pieces).totals.refused ≡ min limit (length (lines_of (flat pieces)))
  -- all are counted and there is no refusal, or there is a line more and it is refusal 7
  pub all : length (lines_of (flat pieces)) ≤ limit → ((comes_to pieces).refusal ≡ 0) × (counted_replies pieces ≡ replies_of (flat pieces))
  pub seven : limit < length (lines_of (flat pieces)) → (comes_to pieces).refusal ≡ 7
