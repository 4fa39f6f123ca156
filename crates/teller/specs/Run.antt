-- The meaning of a trace told: from the bytes of the whole input to the bytes of the output. Each line of the input is told of, one after the other;
-- the run begins as reset leaves it. On the downlink each line has its samples beside it. A line cut by the end of the input is a line too, and
-- malformed. Nothing in is nothing out. Assumes nothing.
use Rattle.std.specs.Prelude.{Bool, List, ℕ, eqb}
use Rattle.rows.specs.Choice.{IF◌THEN◌ELSE◌}
use Rattle.frames.specs.Frame.{Direction, direction_of}
use Rattle.lines.specs.Answers.{decoded_of}
use Rattle.pieces.specs.Lines.{lines_of}
use Rattle.pieces.specs.Pieces.{state_after, text_after}
use Rattle.samples.specs.Samples.{sof_of}
use Rattle.samples.specs.Beside.{Beside, next_beside, text_beside}
use Rattle.why.specs.Why.{Why}
use Rattle.why.specs.Explained.{Explained}
use Rattle.why.specs.Explain as why
use Rattle.why.specs.Explain.{explained_for}
use Rattle.teller.specs.declared.Hearing.{Hearing}
use Rattle.teller.specs.Told.{Told}
use Rattle.teller.specs.Words.{text_of}

-- the direction of a line's frame: where the trace goes down, with the samples that its bytes hold
unfoldable pub direction_by : Bool → List ℕ → Direction
direction_by downlink block = direction_of downlink (sof_of block)

-- one line, with its line feed: a line that is refused as it is read leaves the run as it was
unfoldable pub sent_of : Bool → Explained → Told
sent_of downlink x = record { why = x.why; next = record { downlink = downlink; explainer = x.next } }

unfoldable pub denied_of : ℕ → Hearing → Told
denied_of n h = record { why = Why.Refused n; next = h }

unfoldable pub told_of : Hearing → List ℕ → List ℕ → Told
told_of h block l =
    IF eqb (decoded_of l).refusal 0 THEN
    sent_of h.downlink (explained_for (direction_by h.downlink block) h.explainer (decoded_of l).acf (decoded_of l).lags (decoded_of l).scale)
    ELSE denied_of (decoded_of l).refusal h

unfoldable pub next_of : Hearing → List ℕ → List ℕ → Hearing
next_of h block l = (told_of h block l).next

unfoldable pub line_text : Hearing → List ℕ → List ℕ → List ℕ
line_text h block l = text_of (told_of h block l).why

-- a line that the end of the input cut has no line feed, so it is refused with 6, in ten bytes
abbrev pub cut_of : Hearing → List ℕ
cut_of h = text_of (Why.Refused 6)

-- lines one after the other, with the samples that are left
unfoldable pub hearing_of : Beside Hearing → List (List ℕ) → Beside Hearing
hearing_of b ls = state_after (next_beside next_of) b ls

unfoldable pub texts_of : Beside Hearing → List (List ℕ) → List ℕ
texts_of b ls = text_after (next_beside next_of) (text_beside line_text) b ls

-- the whole input: on the downlink beside its samples, and on the uplink beside nothing
abbrev pub start_of : Bool → Hearing
start_of downlink = record { downlink = downlink; explainer = why.start_of }

unfoldable pub tell_of : Bool → List ℕ → List ℕ → List ℕ
tell_of downlink samples input = texts_of (record { state = start_of downlink; left = samples }) (lines_of input)
