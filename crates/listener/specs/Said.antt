-- What one line with the samples of its frame is answered on the downlink: the number of its refusal, `vad`, `vvad`, and `tone`, the flag that is kept
-- for the next frame; and the state for the next line. A line that is refused as it is read, 6, 2, 3 or 4, leaves the state as it was, and so does
-- one whose samples are not 160, refusal 8: their `tone` is the flag that was kept before. The answer's text is these four as digits, and a line feed.
-- Characters are their ASCII codes: 48 is 0, 49 is 1, 10 is a line feed. Assumes nothing.
use Rattle.std.specs.Prelude.{Bool, false, List, [], ◌∷◌, ℕ, ◌+◌, eqb}
use Rattle.rows.specs.Choice.{IF◌THEN◌ELSE◌}
use Rattle.lines.specs.Answers.{decoded_of}
use Rattle.samples.specs.Samples.{sof_of}
use Rattle.state.specs.declared.State.{State}
use Rattle.detector.specs.Answer.{Answer}
use Rattle.detector.specs.Step.{downlink_of}
use Rattle.listener.specs.declared.Reply.{Reply}
use Rattle.listener.specs.declared.Said.{Said}

-- a line whose frame went to the detector
unfoldable pub stepped_of : Answer → Said
stepped_of r = record { reply = record { refusal = r.refusal; vad = r.vad; vvad = r.vvad; tone = r.next.tone }; next = r.next }

-- a line that is refused as it is read
unfoldable pub denied_of : ℕ → State → Said
denied_of n s = record { reply = record { refusal = n; vad = false; vvad = false; tone = s.tone }; next = s }

-- any line, with its line feed, and the bytes of its frame's samples
unfoldable pub said_of : State → List ℕ → List ℕ → Said
said_of s block l =
    IF eqb (decoded_of l).refusal 0 THEN stepped_of (downlink_of (decoded_of l).acf (decoded_of l).lags (decoded_of l).scale (sof_of block) s)
    ELSE denied_of (decoded_of l).refusal s

-- ---- the text of an answer

-- its bytes
abbrev pub answer_bytes : ℕ
answer_bytes = 5

-- a flag as a character
unfoldable pub flag_of : Bool → ℕ
flag_of b = IF b THEN 49 ELSE 48

-- refusal number, vad, vvad, tone, line feed
unfoldable pub text_of : Reply → List ℕ
text_of r = (48 + r.refusal) ∷ flag_of r.vad ∷ flag_of r.vvad ∷ flag_of r.tone ∷ 10 ∷ []
