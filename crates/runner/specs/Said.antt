-- What one line is answered: the number of its refusal, `vad` and `vvad`, and the state for the next line. A line that is refused leaves the
-- state as it was. The answer's text is these three as digits, and a line feed. Characters are their ASCII codes: 48 is 0, 49 is 1, 63 is ?, 10 is
-- a line feed. Assumes nothing.
use Rattle.std.specs.Prelude.{Bool, false, List, [], ◌∷◌, ℕ, ◌+◌, eqb, ltb}
use Rattle.rows.specs.Choice.{IF◌THEN◌ELSE◌}
use Rattle.counts.specs.declared.Reply.{Reply}
use Rattle.lines.specs.Answers.{decoded_of}
use Rattle.state.specs.declared.State.{State}
use Rattle.detector.specs.Answer.{Answer}
use Rattle.detector.specs.Step.{step_of}
use Rattle.runner.specs.declared.Said.{Said}

-- a line whose frame went to the detector
unfoldable pub stepped_of : Answer → Said
stepped_of r = record { reply = record { refusal = r.refusal; vad = r.vad; vvad = r.vvad }; next = r.next }

-- a line that is refused as it is read
unfoldable pub denied_of : ℕ → State → Said
denied_of n s = record { reply = record { refusal = n; vad = false; vvad = false }; next = s }

-- any line, with its line feed
unfoldable pub said_of : State → List ℕ → Said
said_of s l =
    IF eqb (decoded_of l).refusal 0 THEN stepped_of (step_of (decoded_of l).acf (decoded_of l).lags (decoded_of l).scale s)
    ELSE denied_of (decoded_of l).refusal s

-- ---- the text of an answer

-- its bytes
abbrev pub answer_bytes : ℕ
answer_bytes = 4

-- a flag as a character
unfoldable pub flag_of : Bool → ℕ
flag_of b = IF b THEN 49 ELSE 48

-- a number as one character: above 9, which no line is given, `?`
unfoldable pub numeral_of : ℕ → ℕ
numeral_of n = IF ltb n 10 THEN 48 + n ELSE 63

-- refusal number, vad, vvad, line feed
unfoldable pub text_of : Reply → List ℕ
text_of r = numeral_of r.refusal ∷ flag_of r.vad ∷ flag_of r.vvad ∷ 10 ∷ []
