-- The frames of a trace on the uplink: those of its lines that are not refused as they are read. What is answered to its lines is what is answered to these frames:
-- `replies_frames` in `runner/proofs/Sentence.antt`, `line_explained` in `teller/proofs/Frames.antt`. Assumes nothing.
use Rattle.std.specs.Prelude.{ℕ, List, [], ◌∷◌, nat_eq}
use Rattle.rows.specs.Choice.{IF◌THEN◌ELSE◌}
use Rattle.frames.specs.Frame.{up, Frame}
use Rattle.lines.specs.Answers.{decoded_of}

unfoldable pub frame_in : List ℕ → Frame
frame_in l = record { direction = up; l_acf = (decoded_of l).acf; lags = (decoded_of l).lags; scalvad = (decoded_of l).scale }

unfoldable pub frames_of : List (List ℕ) → List Frame
frames_of [] = []
frames_of (l ∷ ls) = IF nat_eq (decoded_of l).refusal 0 THEN frame_in l ∷ frames_of ls ELSE frames_of ls
