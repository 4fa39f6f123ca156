-- The frames of a trace beside its samples: those of its lines that are not refused as they are read. What is told of its lines is what is asked of these
-- frames: `line_explained` in `proofs/Frames.antt`. Assumes nothing.
use Rattle.std.specs.Prelude.{Bool, List, [], ◌∷◌, ℕ, eqb, drop}
use Rattle.rows.specs.Choice.{IF◌THEN◌ELSE◌}
use Rattle.frames.specs.Frame.{Frame}
use Rattle.lines.specs.Answers.{decoded_of}
use Rattle.samples.specs.Samples.{frame_bytes}
use Rattle.samples.specs.Beside.{block_of}
use Rattle.teller.specs.Run.{direction_by}

unfoldable pub frame_in : Bool → List ℕ → List ℕ → Frame
frame_in downlink block l = record { direction = direction_by downlink block; l_acf = (decoded_of l).acf; lags = (decoded_of l).lags; scalvad = (decoded_of l).scale }

unfoldable pub frames_of : Bool → List ℕ → List (List ℕ) → List Frame
frames_of downlink left [] = []
frames_of downlink left (l ∷ ls) =
    let rest = frames_of downlink (drop frame_bytes left) ls in
    IF eqb (decoded_of l).refusal 0 THEN frame_in downlink (block_of left) l ∷ rest ELSE rest
