-- Document 01's table of refusals for a frame, in its order 1, 5, 2, 3, 4; on the downlink 8 directly after number 1. Assumes nothing.
use Rattle.std.specs.Prelude.{Bool, List, ℕ, ℤ}
use Rattle.rows.specs.Choice.{IF◌THEN◌ELSE◌}
use Rattle.frames.specs.Frame.{lengths_ok, frame_refusal_of}
use Rattle.state.specs.declared.State.{State}
use Rattle.state.specs.Valid.{valid_of}

-- the buffers, the samples, the state, and then the frame by itself: 2, 3, 4. `samples` says that the frame has the samples that its direction asks for
unfoldable pub refusal_of : Bool → List ℤ → List ℕ → ℤ → State → ℕ
refusal_of samples l_acf lags scalvad s =
    IF lengths_ok l_acf lags THEN
    IF samples THEN
    IF valid_of s THEN frame_refusal_of l_acf lags scalvad
    ELSE 5
    ELSE 8
    ELSE 1
