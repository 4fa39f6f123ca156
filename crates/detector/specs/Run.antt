-- Frames one after the other: the state that they leave, and the answers to those that are accepted. Assumes nothing.
use Rattle.std.specs.Prelude.{Bool, List, [], ◌∷◌, map, eqb}
use Rattle.rows.specs.Choice.{IF◌THEN◌ELSE◌}
use Rattle.frames.specs.Frame.{Frame}
use Rattle.state.specs.declared.State.{State}
use Rattle.detector.specs.Answer.{Answer}
use Rattle.detector.specs.Step.{answer_for}

unfoldable pub answer_to : State → Frame → Answer
answer_to s f = answer_for f.direction f.l_acf f.lags f.scalvad s

unfoldable pub state_from : State → List Frame → State
state_from s [] = s
state_from s (f ∷ fs) = state_from (answer_to s f).next fs

-- the answers to the accepted ones, in order. Accepted frames are numbered from 1: number 1 is the first of this list
unfoldable pub accepted_from : State → List Frame → List Answer
accepted_from s [] = []
accepted_from s (f ∷ fs) =
    let r = answer_to s f in
    IF eqb r.refusal 0 THEN r ∷ accepted_from r.next fs ELSE accepted_from r.next fs

-- the flags of answers, and the raw flags
unfoldable pub flags_of : List Answer → List Bool
flags_of rs = map (λ (r : Answer). r.vad) rs

unfoldable pub raws_of : List Answer → List Bool
raws_of rs = map (λ (r : Answer). r.vvad) rs
