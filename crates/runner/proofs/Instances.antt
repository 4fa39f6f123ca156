-- A trace of document 01's first row, with an empty line in its burst and a line with a lag of 0 in its hangover: the accepted lines are answered as
-- if the others were not there. So `trace_sentence` speaks of something. Assumes nothing.
use mathlib.Core.Path.{◌≡◌, refl, ap, ◌∙◌}
use mathlib.Core.Bool.{Bool}
use mathlib.Core.List.{List, [], ◌∷◌, ◌++◌, map, map-map}
use Prim.Native.Nat.{ℕ}
use lib.ListN.{replicate}
use Rattle.rows.specs.Choice.{IF◌THEN◌ELSE◌, within}
use Rattle.rows.specs.Rows.{row, all}
use Rattle.hangover.specs.Sentence.{bits}
use Rattle.lags.specs.Lags.{lag_ok}
use Rattle.counts.specs.declared.Reply.{Reply}
use Rattle.frames.specs.Frame.{Frame, scale_ok, acf_ok, lags_ok, frame_refusal_of}
use Rattle.state.specs.Valid.{reset_of}
use Rattle.pieces.specs.Lines.{on_first, lines_of}
use Rattle.pieces.specs.Pieces.{flat}
use Rattle.lines.specs.Hex.{value_of, hex_of, number_from, number_of}
use Rattle.lines.specs.Line.{field_at, word_at, frame_of, formed_of}
use Rattle.lines.specs.Answers.{ranges_of, refused_of, accepted_of, checked_of, decoded_of}
use Rattle.lines.specs.Frames.{frame_in, frames_of}
use Rattle.lines.specs.Worked as lines
use Rattle.detector.specs.Answer.{Answer}
use Rattle.detector.specs.Run.{accepted_from, flags_of, raws_of}
use Rattle.detector.specs.Sentence as detector
use Rattle.detector.specs.Worked.{loud, quiet, Answered, table}
use Rattle.runner.specs.Said.{stepped_of}
use Rattle.runner.specs.Run.{replies_of}
use Rattle.runner.specs.Sentence.{accepted}
use Rattle.runner.proofs.Sentence.{replied, replies_frames}

-- `000186A0`, 65 zeros, four lags, line feed: L_ACF[0] is 100000. `28` is a lag of 40
abbrev strong : List ℕ → List ℕ
strong lags = (48 ∷ 48 ∷ 48 ∷ 49 ∷ 56 ∷ 54 ∷ 65 ∷ 48 ∷ []) ++ replicate 65 48 ++ lags ++ (10 ∷ [])

abbrev line : List ℕ
line = strong (50 ∷ 56 ∷ 50 ∷ 56 ∷ 50 ∷ 56 ∷ 50 ∷ 56 ∷ [])

abbrev bad : List ℕ
bad = strong (48 ∷ 48 ∷ 50 ∷ 56 ∷ 50 ∷ 56 ∷ 50 ∷ 56 ∷ [])

unfoldable pub trace : List ℕ
trace = flat (line ∷ line ∷ (10 ∷ []) ∷ line ∷ lines.line ∷ lines.line ∷ bad ∷ lines.line ∷ lines.line ∷ lines.line ∷ lines.line ∷ [])

abbrev frames : List Frame
frames = loud ∷ loud ∷ loud ∷ quiet ∷ quiet ∷ quiet ∷ quiet ∷ quiet ∷ quiet ∷ []

trace_frames : frames_of (lines_of trace) ≡ frames
unfolding trace flat lines_of on_first frames_of frame_in lines.line decoded_of checked_of accepted_of refused_of ranges_of frame_refusal_of scale_ok acf_ok lags_ok within lag_ok formed_of frame_of word_at field_at number_of number_from hex_of value_of row all IF◌THEN◌ELSE◌
trace_frames = refl

answered : accepted trace ≡ map replied (detector.accepted frames)
unfolding accepted replies_of detector.accepted
answered = replies_frames (lines_of trace) reset_of ∙ ap (λ (fs : List Frame). map replied (accepted_from reset_of fs)) trace_frames

-- raw 1 1 1 0 0 0 0 0 0, and the flag is 1 eight times
pub row_held :
    (map (λ (r : Reply). r.vvad) (accepted trace) ≡ bits (1 ∷ 1 ∷ 1 ∷ 0 ∷ 0 ∷ 0 ∷ 0 ∷ 0 ∷ 0 ∷ []))
    × (map (λ (r : Reply). r.vad) (accepted trace) ≡ bits (1 ∷ 1 ∷ 1 ∷ 1 ∷ 1 ∷ 1 ∷ 1 ∷ 1 ∷ 0 ∷ []))
unfolding Answered raws_of flags_of stepped_of
row_held = (by (λ (r : Reply). r.vvad) ∙ table.0.0, by (λ (r : Reply). r.vad) ∙ table.0.1)
  where
    by : (flag : Reply → Bool) → map flag (accepted trace) ≡ map (λ (r : Answer). flag (replied r)) (detector.accepted frames)
    by flag = ap (map flag) answered ∙ map-map flag replied (detector.accepted frames)
