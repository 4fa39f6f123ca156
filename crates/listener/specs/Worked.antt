-- Short runs that the checker computes: malformed lines, a line without samples, and no line at all. Assumes nothing.
use Rattle.std.specs.Prelude.{◌≡◌, refl, List, [], ◌∷◌, ℕ}
use Rattle.rows.specs.Choice.{IF◌THEN◌ELSE◌, within}
use Rattle.rows.specs.Rows.{row, all}
use Rattle.lags.specs.Lags.{lag_ok}
use Rattle.frames.specs.Frame.{lengths_ok, samples_ok, scale_ok, acf_ok, lags_ok, frame_refusal_of}
use Rattle.state.specs.declared.State.{State}
use Rattle.state.specs.Valid.{reset_of}
use Rattle.pieces.specs.Lines.{on_first, lines_of}
use Rattle.pieces.specs.Pieces.{state_after, text_after}
use Rattle.lines.specs.Hex.{value_of, hex_of, number_from, number_of}
use Rattle.lines.specs.Line.{field_at, word_at, frame_of, formed_of}
use Rattle.lines.specs.Answers.{ranges_of, refused_of, accepted_of, checked_of, decoded_of}
use Rattle.lines.specs.Worked as lines
use Rattle.samples.specs.Samples.{samples_of, sof_of}
use Rattle.samples.specs.Beside.{block_of, next_beside, text_beside}
use Rattle.detector.specs.Refusal.{refusal_of}
use Rattle.detector.specs.Step as detector
use Rattle.listener.specs.Said.{said_of, stepped_of, denied_of, text_of, flag_of}
use Rattle.listener.specs.Run.{next_of, reply_of, answer_of, state_of, answers_of, run_of}

-- an empty line, then a line cut by the end of the trace
pub cut_line : run_of (10 ∷ 48 ∷ []) [] ≡ 54 ∷ 48 ∷ 48 ∷ 48 ∷ 10 ∷ 54 ∷ 48 ∷ 48 ∷ 48 ∷ 10 ∷ []
unfolding IF◌THEN◌ELSE◌ formed_of refused_of decoded_of flag_of text_of denied_of said_of on_first lines_of state_after text_after block_of next_beside text_beside next_of reply_of answer_of state_of answers_of run_of reset_of
cut_line = refl

-- a malformed line says the flag that is kept, whatever stands in its samples
pub kept : (s : State) (block : List ℕ) → answer_of s block (10 ∷ []) ≡ 54 ∷ 48 ∷ 48 ∷ flag_of s.tone ∷ 10 ∷ []
unfolding IF◌THEN◌ELSE◌ formed_of refused_of decoded_of flag_of text_of denied_of said_of reply_of answer_of
kept s block = refl

-- a line that is accepted on the uplink, with no samples
pub no_samples : run_of lines.line [] ≡ 56 ∷ 48 ∷ 48 ∷ 48 ∷ 10 ∷ []
unfolding IF◌THEN◌ELSE◌ lines.line decoded_of checked_of accepted_of refused_of ranges_of frame_refusal_of scale_ok acf_ok lags_ok within lag_ok formed_of frame_of word_at field_at number_of number_from hex_of value_of row all lengths_ok samples_ok refusal_of detector.answer_for detector.refused_of samples_of sof_of flag_of text_of stepped_of said_of on_first lines_of state_after text_after block_of next_beside text_beside next_of reply_of answer_of state_of answers_of run_of reset_of
no_samples = refl

pub nothing : (samples : List ℕ) → run_of [] samples ≡ []
unfolding lines_of text_after answers_of run_of
nothing samples = refl
