-- Two short runs that the checker computes: an empty line is answered `600`, and so is a line cut by the end of the input; nothing in, nothing
-- out. Assumes nothing.
use Rattle.std.specs.Prelude.{◌≡◌, refl, false, [], ◌∷◌}
use Rattle.rows.specs.Choice.{IF◌THEN◌ELSE◌}
use Rattle.pieces.specs.Lines.{on_first, lines_of}
use Rattle.pieces.specs.Pieces.{state_after, text_after}
use Rattle.runner.specs.Said.{said_of, denied_of, text_of, numeral_of, flag_of}
use Rattle.runner.specs.Run.{next_of, reply_of, answer_of, state_of, answers_of, run_of, replies_from, replies_of}
use Rattle.lines.specs.Line.{formed_of}
use Rattle.lines.specs.Answers.{refused_of, decoded_of}

-- an empty line, then a line cut by the end of the input
pub cut_line : run_of (10 ∷ 48 ∷ []) ≡ 54 ∷ 48 ∷ 48 ∷ 10 ∷ 54 ∷ 48 ∷ 48 ∷ 10 ∷ []
unfolding IF◌THEN◌ELSE◌ formed_of refused_of decoded_of numeral_of flag_of text_of denied_of said_of on_first lines_of state_after text_after next_of reply_of answer_of state_of answers_of run_of
cut_line = refl

-- the same as a list of answers
pub cut_replies : replies_of (10 ∷ 48 ∷ []) ≡ record { refusal = 6; vad = false; vvad = false } ∷ record { refusal = 6; vad = false; vvad = false } ∷ []
unfolding IF◌THEN◌ELSE◌ formed_of refused_of decoded_of denied_of said_of on_first lines_of next_of reply_of replies_from replies_of
cut_replies = refl

pub nothing : run_of [] ≡ []
unfolding lines_of text_after answers_of run_of
nothing = refl
