-- Document 01's whole case, from the bytes of a run's input to the bytes of its output: "input `00000001`, 64 zeros, `0`, `28282828`, line feed;
-- output `000` and a line feed". `run_of` is the meaning of a whole run. Characters are their ASCII codes: 48 is 0, 49 is 1, 50 is 2, 56 is 8, 10 is
-- a line feed. Assumes nothing.
use Rattle.std.specs.Prelude.{◌≡◌, refl, List, [], ◌∷◌, ◌++◌, ℕ, replicate}
use Rattle.std.proofs.Common.{ap, ◌∙◌}
use Rattle.rows.specs.Choice.{IF◌THEN◌ELSE◌}
use Rattle.state.specs.Valid.{reset_of}
use Rattle.lines.specs.Worked.{line, decodes}
use Rattle.pieces.specs.Lines.{on_first, lines_of}
use Rattle.pieces.specs.Pieces.{text_after}
use Rattle.runner.specs.Said.{numeral_of, flag_of, text_of, stepped_of, said_of}
use Rattle.runner.specs.Run.{reply_of, answer_of, answers_of, run_of}
use Rattle.demands.specs.Worked.{answer_1_0}

-- `00000001`, 64 zeros, `0`, `28282828`, line feed
unfoldable pub input : List ℕ
input = replicate 7 48 ++ (49 ∷ []) ++ replicate 64 48 ++ (48 ∷ []) ++ (50 ∷ 56 ∷ 50 ∷ 56 ∷ 50 ∷ 56 ∷ 50 ∷ 56 ∷ []) ++ (10 ∷ [])

-- `000`, line feed
unfoldable pub output : List ℕ
output = 48 ∷ 48 ∷ 48 ∷ 10 ∷ []

-- the input is one line, that of crates/lines/specs/Worked.antt
one_line : run_of input ≡ text_of (said_of reset_of line).reply ++ []
unfolding input line IF◌THEN◌ELSE◌ on_first lines_of text_after reply_of answer_of answers_of run_of
one_line = refl

-- which is answered as its frame is
said : text_of (said_of reset_of line).reply ≡ output
unfolding output said_of stepped_of text_of numeral_of flag_of IF◌THEN◌ELSE◌
said = rw (decodes, answer_1_0.0, answer_1_0.1, answer_1_0.2)

-- `WholeCase` of Demands.antt
pub whole_case : run_of input ≡ output
unfolding output
whole_case = one_line ∙ ap (λ (t : List ℕ). t ++ []) said
