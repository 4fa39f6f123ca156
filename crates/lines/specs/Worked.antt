-- Document 01's whole case, that the checker computes: the line 00000001, 64 zeros, 0, 28282828 and a line feed is accepted, its frame
-- is 1 and eight zeros, scale 0 and four lags of 40, and that frame's line is the line again. Assumes nothing.
use Rattle.std.specs.Prelude.{◌≡◌, ℕ, List, [], ◌∷◌, ◌++◌, replicate, pos, refl}
use Rattle.rows.specs.Choice.{IF◌THEN◌ELSE◌, within}
use Rattle.rows.specs.Rows.{row, all}
use Rattle.lags.specs.Lags.{lag_ok}
use Rattle.frames.specs.Frame.{scale_ok, acf_ok, lags_ok, frame_refusal_of}
use Rattle.lines.specs.Hex.{value_of, hex_of, digit_of, number_from, number_of, digits_of, blocks_of}
use Rattle.lines.specs.declared.Frame.{Frame}
use Rattle.lines.specs.Line.{field_at, word_at, frame_of, line_of, formed_of}
use Rattle.lines.specs.Answers.{ranges_of, refused_of, accepted_of, checked_of, decoded_of}

unfoldable pub line : List ℕ
line = replicate 7 48 ++ (49 ∷ []) ++ replicate 64 48 ++ (48 ∷ []) ++ (50 ∷ 56 ∷ 50 ∷ 56 ∷ 50 ∷ 56 ∷ 50 ∷ 56 ∷ []) ++ (10 ∷ [])

unfoldable pub frame : Frame
frame = record { acf = pos 1 ∷ replicate 8 (pos 0); scale = pos 0; lags = 40 ∷ 40 ∷ 40 ∷ 40 ∷ [] }

pub decodes : decoded_of line ≡ record { refusal = 0; scale = pos 0; acf = pos 1 ∷ replicate 8 (pos 0); lags = 40 ∷ 40 ∷ 40 ∷ 40 ∷ [] }
unfolding line decoded_of checked_of accepted_of refused_of ranges_of frame_refusal_of scale_ok acf_ok lags_ok within lag_ok formed_of frame_of word_at field_at number_of number_from hex_of value_of row all IF◌THEN◌ELSE◌
decodes = refl

pub writes : line_of frame ≡ line
unfolding line frame line_of blocks_of digits_of digit_of IF◌THEN◌ELSE◌
writes = refl
