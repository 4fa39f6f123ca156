-- What the two functions of the interface that read and write a trace line answer, and what they leave in each buffer that is lent to them,
-- for every input: for callers in C and Rust. A frame, a line and the checks are those of `lines`. Assumes nothing.
use Rattle.std.specs.Prelude.{List, [], ◌∷◌, ℕ, eqb, ℤ, length}
use Rattle.rows.specs.Choice.{IF◌THEN◌ELSE◌}
use Rattle.lines.specs.declared.Frame.{Frame}
use Rattle.lines.specs.Answers.{read_of, acf_after, lags_after, write_of, line_after}

-- ---- lindenflax_read_line: the number it answers, and the numbers, the lags and the run of one scale that it leaves
unfoldable pub read_number : List ℕ → List ℤ → List ℕ → List ℤ → ℕ
read_number line acf lags scale = IF eqb (length scale) 1 THEN (read_of acf lags line).refusal ELSE 1

unfoldable pub read_acf : List ℕ → List ℤ → List ℕ → List ℤ → List ℤ
read_acf line acf lags scale = IF eqb (read_number line acf lags scale) 0 THEN acf_after acf lags line ELSE acf

unfoldable pub read_lags : List ℕ → List ℤ → List ℕ → List ℤ → List ℕ
read_lags line acf lags scale = IF eqb (read_number line acf lags scale) 0 THEN lags_after acf lags line ELSE lags

unfoldable pub read_scale : List ℕ → List ℤ → List ℕ → List ℤ → List ℤ
read_scale line acf lags scale = IF eqb (read_number line acf lags scale) 0 THEN (read_of acf lags line).scale ∷ [] ELSE scale

-- ---- lindenflax_write_line: the number it answers, and the line it leaves
abbrev pub framed : List ℤ → List ℕ → ℤ → Frame
framed acf lags scale = record { acf = acf; scale = scale; lags = lags }

unfoldable pub write_number : List ℤ → List ℕ → ℤ → List ℕ → ℕ
write_number acf lags scale line = write_of (framed acf lags scale) line

unfoldable pub write_line : List ℤ → List ℕ → ℤ → List ℕ → List ℕ
write_line acf lags scale line = line_after (framed acf lags scale) line
