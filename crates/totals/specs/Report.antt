-- The report of a night: its five numbers in eight upper-case hexadecimal digits each, nothing between them, and a line feed. The digits are those
-- of `lines`. Assumes nothing.
use Rattle.std.specs.Prelude.{List, [], ◌∷◌, ◌++◌, ℕ}
use Rattle.counts.specs.declared.Totals.{Totals}
use Rattle.lines.specs.Hex.{blocks_of}
use Rattle.totals.specs.Whole.{night_of}

-- in the order of the report
unfoldable pub numbers_of : Totals → List ℕ
numbers_of t = t.accepted ∷ t.speech ∷ t.held ∷ t.quiet ∷ t.refused ∷ []

unfoldable pub report_of : Totals → List ℕ
report_of t = blocks_of 8 (numbers_of t) ++ (10 ∷ [])

-- the line of a whole trace
unfoldable pub night_line : List ℕ → List ℕ
night_line input = report_of (night_of input).totals
