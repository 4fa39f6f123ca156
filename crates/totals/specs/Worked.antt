-- A sum that the checker computes: nothing in is forty zeros. Characters are their ASCII codes: 48 is 0, 10 is a line feed. Assumes nothing.
use Rattle.std.specs.Prelude.{◌≡◌, refl, [], ◌∷◌, ◌++◌, replicate}
use Rattle.rows.specs.Choice.{IF◌THEN◌ELSE◌}
use Rattle.counts.specs.Counts.{how_many, totals_of}
use Rattle.lines.specs.Hex.{digit_of, digits_of, blocks_of}
use Rattle.pieces.specs.Lines.{lines_of}
use Rattle.runner.specs.Run.{replies_from, replies_of}
use Rattle.totals.specs.Whole.{night_of}
use Rattle.totals.specs.Report.{numbers_of, report_of, night_line}

-- nothing in
pub nothing : night_line [] ≡ replicate 40 48 ++ (10 ∷ [])
unfolding lines_of replies_from replies_of how_many totals_of night_of IF◌THEN◌ELSE◌ digit_of digits_of blocks_of numbers_of report_of night_line
nothing = refl
