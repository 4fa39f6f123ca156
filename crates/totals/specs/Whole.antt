-- A night's totals: the counts of the list of answers to the lines of a trace (`replies_of` of `runner`). Assumes nothing.
use Rattle.std.specs.Prelude.{List, ℕ, leb, length, take}
use Rattle.rows.specs.Choice.{IF◌THEN◌ELSE◌}
use Rattle.counts.specs.declared.Counted.{Counted}
use Rattle.counts.specs.Counts.{totals_of, limit}
use Rattle.runner.specs.Run.{replies_of}

-- a whole trace: the totals of its first 4,294,967,295 lines; one line more is refusal 7
unfoldable pub night_of : List ℕ → Counted
night_of input = record { refusal = IF leb (length (replies_of input)) limit THEN 0 ELSE 7; totals = totals_of (take limit (replies_of input)) }
