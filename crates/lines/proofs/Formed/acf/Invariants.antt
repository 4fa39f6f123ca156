-- `Formed::acf` reads the numbers one after the other. Assumes nothing.
use Rattle.std.proofs.Common.{◌≡◌, length, take}
use Rattle.rows.specs.Rows.{row}
use Rattle.lines.specs.Line.{word_at}
use Rattle.lines.proofs.Formed.acf.Given as goal

abbrev pub invariant-loop-i : goal.invariant-loop-i
invariant-loop-i l = (length l.acf ≡ 9) × (take l.i l.acf ≡ row l.i (word_at l.fn.self.line.now))
