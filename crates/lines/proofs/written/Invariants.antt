-- `lines::written` writes the digits from the last on, each the remainder of what is left of the number. Assumes nothing.
use Rattle.std.proofs.Common.{◌≡◌, ◌≤◌, ◌++◌, length, drop}
use Rattle.lines.specs.Hex.{digits_of}
use Rattle.lines.proofs.written.Given as goal

abbrev pub invariant-loop-i : goal.invariant-loop-i
invariant-loop-i g l = (l.i ≤ g.row.K) × (length l.out ≡ g.row.K) × (digits_of l.i l.n ++ drop l.i l.out ≡ digits_of g.row.K l.fn.x)
