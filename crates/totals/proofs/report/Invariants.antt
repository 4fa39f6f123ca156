-- `totals::report` puts number after number. Assumes nothing.
use mathlib.Core.Path.{◌≡◌}
use Prim.Native.Nat.{◌*◌}
use lib.ListN.{length, drop}
use Rattle.lines.specs.Hex.{blocks_of}
use Rattle.pieces.specs.Put.{put_of}
use Rattle.totals.specs.Report.{numbers_of}
use Rattle.totals.proofs.report.Given as goal

-- what is left to put, put here, gives the whole
abbrev pub invariant-loop-i : goal.invariant-loop-i
invariant-loop-i l =
    let w = numbers_of l.fn.t in (length l.out ≡ 41) × (put_of l.out (8 * l.i) (blocks_of 8 (drop l.i w)) ≡ put_of l.initial.out 0 (blocks_of 8 w))
