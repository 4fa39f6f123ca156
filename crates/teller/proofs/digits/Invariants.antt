-- `teller::digits` writes a digit a turn, the last first. Assumes nothing.
use mathlib.Core.Path.{◌≡◌}
use mathlib.Core.List.{◌++◌}
use Prim.Native.Nat.{◌+◌, ◌^◌, ◌<◌, ◌≤◌}
use lib.ListN.{length, drop}
use Rattle.teller.specs.Decimal.{decimal_from, decimal_of}
use Rattle.teller.proofs.digits.Given as goal

abbrev pub invariant-loop-rest : goal.invariant-loop-rest
invariant-loop-rest l = (l.from ≤ 9) × (length l.text ≡ 10) × (l.rest < 10 ^ (l.from + 1)) × (decimal_from (l.from + 1) l.rest ++ drop (l.from + 1) l.text ≡ decimal_of l.n)

abbrev pub decreases-loop-rest : goal.decreases-loop-rest
decreases-loop-rest l = l.from
