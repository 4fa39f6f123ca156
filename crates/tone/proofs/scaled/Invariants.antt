-- `tone::scaled` gives the scaled samples: the loop fills them from the front. Assumes nothing.
use mathlib.Core.Path.{◌≡◌}
use Prim.Native.Nat.{◌-◌, ◌≤◌}
use lib.IntN.{pos}
use lib.ListN.{length, take}
use Rattle.numbers.specs.Sum.{at}
use Rattle.operations.specs.Operations.{mult_r, ◌>>ₛ◌}
use Rattle.rows.specs.Rows.{row}
use Rattle.tone.proofs.scaled.Given as goal

abbrev pub invariant-loop-k : goal.invariant-loop-k
invariant-loop-k l =
    (l.k ≤ 160) × (length l.out ≡ 160) × (length l.sofh ≡ 160) × (l.n ≤ 3) × (take l.k l.out ≡ row l.k (λ i. mult_r (at l.sofh i) (pos 16384 >>ₛ pos l.n)))

abbrev pub decreases-loop-k : goal.decreases-loop-k
decreases-loop-k l = 160 - l.k
