-- `tone::sofh` gives the windowed samples: each loop fills its half from the front. Assumes nothing.
use mathlib.Core.Path.{◌≡◌}
use mathlib.Core.List.{List}
use Prim.Native.Nat.{ℕ, ◌-◌, ◌≤◌}
use lib.IntN.{ℤ}
use lib.ListN.{length, take}
use Rattle.numbers.specs.Sum.{at}
use Rattle.operations.specs.Operations.{mult_r}
use Rattle.rows.specs.Rows.{row}
use Rattle.tone.specs.Window.{window_of}
use Rattle.tone.proofs.sofh.Given as goal

-- one entry
abbrev pub entry : List ℤ → ℕ → ℤ
entry sof k = mult_r (at sof k) (window_of k)

abbrev pub invariant-loop-i : goal.invariant-loop-i
invariant-loop-i l = (l.i ≤ 80) × (length l.out ≡ 160) × (take l.i l.out ≡ row l.i (entry l.sof))

abbrev pub decreases-loop-i : goal.decreases-loop-i
decreases-loop-i l = 80 - l.i

abbrev pub invariant-loop-i-2 : goal.invariant-loop-i-2
invariant-loop-i-2 l = (80 ≤ l.i) × (l.i ≤ 160) × (length l.out ≡ 160) × (take l.i l.out ≡ row l.i (entry l.sof))

abbrev pub decreases-loop-i-2 : goal.decreases-loop-i-2
decreases-loop-i-2 l = 160 - l.i
