-- Clause 6.6 leaves what its way says. Assumes nothing.
use mathlib.Core.Path.{◌≡◌}
use mathlib.Core.Bool.{Bool, true, false}
use mathlib.Core.List.{List}
use lib.IntN.{ℤ, pos}
use lib.Signed.{le_z}
use Rattle.operations.specs.Operations.{add}
use Rattle.rows.specs.Choice.{IF◌THEN◌ELSE◌}
use Rattle.rows.proofs.Choice.{either}
use Rattle.pairs.specs.declared.Pair.{Pair}
use Rattle.pairs.specs.Pairs.{greater_of}
use Rattle.threshold.specs.declared.Kept.{Kept}
use Rattle.threshold.specs.Threshold.{PTH, adapt_of}
use Rattle.threshold.specs.Ways.{risen_of, way_taken, left_by}

module _ (acf0 pvad : Pair) (rav1 : List ℤ) (normrav1 : ℤ) (k : Kept) where
  abbrev ByWay : Bool → Bool → Bool → Type 0
  ByWay ptch stat tone = adapt_of acf0 pvad ptch stat tone rav1 normrav1 k ≡ left_by (way_taken acf0 ptch stat tone k.adaptcount) pvad rav1 normrav1 k

  at_level : greater_of PTH acf0 ≡ true → (ptch stat tone : Bool) → ByWay ptch stat tone
  unfolding adapt_of way_taken left_by IF◌THEN◌ELSE◌
  at_level h ptch stat tone = rw h

  above : greater_of PTH acf0 ≡ false → (ptch stat tone : Bool) → ByWay ptch stat tone
  unfolding adapt_of way_taken risen_of left_by IF◌THEN◌ELSE◌
  above h true true tone = rw h
  above h true false tone = rw h
  above h false false tone = rw h
  above h false true true = rw h
  above h false true false = either (ByWay false true false) (le_z (add k.adaptcount (pos 1)) (pos 8)) (λ t. rw (h, t)) (λ t. rw (h, t))

  pub by_way : (ptch stat tone : Bool) → adapt_of acf0 pvad ptch stat tone rav1 normrav1 k ≡ left_by (way_taken acf0 ptch stat tone k.adaptcount) pvad rav1 normrav1 k
  by_way ptch stat tone = either (ByWay ptch stat tone) (greater_of PTH acf0) (λ h. at_level h ptch stat tone) (λ h. above h ptch stat tone)
