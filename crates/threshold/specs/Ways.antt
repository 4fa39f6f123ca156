-- The ways through clause 6.6, in its order: which of its tests a frame goes out at, or that it goes through to the end. `by_way` in
-- `proofs/Ways.antt` shows that the clause leaves what stands here for its way. Assumes nothing.
use Rattle.std.specs.Prelude.{Bool, not, List, ℤ, pos}
use Rattle.std.specs.Int.Signed.{le_z}
use Rattle.operations.specs.Operations.{add}
use Rattle.rows.specs.Choice.{IF◌THEN◌ELSE◌}
use Rattle.pairs.specs.declared.Pair.{Pair}
use Rattle.pairs.specs.Pairs.{greater_of}
use Rattle.threshold.specs.declared.Kept.{Kept}
use Rattle.threshold.specs.declared.Way.{Way}
use Rattle.threshold.specs.Threshold.{PTH, PLEV, adapted_of}

-- adaptcount after it rose
unfoldable pub risen_of : ℤ → ℤ
risen_of adaptcount = add adaptcount (pos 1)

unfoldable pub way_taken : Pair → Bool → Bool → Bool → ℤ → Way
way_taken acf0 ptch stat tone adaptcount =
    IF greater_of PTH acf0 THEN Way.Floor ELSE
    IF ptch THEN Way.Periodic ELSE
    IF not stat THEN Way.Unsteady ELSE
    IF tone THEN Way.Tone ELSE
    IF le_z (risen_of adaptcount) (pos 8) THEN Way.Waiting (risen_of adaptcount) ELSE
    Way.Adapted

-- what each leaves behind
unfoldable pub left_by : Way → Pair → List ℤ → ℤ → Kept → Kept
left_by Way.Floor pvad rav1 normrav1 k = record { thvad = PLEV; adaptcount = k.adaptcount; rvad = k.rvad; normrvad = k.normrvad }
left_by Way.Periodic pvad rav1 normrav1 k = record { thvad = k.thvad; adaptcount = pos 0; rvad = k.rvad; normrvad = k.normrvad }
left_by Way.Unsteady pvad rav1 normrav1 k = record { thvad = k.thvad; adaptcount = pos 0; rvad = k.rvad; normrvad = k.normrvad }
left_by Way.Tone pvad rav1 normrav1 k = record { thvad = k.thvad; adaptcount = pos 0; rvad = k.rvad; normrvad = k.normrvad }
left_by (Way.Waiting count) pvad rav1 normrav1 k = record { thvad = k.thvad; adaptcount = count; rvad = k.rvad; normrvad = k.normrvad }
left_by Way.Adapted pvad rav1 normrav1 k = record { thvad = adapted_of k.thvad pvad; adaptcount = pos 9; rvad = rav1; normrvad = normrav1 }
