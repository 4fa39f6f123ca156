-- Clause 6.3.3, computation of rav1[0..8], line by line, and the whole of 6.3. Assumes nothing.
use Rattle.std.specs.Prelude.{List, ℕ, ◌+◌, ◌-◌, ℤ, pos}
use Rattle.numbers.specs.Sum.{at}
use Rattle.operations.specs.Operations.{l_mult, norm, ◌<<◌, ◌>>◌}
use Rattle.rows.specs.Rows.{row, l_sum}
use Rattle.predictor.specs.Schur.{vpar_of}
use Rattle.predictor.specs.StepUp.{aav1_of}
use Rattle.predictor.specs.declared.Filter.{Filter}

-- `L_work[i] = 0; FOR k = 0 to 8-i: L_work[i] = L_add( L_work[i], L_mult( aav1[k], aav1[k+i] ) )`
unfoldable pub l_work_of : List ℤ → ℕ → ℤ
l_work_of aav1 i = l_sum (9 - i) (λ k. l_mult (at aav1 k) (at aav1 (k + i)))

-- `IF ( L_work[0] == 0 ) THEN normrav1 = 0; ELSE normrav1 = norm( L_work[0] ); rav1[i] = ( L_work[i] << normrav1 ) >> 16`: norm of 0 is 0
unfoldable pub whitened_of : List ℤ → Filter
whitened_of aav1 =
    let normrav1 = norm (l_work_of aav1 0) in
    record { rav1 = row 9 (λ i. l_work_of aav1 i << normrav1 >> pos 16); normrav1 = normrav1 }

-- 6.3
unfoldable pub predicted_of : List ℤ → Filter
predicted_of l_av1 = whitened_of (row 9 (aav1_of (vpar_of l_av1)))
