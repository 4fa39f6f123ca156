-- Clauses 6.10.3, the reflection coefficients, and 6.10.4, the filter coefficients, line by line. `sofh` are the scaled samples. Assumes nothing.
use Rattle.std.specs.Prelude.{List, ℤ, pos}
use Rattle.numbers.specs.Sum.{at}
use Rattle.operations.specs.Operations.{add, mult_r, ◌>>ₛ◌}
use Rattle.rows.specs.Rows.{row}
use Rattle.predictor.specs.Schur.{reflection_of}
use Rattle.tone.specs.Autocorrelation.{l_acfh_of}

-- 6.10.3: rc[1..4] of L_acfh[0..4], by the recursion of 6.3.1 for the order 4
unfoldable pub rc_of : List ℤ → List ℤ
rc_of sofh = reflection_of 4 (row 5 (l_acfh_of sofh))

-- 6.10.4: `temp = rc[1] >> 2; a[1] = add( temp, mult_r( rc[2], temp ) )`
unfoldable pub a1_of : List ℤ → ℤ
a1_of rc = let temp = at rc 1 >>ₛ pos 2 in add temp (mult_r (at rc 2) temp)

-- `a[2] = rc[2] >> 2`
unfoldable pub a2_of : List ℤ → ℤ
a2_of rc = at rc 2 >>ₛ pos 2
