-- Clause 6.10.2, autocorrelation, line by line: the windowed samples are scaled down where they are large, then summed. Assumes nothing.
use Rattle.std.specs.Prelude.{List, ℕ, zero, suc, ◌+◌, ◌-◌, ◌≤◌, ℤ, nat_abs, pos}
use Rattle.std.specs.Int.Signed.{lt_z}
use Rattle.numbers.specs.Sum.{at}
use Rattle.operations.specs.Operations.{sub, abs, mult_r, l_mult, norm, ◌<<◌, ◌>>ₛ◌}
use Rattle.rows.specs.Choice.{IF◌THEN◌ELSE◌, eqZ}
use Rattle.rows.specs.Rows.{row, l_sum}

-- `smax = 0; FOR k = 0 to 159: temp = abs( sofh[k] ); IF ( temp > smax ) THEN smax = temp`, after n turns
unfoldable pub smax_of : ℕ → List ℤ → ℤ
smax_of zero sofh = pos 0
smax_of (suc n) sofh =
    let smax = smax_of n sofh in
    let temp = abs (at sofh n) in
    IF lt_z smax temp THEN temp ELSE smax

-- `IF ( smax == 0 ) THEN scalauto = 0; ELSE scalauto = sub( 4, norm( smax << 16 ) )`
unfoldable pub scalauto_of : ℤ → ℤ
scalauto_of smax = IF eqZ smax (pos 0) THEN pos 0 ELSE sub (pos 4) (norm (smax << pos 16))

-- `IF ( scalauto > 0 ) THEN temp = 16384 >> sub( scalauto,1 ); FOR k = 0 to 159: sofh[k] = mult_r( sofh[k], temp )`
unfoldable pub scaled_of : ℤ → List ℤ → List ℤ
scaled_of scalauto sofh =
    let temp = pos 16384 >>ₛ sub scalauto (pos 1) in
    IF lt_z (pos 0) scalauto THEN row 160 (λ k. mult_r (at sofh k) temp) ELSE sofh

-- the dynamic scaling of the array: by its own largest magnitude
unfoldable pub dynamic_of : List ℤ → List ℤ
dynamic_of sofh = scaled_of (scalauto_of (smax_of 160 sofh)) sofh

-- what the scaling is for: each sample is at most 2048 in magnitude, and then no sum clips
abbrev pub Small : List ℤ → Type 0
Small sofh = (k : ℕ) → nat_abs (at sofh k) ≤ 2048

-- `L_acfh[k] = 0; FOR i = k to 159: L_temp = L_mult( sofh[i], sofh[i-k] ); L_acfh[k] = L_add( L_acfh[k], L_temp )`: i is j + k here
unfoldable pub l_acfh_of : List ℤ → ℕ → ℤ
l_acfh_of sofh k = l_sum (160 - k) (λ j. l_mult (at sofh (j + k)) (at sofh j))
