-- Clause 6.4, spectral comparison, line by line. `l_av0` is the average of 6.2, `rav1` the filter of 6.3.3. Assumes nothing.
use Rattle.std.specs.Prelude.{List, ℕ, suc, ℤ, pos}
use Rattle.std.specs.Int.Signed.{lt_z, le_z}
use Rattle.numbers.specs.Sum.{at}
use Rattle.operations.specs.Operations.{sub, l_add, l_sub, l_mult, norm, div, ◌<<◌, ◌>>◌, ◌<<ₛ◌}
use Rattle.rows.specs.Choice.{IF◌THEN◌ELSE◌, eqZ}
use Rattle.rows.specs.Rows.{l_sum}
use Rattle.spectrum.specs.declared.Compared.{Compared}

-- `IF ( L_av0[0] == 0 ) THEN sav0[i] = 4095; ELSE shift = norm( L_av0[0] ); sav0[i] = ( L_av0[i] << shift-3 ) >> 16`
-- (the amount is shift-3, which can be negative: readings, docs/DECISIONS.md)
unfoldable pub sav0_of : List ℤ → ℕ → ℤ
sav0_of l_av0 i = IF eqZ (at l_av0 0) (pos 0) THEN pos 4095 ELSE at l_av0 i << sub (norm (at l_av0 0)) (pos 3) >> pos 16

-- `L_Σp = 0; FOR i = 1 to 8: L_Σp = L_add( L_Σp, L_mult( rav1[i], sav0[i] ) )`
unfoldable pub l_Σp_of : List ℤ → List ℤ → ℤ
l_Σp_of rav1 l_av0 = l_sum 8 (λ k. l_mult (at rav1 (suc k)) (sav0_of l_av0 (suc k)))

-- `IF ( x < 0 ) THEN L_sub( 0, x ) ELSE x`
unfoldable pub size_of : ℤ → ℤ
size_of x = IF lt_z x (pos 0) THEN l_sub (pos 0) x ELSE x

-- `IF ( sav0[0] >= temp ) THEN divshift = 0; temp = div( temp, sav0[0] ); ELSE divshift = 1; temp = sub( temp, sav0[0] );
--  temp = div( temp, sav0[0] ). IF( divshift == 1 ) THEN L_dm = 32768; ELSE L_dm = 0. L_dm = L_add( L_dm, temp ) << 1`
unfoldable pub quotient_of : ℤ → ℤ → ℤ
quotient_of temp sav0_0 =
    IF le_z temp sav0_0 THEN l_add (pos 0) (div temp sav0_0) << pos 1 ELSE
    l_add (pos 32768) (div (sub temp sav0_0) sav0_0) << pos 1

-- the division of the sum by sav0[0], with L_temp its magnitude: `sav0[0] = sav0[0] << 3; shift = norm( L_temp );
-- temp = ( L_temp << shift ) >> 16`, the quotient, and `IF( L_Σp < 0 ) THEN L_dm = L_sub( 0, L_dm )`
unfoldable pub divided_of : ℤ → ℤ → ℤ → ℤ
divided_of l_Σp l_temp sav0_0 =
    let l_dm = quotient_of (l_temp << norm l_temp >> pos 16) (sav0_0 <<ₛ pos 3) in
    IF lt_z l_Σp (pos 0) THEN l_sub (pos 0) l_dm ELSE l_dm

-- `L_dm = ( L_dm << 14 ); L_dm = L_dm >> shift; L_dm = L_add( L_dm, ( rav1[0] << 11 ) ); L_dm = L_dm >> normrav1`
unfoldable pub measured_of : ℤ → ℤ → ℤ → ℤ → ℤ
measured_of l_dm shift rav1_0 normrav1 = l_add (l_dm << pos 14 >> shift) (rav1_0 << pos 11) >> normrav1

-- `IF ( L_temp == 0 ) THEN L_dm = 0; shift = 0; ELSE` the division, with shift the norm of L_temp
unfoldable pub l_dm_of : List ℤ → List ℤ → ℤ → ℤ
l_dm_of l_av0 rav1 normrav1 =
    let l_Σp = l_Σp_of rav1 l_av0 in
    let l_temp = size_of l_Σp in
    IF eqZ l_temp (pos 0) THEN measured_of (pos 0) (pos 0) (at rav1 0) normrav1 ELSE
    measured_of (divided_of l_Σp l_temp (sav0_of l_av0 0)) (norm l_temp) (at rav1 0) normrav1

-- `L_temp = L_sub( L_dm, L_lastdm ); L_lastdm = L_dm; IF ( L_temp < 0 ) THEN L_temp = L_sub( 0, L_temp );
--  L_temp = L_sub( L_temp, 3277 ); IF ( L_temp < 0 ) THEN stat = 1; ELSE stat = 0`
unfoldable pub compare_of : List ℤ → List ℤ → ℤ → ℤ → Compared
compare_of l_av0 rav1 normrav1 l_lastdm =
    let l_dm = l_dm_of l_av0 rav1 normrav1 in
    record { dm = l_dm; stat = lt_z (l_sub (size_of (l_sub l_dm l_lastdm)) (pos 3277)) (pos 0) }
