-- Clause 6.10.5, the pole frequency test, line by line. Assumes nothing.
use Rattle.std.specs.Prelude.{Bool, true, false, ℤ, pos}
use Rattle.std.specs.Int.Signed.{lt_z, le_z}
use Rattle.operations.specs.Operations.{l_sub, l_mult, ◌<<◌, ◌>>◌}
use Rattle.rows.specs.Choice.{IF◌THEN◌ELSE◌}

-- whether the test is passed, of a[1] and a[2]: `L_den = L_mult ( a[1], a[1] ); L_temp = a[2] << 16; L_num = L_sub ( L_temp, L_den )`.
-- A pole that is not complex: `IF ( L_num <= 0 ) THEN tone = 0; EXIT`. One below 385 Hz: `IF ( a[1] < 0 ) THEN temp = L_den >> 16;
-- L_den = L_mult ( temp, 3189 ); L_temp = L_sub ( L_num, L_den ); IF ( L_temp < 0 ) THEN tone = 0; EXIT`
unfoldable pub pole_of : ℤ → ℤ → Bool
pole_of a1 a2 =
    let l_den = l_mult a1 a1 in
    let l_num = l_sub (a2 << pos 16) l_den in
    IF le_z l_num (pos 0) THEN false ELSE
    IF lt_z a1 (pos 0) THEN le_z (pos 0) (l_sub l_num (l_mult (l_den >> pos 16) (pos 3189))) ELSE
    true
