-- Clause 6.3.2, the step-up procedure to obtain aav1[0..8], line by line. Assumes nothing.
use Rattle.std.specs.Prelude.{◌&&◌, List, ℕ, zero, suc, ◌-◌, eqb, leb, ltb, ℤ, pos}
use Rattle.numbers.specs.Sum.{at}
use Rattle.operations.specs.Operations.{l_add, l_mult, ◌<<◌, ◌>>◌}
use Rattle.rows.specs.Choice.{IF◌THEN◌ELSE◌}
use Rattle.rows.specs.Rows.{row}

-- the entry i after the order m, from the entries before it, which is what the clause's L_work is for:
-- `FOR i = 1 to m-1: temp = L_coef[m-i] >> 16; L_work[i] = L_add( L_coef[i], L_mult( vpar[m], temp ) )`, `L_coef[m] = vpar[m] << 14`
unfoldable pub raised_of : List ℤ → ℤ → ℕ → ℕ → ℤ
raised_of l_coef vpar_m m i =
    IF eqb i m THEN vpar_m << pos 14 ELSE
    IF leb 1 i && ltb i m THEN l_add (at l_coef i) (l_mult vpar_m (at l_coef (m - i) >> pos 16)) ELSE
    at l_coef i

-- L_coef after the order m. `L_coef[0] = 16384 << 15`, and `L_coef[1] = vpar[1] << 14` is the order 1
unfoldable pub l_coef_of : List ℤ → ℕ → List ℤ
l_coef_of vpar zero = row 9 (λ i. IF eqb i 0 THEN pos 16384 << pos 15 ELSE pos 0)
l_coef_of vpar (suc m) = row 9 (raised_of (l_coef_of vpar m) (at vpar (suc m)) (suc m))

-- `aav1[i] = L_coef[i] >> 19`
unfoldable pub aav1_of : List ℤ → ℕ → ℤ
aav1_of vpar i = at (l_coef_of vpar 8) i >> pos 19
