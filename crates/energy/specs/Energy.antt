-- Clause 6.1, adaptive filtering and energy computation, line by line. `l_acf` are the nine autocorrelations, `rvad` the nine filter
-- coefficients, scalvad and normrvad their scalings. Assumes nothing.
use Rattle.std.specs.Prelude.{List, ℕ, suc, ℤ, pos}
use Rattle.std.specs.Int.Signed.{le_z}
use Rattle.numbers.specs.Sum.{at}
use Rattle.operations.specs.Operations.{add, sub, l_add, l_mult, norm, ◌<<◌, ◌>>◌, ◌<<ₛ◌}
use Rattle.rows.specs.Choice.{IF◌THEN◌ELSE◌, eqZ}
use Rattle.rows.specs.Rows.{l_sum}
use Rattle.pairs.specs.declared.Pair.{Pair}
use Rattle.pairs.specs.Pairs.{pair, silent}
use Rattle.energy.specs.declared.Energies.{Energies}

-- `normacf = norm( L_ACF[0] ); sacf[i] = ( L_ACF[i] << normacf ) >> 19`
unfoldable pub sacf_of : List ℤ → ℕ → ℤ
sacf_of l_acf i = at l_acf i << norm (at l_acf 0) >> pos 19

-- `e_acf0 = add( 32, (scalvad << 1) ); e_acf0 = sub( e_acf0, normacf ); m_acf0 = sacf[0] << 3`
unfoldable pub acf0_of : List ℤ → ℤ → Pair
acf0_of l_acf scalvad = pair (sub (add (pos 32) (scalvad <<ₛ pos 1)) (norm (at l_acf 0))) (sacf_of l_acf 0 <<ₛ pos 3)

-- `L_temp = 0; FOR i = 1 to 8: L_temp = L_add( L_temp, L_mult( sacf[i], rvad[i] ) );
--  L_temp = L_add( L_temp, L_mult( sacf[0], rvad[0] ) >> 1 )`: the filter sum, before it is replaced
unfoldable pub filter_sum_of : List ℤ → List ℤ → ℤ
filter_sum_of l_acf rvad =
    l_add (l_sum 8 (λ k. l_mult (sacf_of l_acf (suc k)) (at rvad (suc k)))) (l_mult (sacf_of l_acf 0) (at rvad 0) >> pos 1)

-- `IF ( L_temp <= 0 ) THEN L_temp = 1`
unfoldable pub positive : ℤ → ℤ
positive l_temp = IF le_z l_temp (pos 0) THEN pos 1 ELSE l_temp

-- `e_pvad = add( e_acf0, 14 ); e_pvad = sub( e_pvad, normrvad ); normprod = norm( L_temp );
--  e_pvad = sub( e_pvad, normprod ); m_pvad = ( L_temp << normprod ) >> 16`
unfoldable pub pvad_of : ℤ → ℤ → ℤ → Pair
pvad_of e_acf0 normrvad l_temp =
    let normprod = norm l_temp in pair (sub (sub (add e_acf0 (pos 14)) normrvad) normprod) (l_temp << normprod >> pos 16)

-- the whole clause: `IF ( L_ACF[0] == 0 ) THEN e_pvad = -32768, m_pvad = 0, e_acf0 = -32768, m_acf0 = 0, EXIT`
unfoldable pub energy_of : List ℤ → ℤ → List ℤ → ℤ → Energies
energy_of l_acf scalvad rvad normrvad =
    let acf0 = acf0_of l_acf scalvad in
    let l_temp = positive (filter_sum_of l_acf rvad) in
    IF eqZ (at l_acf 0) (pos 0) THEN record { acf0 = silent; pvad = silent } ELSE record { acf0 = acf0; pvad = pvad_of acf0.e normrvad l_temp }
