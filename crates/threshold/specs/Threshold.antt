-- Clause 6.6, threshold adaptation, paragraph by paragraph. A comparison of two pairs is 6.7's. `fitted` is what the clause does four times
-- with a mantissa that may have grown past 15 bits. Assumes nothing.
use Rattle.std.specs.Prelude.{Bool, not, ◌||◌, List, ℤ, pos}
use Rattle.std.specs.Int.Signed.{lt_z, le_z}
use Rattle.operations.specs.Operations.{add, sub, l_add, short, ◌>>◌, ◌<<ₛ◌, ◌>>ₛ◌}
use Rattle.rows.specs.Choice.{IF◌THEN◌ELSE◌, eqZ}
use Rattle.pairs.specs.declared.Pair.{Pair}
use Rattle.pairs.specs.Pairs.{pair, greater_of}
use Rattle.threshold.specs.declared.Kept.{Kept}

-- Table 3.2
abbrev pub PTH : Pair
PTH = pair (pos 19) (pos 18750)

abbrev pub MARGIN : Pair
MARGIN = pair (pos 27) (pos 19531)

abbrev pub PLEV : Pair
PLEV = pair (pos 20) (pos 25000)

-- `IF ( L_temp > 32767 ) THEN m = L_temp >> 1; e = add( e, 1 ); ELSE m = L_temp`
unfoldable pub fitted_of : ℤ → ℤ → Pair
fitted_of e l_temp = IF lt_z (pos 32767) l_temp THEN pair (add e (pos 1)) (short (l_temp >> pos 1)) ELSE pair e (short l_temp)

-- thvad-(thvad/dec): `m_thvad = sub( m_thvad, (m_thvad >> 5 ) ); IF ( m_thvad < 16384 ) THEN m_thvad = m_thvad << 1; e_thvad = sub( e_thvad, 1 )`
unfoldable pub lowered_of : Pair → Pair
lowered_of thvad =
    let m_thvad = sub thvad.m (thvad.m >>ₛ pos 5) in
    IF lt_z m_thvad (pos 16384) THEN pair (sub thvad.e (pos 1)) (m_thvad <<ₛ pos 1) ELSE pair thvad.e m_thvad

-- pvad*fac: `L_temp = L_add( m_pvad, m_pvad ); L_temp = L_add( L_temp, m_pvad ); L_temp = L_temp >> 1; e_temp = add( e_pvad, 1 )`, fitted
unfoldable pub tripled_of : Pair → Pair
tripled_of pvad = fitted_of (add pvad.e (pos 1)) (l_add (l_add pvad.m pvad.m) pvad.m >> pos 1)

-- thvad+(thvad/inc): `L_temp = L_add( m_thvad, (m_thvad >> 4 ) )`, fitted
unfoldable pub raised_of : Pair → Pair
raised_of thvad = fitted_of thvad.e (l_add thvad.m (thvad.m >>ₛ pos 4))

-- pvad+margin. Of two unequal exponents the smaller pair's mantissa is shifted down
unfoldable pub margin_of : Pair → Pair
margin_of pvad =
    IF eqZ pvad.e MARGIN.e THEN pair (add pvad.e (pos 1)) (short (l_add pvad.m MARGIN.m >> pos 1)) ELSE
    IF lt_z MARGIN.e pvad.e THEN fitted_of pvad.e (l_add pvad.m (MARGIN.m >>ₛ sub pvad.e MARGIN.e)) ELSE
    fitted_of MARGIN.e (l_add MARGIN.m (pvad.m >>ₛ sub MARGIN.e pvad.e))

-- `IF ( thvad > x ) THEN thvad = x`
unfoldable pub at_most_of : Pair → Pair → Pair
at_most_of x thvad = IF greater_of thvad x THEN x ELSE thvad

-- the new threshold: less a 32nd; where that is below pvad*fac, more by a 16th but at most pvad*fac; at most pvad+margin
unfoldable pub adapted_of : Pair → Pair → Pair
adapted_of thvad pvad =
    let low = lowered_of thvad in
    let top = tripled_of pvad in
    at_most_of (margin_of pvad) (IF greater_of top low THEN at_most_of top (raised_of low) ELSE low)

-- the whole clause, with the filter of 6.3.3:
-- `IF acf0 < pth THEN thvad = plev; EXIT`, `IF ptch or not stat or tone THEN adaptcount = 0; EXIT`,
-- `adaptcount = add( adaptcount, 1 ); IF ( adaptcount <= 8 ) THEN EXIT`, the new threshold, the new filter, `adaptcount = 9`
unfoldable pub adapt_of : Pair → Pair → Bool → Bool → Bool → List ℤ → ℤ → Kept → Kept
adapt_of acf0 pvad ptch stat tone rav1 normrav1 k =
    let count = add k.adaptcount (pos 1) in
    IF greater_of PTH acf0 THEN record { thvad = PLEV; adaptcount = k.adaptcount; rvad = k.rvad; normrvad = k.normrvad } ELSE
    IF ptch || (not stat || tone) THEN record { thvad = k.thvad; adaptcount = pos 0; rvad = k.rvad; normrvad = k.normrvad } ELSE
    IF le_z count (pos 8) THEN record { thvad = k.thvad; adaptcount = count; rvad = k.rvad; normrvad = k.normrvad } ELSE
    record { thvad = adapted_of k.thvad pvad; adaptcount = pos 9; rvad = rav1; normrvad = normrav1 }
