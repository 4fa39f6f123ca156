-- What was decided where document 01 is silent (docs/DECISIONS.md) is never met: in an accepted frame from a valid state, clauses 6.1 to 6.9 in both
-- directions, and 6.10 on the downlink, use an operation only where document 01 says what it gives. So a reader who would have decided otherwise has
-- the same answers. A record for each clause, in the clause's order, with a field for each division, each norm, each shift whose amount is not written
-- out, each shift to the left of a short variable, and each assignment of a long variable to a short one (`short`). 6.5, 6.7 and 6.8 have none of
-- these, nor have 6.10.1, 6.10.4 and 6.10.6. The amounts that the clauses write out are below the width: 1, 11, 14, 15, 16 and 19 of 32 bits, 1, 2, 3,
-- 4 and 5 of 16. What document 01 decides itself is no field: that sums and differences saturate, that a shift to the left of a long variable drops
-- bits, that a shift by a negative amount is the opposite shift. Assumes nothing.
use Rattle.std.specs.Prelude.{◌≡◌, true, false, List, ℕ, zero, suc, ◌+◌, ◌-◌, ◌<◌, ◌≤◌, ℤ, pos, neg_ℤ, ◌*ℤ◌, set, get_or, ◌≤ℤ◌, ◌<ℤ◌}
use Rattle.std.specs.Int.Signed.{lt_z, le_z}
use Rattle.numbers.specs.Sum.{at}
use Rattle.operations.specs.Operations.{sub, l_add, l_mult, abs, short, norm, div, ◌<<◌, ◌>>◌, ◌<<ₛ◌, ◌>>ₛ◌}
use Rattle.rows.specs.Choice.{IF◌THEN◌ELSE◌, eqZ}
use Rattle.rows.specs.Rows.{row}
use Rattle.pairs.specs.declared.Pair.{Pair}
use Rattle.pairs.specs.Pairs.{greater_of}
use Rattle.energy.specs.Energy.{sacf_of, filter_sum_of, positive, energy_of}
use Rattle.energy.specs.declared.Energies.{Energies}
use Rattle.averages.specs.Averages.{LAST_SACF, LAST_SAV0, inside, average_of}
use Rattle.averages.specs.declared.Averages.{Averages}
use Rattle.predictor.specs.Schur as schur
use Rattle.predictor.specs.Schur.{Arrays, k_of, leaves_of, turned_of, inner_from, reflection_of, vpar_of}
use Rattle.predictor.specs.StepUp.{aav1_of}
use Rattle.predictor.specs.Filter.{l_work_of, predicted_of}
use Rattle.predictor.specs.declared.Filter.{Filter}
use Rattle.spectrum.specs.Spectrum.{sav0_of, l_Σp_of, size_of}
use Rattle.threshold.specs.Threshold.{PTH, MARGIN, lowered_of}
use Rattle.tone.specs.Window.{sofh_of}
use Rattle.tone.specs.Autocorrelation.{smax_of, scalauto_of, dynamic_of, l_acfh_of}
use Rattle.tone.specs.Coefficients.{rc_of, a1_of, a2_of}
use Rattle.frames.specs.Frame.{Direction, down}
use Rattle.state.specs.declared.State.{State}
use Rattle.state.specs.Valid.{Between}

-- a division that document 01 covers: of 0 by anything, 0 included; of equal positive numbers; of a smaller by a larger
pub record Divides (x y : ℤ) : Type 0 where
  pub not_negative : pos 0 ≤ℤ x
  pub not_above : x ≤ℤ y

-- a norm that it covers: of a positive number, and of 0
abbrev pub Norms : ℤ → Type 0
Norms x = pos 0 ≤ℤ x

-- ---- 6.1, of a frame with energy
pub record Clause6_1 (l_acf : List ℤ) (scalvad : ℤ) (rvad : List ℤ) : Type 0 where
  -- `normacf = norm( L_ACF[0] )`, and `L_ACF[i] << normacf`
  pub normacf : Norms (at l_acf 0)
  pub by_normacf : Between (pos 0) (pos 30) (norm (at l_acf 0))
  -- `scalvad << 1` and `sacf[0] << 3`, of short variables, drop no bit
  pub scale : scalvad <<ₛ pos 1 ≡ scalvad *ℤ pos 2
  pub m_acf0 : sacf_of l_acf 0 <<ₛ pos 3 ≡ sacf_of l_acf 0 *ℤ pos 8
  -- `normprod = norm( L_temp )`, and `L_temp << normprod`
  pub normprod : Norms (positive (filter_sum_of l_acf rvad))
  pub by_normprod : Between (pos 0) (pos 30) (norm (positive (filter_sum_of l_acf rvad)))

-- ---- 6.2
pub record Clause6_2 (scalvad : ℤ) (ptsacf ptsav0 : ℕ) : Type 0 where
  -- `scal = sub( 10, (scalvad << 1) )`, and `L_ACF[i] >> scal`
  pub scale : scalvad <<ₛ pos 1 ≡ scalvad *ℤ pos 2
  pub by_scal : Between (pos 2) (pos 10) (sub (pos 10) (scalvad <<ₛ pos 1))
  -- a pointer names a frame of its history
  pub sacf_at : inside LAST_SACF ptsacf ≡ ptsacf
  pub sav0_at : inside LAST_SAV0 ptsav0 ≡ ptsav0

-- ---- 6.3.1, and 6.10.3, which is the same for the order 4. The recursion of crates/predictor/specs/Schur.antt with any division in the place of
-- `div`. With `div` it is the clause's: `same_recursion` in proofs/Covered.antt
module _ (division : ℤ → ℤ → ℤ) where
  unfoldable pub coefficient_by : ℤ → ℤ → ℤ
  coefficient_by P0 P1 = let q = division (abs P1) P0 in IF lt_z (pos 0) P1 THEN sub (pos 0) q ELSE q

  unfoldable pub outer_by : ℕ → ℕ → ℕ → Arrays → List ℤ → List ℤ
  outer_by N zero n a vpar = vpar
  outer_by N (suc turns) n a vpar =
      let P0 = at a.P 0 in
      let P1 = at a.P 1 in
      let c = coefficient_by P0 P1 in
      let b : Arrays = record { P = set a.P 0 (turned_of P0 P1 c); K = a.K } in
      IF leaves_of P0 P1 THEN vpar ELSE outer_by N turns (n + 1) (inner_from N c (N - n) 1 b) (set vpar n c)

  unfoldable pub schur_by : ℕ → List ℤ → List ℤ
  schur_by N sacf = outer_by N N 1 (record { P = sacf; K = row 9 (k_of N sacf) }) (row 9 (λ i. pos 0))

  unfoldable pub reflection_by : ℕ → List ℤ → List ℤ
  reflection_by N l_av1 = IF eqZ (at l_av1 0) (pos 0) THEN row 9 (λ i. pos 0) ELSE schur_by N (row 9 (schur.sacf_of l_av1))

-- for the order N. It is 8 here, and `reflection_of 8` is `vpar_of`; 6.10.3 has L_acfh for L_av1 and rc for vpar
pub record Clause6_3_1 (N : ℕ) (l_av1 : List ℤ) : Type 0 where
  -- `temp = norm( L_av1[0] )`, and `L_av1[k] << temp`
  pub temp : Norms (at l_av1 0)
  pub by_temp : Between (pos 0) (pos 30) (norm (at l_av1 0))
  -- `div( abs( P[1] ), P[0] )`, whatever P is where the recursion is not left
  pub vpar : (P0 P1 : ℤ) → leaves_of P0 P1 ≡ false → Divides (abs P1) P0
  -- so every division that answers as `div` does where document 01 covers it gives the same coefficients
  pub any_division : (division : ℤ → ℤ → ℤ) → ((x y : ℤ) → Divides x y → division x y ≡ div x y) → reflection_by division N l_av1 ≡ reflection_of N l_av1

-- ---- 6.3.2: `16384 << 15` and `vpar[m] << 14`, of short numbers that become long, drop no bit
pub record Clause6_3_2 (vpar : List ℤ) : Type 0 where
  pub first : pos 16384 << pos 15 ≡ pos 16384 *ℤ pos 32768
  pub each : (m : ℕ) → at vpar m << pos 14 ≡ at vpar m *ℤ pos 16384

-- ---- 6.3.3
pub record Clause6_3_3 (aav1 : List ℤ) : Type 0 where
  -- `normrav1 = norm( L_work[0] )`, and `L_work[i] << normrav1`
  pub normrav1 : Norms (l_work_of aav1 0)
  pub by_normrav1 : Between (pos 2) (pos 9) (norm (l_work_of aav1 0))

-- ---- 6.4. `temp` and sav0[0] as they are divided
abbrev pub temp_of : ℤ → ℤ
temp_of l_temp = l_temp << norm l_temp >> pos 16

abbrev pub divisor_of : List ℤ → ℤ
divisor_of l_av0 = sav0_of l_av0 0 <<ₛ pos 3

pub record Clause6_4 (l_av0 : List ℤ) (l_temp : ℤ) (f : Filter) : Type 0 where
  -- `shift = norm( L_av0[0] )`, and `L_av0[i] << shift-3`: by a negative amount it is a shift to the right by 1, 2 or 3
  pub shift_av0 : Norms (at l_av0 0)
  pub by_shift_3 : Between (neg_ℤ (pos 3)) (pos 27) (sub (norm (at l_av0 0)) (pos 3))
  -- `sav0[0] << 3`, of a short variable, drops no bit
  pub sav0_first : sav0_of l_av0 0 <<ₛ pos 3 ≡ sav0_of l_av0 0 *ℤ pos 8
  -- `shift = norm( L_temp )`, and `L_temp << shift`, `L_dm >> shift`
  pub shift_temp : Norms l_temp
  pub by_shift : Between (pos 0) (pos 30) (norm l_temp)
  -- `IF ( sav0[0] >= temp ) THEN div( temp, sav0[0] ) ELSE div( sub( temp, sav0[0] ), sav0[0] )`
  pub below : le_z (temp_of l_temp) (divisor_of l_av0) ≡ true → Divides (temp_of l_temp) (divisor_of l_av0)
  pub above : le_z (temp_of l_temp) (divisor_of l_av0) ≡ false → Divides (sub (temp_of l_temp) (divisor_of l_av0)) (divisor_of l_av0)
  -- `rav1[0] << 11`, of a short variable that becomes long, drops no bit; and `L_dm >> normrav1`
  pub rav1_first : at f.rav1 0 << pos 11 ≡ at f.rav1 0 *ℤ pos 2048
  pub by_normrav1 : Between (pos 2) (pos 9) f.normrav1

-- ---- 6.6, of a frame that is not below the level. `fitted`: whichever of its two assignments is made, `short` changes nothing
pub record Fitted (l_temp : ℤ) : Type 0 where
  pub halved : pos 32767 <ℤ l_temp → short (l_temp >> pos 1) ≡ l_temp >> pos 1
  pub whole : l_temp ≤ℤ pos 32767 → short l_temp ≡ l_temp

pub record Clause6_6 (thvad pvad : Pair) : Type 0 where
  -- thvad-(thvad/dec): `m_thvad << 1`, of a short variable, drops no bit
  pub lowered : let m_thvad = sub thvad.m (thvad.m >>ₛ pos 5) in m_thvad <ℤ pos 16384 → m_thvad <<ₛ pos 1 ≡ m_thvad *ℤ pos 2
  -- pvad*fac, and thvad+(thvad/inc) of the lowered thvad
  pub tripled : Fitted (l_add (l_add pvad.m pvad.m) pvad.m >> pos 1)
  pub raised : let low = lowered_of thvad in Fitted (l_add low.m (low.m >>ₛ pos 4))
  -- pvad+margin, by its three cases: equal exponents, pvad's larger, margin's larger
  pub margin_level : pvad.e ≡ MARGIN.e → let l_temp = l_add pvad.m MARGIN.m >> pos 1 in short l_temp ≡ l_temp
  pub margin_above : MARGIN.e <ℤ pvad.e
      → let n = sub pvad.e MARGIN.e in Between (pos 1) (pos 25) n × Fitted (l_add pvad.m (MARGIN.m >>ₛ n))
  pub margin_below : pvad.e <ℤ MARGIN.e
      → let n = sub MARGIN.e pvad.e in Between (pos 1) (pos 33) n × Fitted (l_add MARGIN.m (pvad.m >>ₛ n))
  -- these two amounts alone may be the width or more. A right shift "rounds towards minus infinity", which leaves nothing from 15 on
  pub far : (n : ℤ) → pos 15 ≤ℤ n → (MARGIN.m >>ₛ n ≡ pos 0) × (pvad.m >>ₛ n ≡ pos 0)

-- ---- 6.9: no lag is 0, so that no remainder is by 0
pub record Clause6_9 (oldlag : ℕ) (lags : List ℕ) : Type 0 where
  pub first : 40 ≤ oldlag
  pub each : (j : ℕ) → j < 4 → 40 ≤ get_or lags j 0

-- ---- 6.10.2, of the largest magnitude of the windowed samples
pub record Clause6_10_2 (smax : ℤ) : Type 0 where
  -- `smax << 16`, of a short variable that becomes long, drops no bit
  pub lifted : smax << pos 16 ≡ smax *ℤ pos 65536
  -- `norm( smax << 16 )`. It is asked for where smax is not 0, and there it is of a positive number
  pub norm_smax : Norms (smax << pos 16)
  pub asked : eqZ smax (pos 0) ≡ false → pos 1 ≤ℤ (smax << pos 16)
  -- `IF ( scalauto > 0 ) THEN temp = 16384 >> sub( scalauto,1 )`
  pub by_scalauto : let scalauto = scalauto_of smax in pos 0 <ℤ scalauto → Between (pos 0) (pos 3) (sub scalauto (pos 1))

-- ---- 6.10.5, of the filter coefficients
pub record Clause6_10_5 (a1 a2 : ℤ) : Type 0 where
  -- `L_temp = a[2] << 16`, of a short variable that becomes long, drops no bit
  pub lifted : a2 << pos 16 ≡ a2 *ℤ pos 65536
  -- `temp = L_den >> 16`: `short` changes nothing
  pub temp : let l_den = l_mult a1 a1 in short (l_den >> pos 16) ≡ l_den >> pos 16

-- ---- 6.10, of the samples of a frame, with what each of its clauses hands on
pub record Clause6_10 (sof : List ℤ) : Type 0 where
  pub c_6_10_2 : Clause6_10_2 (smax_of 160 (sofh_of sof))
  pub c_6_10_3 : Clause6_3_1 4 (row 5 (l_acfh_of (dynamic_of (sofh_of sof))))
  pub c_6_10_5 : let rc = rc_of (dynamic_of (sofh_of sof)) in Clause6_10_5 (a1_of rc) (a2_of rc)

-- ---- a whole frame of the direction d
module _ (d : Direction) (l_acf : List ℤ) (lags : List ℕ) (scalvad : ℤ) (s : State) where
  -- what 6.1, 6.2 and 6.3 hand on
  abbrev pub energies : Energies
  energies = energy_of l_acf scalvad s.rvad s.normrvad

  abbrev pub averages : Averages
  averages = average_of l_acf scalvad s.sacf s.ptsacf s.sav0 s.ptsav0

  abbrev pub filter : Filter
  filter = predicted_of averages.av1

  pub record Covered : Type 0 where
    pub c_6_1 : pos 1 ≤ℤ at l_acf 0 → Clause6_1 l_acf scalvad s.rvad
    pub c_6_2 : Clause6_2 scalvad s.ptsacf s.ptsav0
    pub c_6_3_1 : Clause6_3_1 8 averages.av1
    pub c_6_3_2 : Clause6_3_2 (vpar_of averages.av1)
    pub c_6_3_3 : Clause6_3_3 (row 9 (aav1_of (vpar_of averages.av1)))
    pub c_6_4 : Clause6_4 averages.av0 (size_of (l_Σp_of filter.rav1 averages.av0)) filter
    pub c_6_6 : greater_of PTH energies.acf0 ≡ false → Clause6_6 s.thvad energies.pvad
    pub c_6_9 : Clause6_9 s.oldlag lags
    -- on the downlink, of its samples
    pub c_6_10 : (sof : List ℤ) → d ≡ down sof → Clause6_10 sof
    -- an all-zero frame: 6.1 exits at once, and 6.6 stops at the level
    pub all_zero : at l_acf 0 ≡ pos 0 → greater_of PTH energies.acf0 ≡ true
