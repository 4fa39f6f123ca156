-- In an accepted frame from a valid state no clause meets what was decided where document 01 is silent: specs/Covered.antt, clause by clause.
-- Assumes nothing.
use mathlib.Core.Path.{◌≡◌, refl, sym, ap, ◌∙◌, subst}
use mathlib.Core.Bool.{false, true≢false, ◌&&◌}
use mathlib.Core.List.{List}
use mathlib.Core.Logic.{⊎_elim}
use Prim.Native.Nat.{ℕ, zero, suc, ◌+◌, ◌/◌, ◌≤◌}
use native.Mathlib.Omega.{arith}
use lib.Count.{count_leading_zeros, leading_le}
use lib.IntN.{ℤ, pos, negsuc, ◌+ℤ◌, ◌*ℤ◌}
use lib.Signed.{le_z, ◌≤ℤ◌, ◌<ℤ◌}
use mir.Syntax.{w16, w32}
use mir.Val.{SFits}
use Rattle.numbers.specs.Sum.{at, total}
use Rattle.numbers.specs.Clamp.{clamp}
use Rattle.numbers.specs.Floor.{residue}
use Rattle.numbers.specs.Wrap.{wrap}
use Rattle.numbers.proofs.Parts.{zarith, of, sign, same, le_true, plus, minus, times}
use Rattle.numbers.proofs.Clamp.{clamp_mono}
use Rattle.operations.specs.Operations.{add, sub, l_add, mult_r, l_mult, abs, short, norm, div, shift_left, shift_right, ◌<<◌, ◌>>◌, ◌<<ₛ◌}
use Rattle.operations.proofs.Laws.{l_add_fits, l_mult_fits, left_exact, right_fits, short_exact}
use Rattle.operations.proofs.Exact.{sub_parts, l_add_parts, right_parts}
use Rattle.operations.proofs.Top.{top_short}
use Rattle.rows.specs.Choice.{IF◌THEN◌ELSE◌, eqZ, within}
use Rattle.rows.specs.Rows.{row, all, l_sum}
use Rattle.rows.proofs.Choice.{either, both, by_yes, eqZ_yes}
use Rattle.rows.proofs.Fill.{row_at}
use Rattle.pairs.specs.declared.Pair.{Pair}
use Rattle.pairs.specs.Pairs.{silent, greater_of}
use Rattle.pairs.proofs.Order.{above}
use Rattle.pairs.proofs.Range.{Mantissa, Ranged}
use Rattle.energy.specs.Energy.{sacf_of, acf0_of, filter_sum_of, positive, energy_of}
use Rattle.energy.specs.declared.Energies.{Energies}
use Rattle.energy.proofs.Range.{Frame, sacf_first, positive_some, energy_silent, energy_loud}
use Rattle.averages.specs.Averages.{l_temp_of, l_av0_of, average_of}
use Rattle.averages.proofs.Pointers.{inside_is}
use Rattle.averages.proofs.Kept.{average_keeps}
use Rattle.predictor.specs.Schur as schur
use Rattle.predictor.specs.Schur.{Arrays, k_of, leaves_of, coefficient_of, outer_from, schur_of, reflection_of, vpar_of}
use Rattle.predictor.specs.StepUp.{aav1_of}
use Rattle.predictor.specs.Filter.{predicted_of}
use Rattle.predictor.specs.declared.Filter.{Filter}
use Rattle.predictor.proofs.Predictor.{aav1_first, aav1_small}
use Rattle.predictor.proofs.Autocorrelation.{work_first_in, norm_is, norm_in}
use Rattle.predictor.proofs.Bounds.{Whitening, predicted_whitening}
use Rattle.threshold.specs.Threshold.{PTH, MARGIN}
use Rattle.tone.specs.Window.{hann, window_of, sofh_of}
use Rattle.tone.specs.Autocorrelation.{smax_of, scalauto_of, dynamic_of, l_acfh_of}
use Rattle.tone.specs.Coefficients.{rc_of, a1_of, a2_of}
use Rattle.tone.specs.Worked.{periods, four_hundred}
use Rattle.tone.proofs.Small.{smax_range, scalauto_le}
use Rattle.lags.specs.Lags.{lag_ok}
use Rattle.frames.specs.Frame.{Direction, up, down, lengths_ok, samples_ok, scale_ok, acf_ok, lags_ok, frame_refusal_of}
use Rattle.state.specs.declared.State.{State}
use Rattle.state.specs.Valid.{pointer_ok, sacf_within, sacf_ok, sav0_ok, weight_of, rvad_ok, thvad_ok, counts_ok, valid_of, Between, Shaped, reset_of}
use Rattle.detector.specs.Refusal.{refusal_of}
use Rattle.detector.proofs.Keeps.{Numbers, accepted, kind, filter_ok, incoming, frames_was, frames_at_was, sums_was, sums_at_was}
use Rattle.detector.specs.Answer.{Answer}
use Rattle.detector.specs.Step.{answer_for}
use Rattle.demands.specs.Demands.{NeverMet}
use Rattle.demands.specs.Worked.{acf, forty}
use Rattle.demands.specs.Idle.{quiet}
use Rattle.demands.specs.Covered.{Divides, Clause6_1, Clause6_2, coefficient_by, outer_by, schur_by, reflection_by, Clause6_3_1, Clause6_3_2, Clause6_3_3, temp_of, divisor_of, Clause6_4, Fitted, Clause6_6, Clause6_10_2, Clause6_10_5, Clause6_10, Covered}
use Rattle.demands.proofs.Meets.{numbered, reset_meets}
use Rattle.demands.proofs.Idle.{numbers}
use Rattle.predictor.proofs.Division.{abs_some, stays, reflection_fits, vpar_fits}
use Rattle.spectrum.proofs.Divisor.{Long, long, temp_long, top_range, sav0_eight, divisor_range}
use Rattle.threshold.proofs.Assigned.{right_far, short_half, short_whole, lowered_twice, lowered_mantissa, tripled_in, added_in}

-- ---- a norm is an amount below the width, whatever it is of
norm_amount : (z : ℤ) → Between (pos 0) (pos 30) (norm z)
unfolding norm count_leading_zeros
norm_amount (pos zero) = record { from = omega zarith; to = omega zarith }
norm_amount (pos (suc n)) = let h = leading_le 30 (suc n / 2) in record { from = omega zarith; to = omega zarith }
norm_amount (negsuc n) = let h = leading_le 30 (suc n / 2) in record { from = omega zarith; to = omega zarith }

-- ---- `scalvad << 1`
scale_twice : (scalvad : ℤ) → Between (pos 0) (pos 4) scalvad → scalvad <<ₛ pos 1 ≡ scalvad *ℤ pos 2
scale_twice scalvad b = left_exact w16 scalvad 1 (omega (zarith, times scalvad (pos 2), b.from, b.to))

-- ---- 6.1
clause_6_1 : (l_acf : List ℤ) (scalvad : ℤ) (rvad : List ℤ) → Frame l_acf → Between (pos 0) (pos 4) scalvad → Clause6_1 l_acf scalvad rvad
clause_6_1 l_acf scalvad rvad f b =
    record {
      normacf = omega (zarith, f.some);
      by_normacf = norm_amount (at l_acf 0);
      scale = scale_twice scalvad b;
      m_acf0 = let x = sacf_of l_acf 0 in let h = sacf_first l_acf f in left_exact w16 x 3 (omega (zarith, times x (pos 8)));
      normprod = omega (zarith, positive_some (filter_sum_of l_acf rvad));
      by_normprod = norm_amount (positive (filter_sum_of l_acf rvad));
    }

-- ---- 6.2
clause_6_2 : (scalvad : ℤ) (ptsacf ptsav0 : ℕ) → Between (pos 0) (pos 4) scalvad → ptsacf ≤ 18 → ptsav0 ≤ 27 → Clause6_2 scalvad ptsacf ptsav0
clause_6_2 scalvad ptsacf ptsav0 b p q =
    record { scale = scale_twice scalvad b; by_scal = rw (scale_twice scalvad b) amount; sacf_at = inside_is 18 ptsacf p; sav0_at = inside_is 27 ptsav0 q }
  where
    amount : Between (pos 2) (pos 10) (sub (pos 10) (scalvad *ℤ pos 2))
    amount =
        let d = scalvad *ℤ pos 2 in
        let t = times scalvad (pos 2) in
        let s = sub_parts (pos 10) d (omega (zarith, minus (pos 10) d, b.from, b.to)) in
        record { from = omega (zarith, b.to); to = omega (zarith, b.from) }

-- ---- 6.3.1
divides : (P0 P1 : ℤ) → leaves_of P0 P1 ≡ false → Divides (abs P1) P0
divides P0 P1 t = record { not_negative = abs_some P1; not_above = stays P0 P1 t }

module _ (division : ℤ → ℤ → ℤ) (alike : (x y : ℤ) → Divides x y → division x y ≡ div x y) where
  coefficient_alike : (P0 P1 : ℤ) → leaves_of P0 P1 ≡ false → coefficient_by division P0 P1 ≡ coefficient_of P0 P1
  unfolding coefficient_by coefficient_of
  coefficient_alike P0 P1 t = rw (alike (abs P1) P0 (divides P0 P1 t))

  outer_alike : (N turns n : ℕ) (a : Arrays) (vpar : List ℤ) → outer_by division N turns n a vpar ≡ outer_from N turns n a vpar
  unfolding outer_by outer_from IF◌THEN◌ELSE◌
  outer_alike N zero n a vpar = refl
  outer_alike N (suc turns) n a vpar =
      let P0 = at a.P 0 in
      let P1 = at a.P 1 in
      either (outer_by division N (suc turns) n a vpar ≡ outer_from N (suc turns) n a vpar) (leaves_of P0 P1)
      (λ t. rw t)
      (λ t. rw (t, coefficient_alike P0 P1 t) (outer_alike N turns (n + 1) _ _))

  reflection_alike : (N : ℕ) (l_av1 : List ℤ) → reflection_by division N l_av1 ≡ reflection_of N l_av1
  unfolding reflection_by reflection_of schur_by schur_of
  reflection_alike N l_av1 = let sacf = row 9 (schur.sacf_of l_av1) in rw (outer_alike N N 1 (record { P = sacf; K = row 9 (k_of N sacf) }) (row 9 (λ i. pos 0)))

clause_6_3_1 : (N : ℕ) (l_av1 : List ℤ) → pos 0 ≤ℤ at l_av1 0 → Clause6_3_1 N l_av1
clause_6_3_1 N l_av1 h =
    record { temp = h; by_temp = norm_amount (at l_av1 0); vpar = divides; any_division = λ division alike. reflection_alike division alike N l_av1 }

-- ---- 6.3.2
clause_6_3_2 : (vpar : List ℤ) → ((k : ℕ) → SFits w16 (at vpar k)) → Clause6_3_2 vpar
clause_6_3_2 vpar fits =
    record {
      first = left_exact w32 (pos 16384) 15 (record { sfits = omega arith });
      each = λ m. let z = at vpar m in left_exact w32 z 14 (omega (zarith, times z (pos 16384), of z, sign z, (fits m).sfits));
    }

-- ---- 6.3.3, of any coefficients
clause_6_3_3 : (vpar : List ℤ) → Clause6_3_3 (row 9 (aav1_of vpar))
clause_6_3_3 vpar =
    let a = row 9 (aav1_of vpar) in
    let i = aav1_first vpar in
    let j = aav1_small vpar in
    let n = norm_in a i j in
    record { normrav1 = omega (zarith, (work_first_in a i j).0); by_normrav1 = rw (norm_is a i j) (record { from = omega zarith; to = omega zarith }) }

-- ---- 6.4
clause_6_4 : (l_av0 : List ℤ) (l_temp : ℤ) (f : Filter) → Long (at l_av0 0) → Long l_temp → Whitening f → Clause6_4 l_av0 l_temp f
clause_6_4 l_av0 l_temp f l m w =
    record {
      shift_av0 = l.not_negative;
      by_shift_3 = less;
      sav0_first = sav0_eight l_av0 l;
      shift_temp = m.not_negative;
      by_shift = norm_amount l_temp;
      below = λ t. let i = top_range l_temp m in record { not_negative = i.0; not_above = omega zarith };
      above = λ t.
          let x = temp_of l_temp in
          let y = divisor_of l_av0 in
          let i = top_range l_temp m in
          let j = divisor_range l_av0 l in
          let s = sub_parts x y (omega (zarith, minus x y)) in
          record { not_negative = omega zarith; not_above = omega zarith };
      rav1_first = let z = at f.rav1 0 in left_exact w32 z 11 (omega (zarith, times z (pos 2048), w.lo, w.hi));
      by_normrav1 = record { from = w.norm_lo; to = w.norm_hi };
    }
  where
    less : Between (negsuc 2) (pos 27) (sub (norm (at l_av0 0)) (pos 3))
    less =
        let n = norm (at l_av0 0) in
        let h = norm_amount (at l_av0 0) in
        let s = sub_parts n (pos 3) (omega (zarith, minus n (pos 3), h.from, h.to)) in
        record { from = omega (zarith, h.from); to = omega (zarith, h.to) }

-- ---- 6.6
fitted : (x : ℤ) → (pos 0 ≤ℤ x) × (x ≤ℤ pos 65535) → Fitted x
fitted x i = record { halved = λ h. short_half x i.0 i.1; whole = short_whole x i.0 i.1 }

margin : Mantissa MARGIN.m
margin = record { low = omega zarith; high = omega zarith }

clause_6_6 : (thvad pvad : Pair) → Mantissa thvad.m → Ranged (negsuc 5) (pos 52) pvad → Clause6_6 thvad pvad
clause_6_6 thvad pvad k w =
    let j = w.mantissa in
    let low = lowered_mantissa thvad k in
    record {
      lowered = lowered_twice thvad k;
      tripled = fitted _ (tripled_in pvad.m j);
      raised = fitted _ (added_in _ _ (pos 4) low low (omega zarith));
      margin_level = λ e. level;
      margin_above = λ h. (up_by h, fitted _ (added_in pvad.m MARGIN.m _ j margin (omega (zarith, (up_by h).from))));
      margin_below = λ h. (down_by h, fitted _ (added_in MARGIN.m pvad.m _ margin j (omega (zarith, (down_by h).from))));
      far = λ n h. (right_far MARGIN.m n margin h, right_far pvad.m n j h);
    }
  where
    level : let x = l_add pvad.m MARGIN.m >> pos 1 in short x ≡ x
    level =
        let j = w.mantissa in
        let x = l_add pvad.m (pos 19531) in
        let b = l_add_parts pvad.m (pos 19531) (omega (zarith, plus pvad.m (pos 19531), j.low, j.high)) in
        let r = right_parts w32 x 1 in
        short_exact (omega (zarith, j.low, j.high))

    up_by : MARGIN.e <ℤ pvad.e → Between (pos 1) (pos 25) (sub pvad.e MARGIN.e)
    up_by h =
        let s = sub_parts pvad.e (pos 27) (omega (zarith, minus pvad.e (pos 27), w.e_high)) in
        record { from = omega zarith; to = omega (zarith, w.e_high) }

    down_by : pvad.e <ℤ MARGIN.e → Between (pos 1) (pos 33) (sub MARGIN.e pvad.e)
    down_by h =
        let s = sub_parts (pos 27) pvad.e (omega (zarith, minus (pos 27) pvad.e, w.e_low)) in
        record { from = omega zarith; to = omega (zarith, w.e_low) }

-- ---- 6.10.2
clause_6_10_2 : (smax : ℤ) → (pos 0 ≤ℤ smax) × (smax ≤ℤ pos 32767) → Clause6_10_2 smax
clause_6_10_2 smax i =
    record {
      lifted = exact;
      norm_smax = rw exact (omega (zarith, times smax (pos 65536), i.0));
      asked = λ h. rw exact (omega (zarith, times smax (pos 65536), not_0 h));
      by_scalauto = λ h.
          let n = scalauto_of smax in
          let l = scalauto_le smax in
          let s = sub_parts n (pos 1) (omega (zarith, minus n (pos 1), h, l)) in
          record { from = omega (zarith, h); to = omega (zarith, l) };
    }
  where
    exact : smax << pos 16 ≡ smax *ℤ pos 65536
    exact = left_exact w32 smax 16 (omega (zarith, times smax (pos 65536), i.0, i.1))

    not_0 : eqZ smax (pos 0) ≡ false → pos 1 ≤ℤ smax
    not_0 h = either (pos 1 ≤ℤ smax) (le_z (pos 1) smax) (λ u. omega zarith) (λ u. absurd (true≢false (sym (eqZ_yes (omega (zarith, i.0))) ∙ h)))

-- ---- 6.10.3: L_acfh[0] is a sum of squares
square : (x : ℤ) → pos 0 ≤ℤ l_mult x x
unfolding l_mult clamp
square x = clamp_mono w32 (pos 0) (x *ℤ x *ℤ pos 2) (doubled x)
  where
    doubled : (x : ℤ) → pos 0 ≤ℤ (x *ℤ x *ℤ pos 2)
    doubled (pos n) = omega zarith
    doubled (negsuc n) = omega zarith

sum_some : (n : ℕ) (t : ℕ → ℤ) → ((k : ℕ) → pos 0 ≤ℤ t k) → pos 0 ≤ℤ l_sum n t
unfolding l_sum l_add clamp
sum_some zero t h = omega zarith
sum_some (suc n) t h = clamp_mono w32 (pos 0) (l_sum n t +ℤ t n) (omega (zarith, plus (l_sum n t) (t n), sum_some n t h, h n))

acfh_some : (sofh : List ℤ) → pos 0 ≤ℤ l_acfh_of sofh 0
unfolding l_acfh_of
acfh_some sofh =
    sum_some 160 (λ j. l_mult (at sofh (j + 0)) (at sofh j))
    (λ j. let e : j ≡ j + 0 = omega arith in subst (λ (i : ℕ). pos 0 ≤ℤ l_mult (at sofh i) (at sofh j)) e (square (at sofh j)))

-- ---- 6.10.5
clause_6_10_5 : (a1 a2 : ℤ) → SFits w16 a2 → Clause6_10_5 a1 a2
clause_6_10_5 a1 a2 f =
    record {
      lifted = left_exact w32 a2 16 (omega (zarith, times a2 (pos 65536), of a2, sign a2, f.sfits));
      temp = short_exact (top_short (l_mult a1 a1) 16 (omega arith) (l_mult_fits a1 a1));
    }

a2_fits : (sofh : List ℤ) → SFits w16 (a2_of (rc_of sofh))
unfolding a2_of rc_of
a2_fits sofh = right_fits w16 (at (rc_of sofh) 2) (pos 2) (reflection_fits 4 (row 5 (l_acfh_of sofh)) 2)

-- ---- 6.10, whatever the samples are
clause_6_10 : (sof : List ℤ) → Clause6_10 sof
clause_6_10 sof =
    let sofh = dynamic_of (sofh_of sof) in
    record {
      c_6_10_2 = clause_6_10_2 (smax_of 160 (sofh_of sof)) (smax_range (sofh_of sof) 160);
      c_6_10_3 = clause_6_3_1 4 (row 5 (l_acfh_of sofh)) (subst (λ (z : ℤ). pos 0 ≤ℤ z) (sym (row_at 5 (l_acfh_of sofh) 0 (pos 0) (omega arith))) (acfh_some sofh));
      c_6_10_5 = clause_6_10_5 (a1_of (rc_of sofh)) (a2_of (rc_of sofh)) (a2_fits sofh);
    }

-- ---- a whole frame
average_fits : (l_acf : List ℤ) (scalvad : ℤ) (l_sacf : List ℤ) (p : ℕ) (l_sav0 : List ℤ) (q : ℕ) → SFits w32 (at (average_of l_acf scalvad l_sacf p l_sav0 q).av0 0)
unfolding average_of l_av0_of
average_fits l_acf scalvad l_sacf p l_sav0 q =
    subst (SFits w32) (sym (row_at 9 (l_av0_of l_sacf (row 9 (l_temp_of l_acf scalvad))) 0 (pos 0) (omega arith))) (l_add_fits _ _)

pub covered : (d : Direction) (l_acf : List ℤ) (lags : List ℕ) (scalvad : ℤ) (s : State) → Numbers l_acf → Shaped s → refusal_of (samples_ok d) l_acf lags scalvad s ≡ 0 → Covered d l_acf lags scalvad s
covered d l_acf lags scalvad s fits shape none =
    let ok = accepted (samples_ok d) l_acf lags scalvad s none in
    let v = ok.state in
    let a = average_keeps l_acf scalvad s.sacf s.ptsacf s.sav0 s.ptsav0 (incoming l_acf lags scalvad s fits shape ok) (frames_was s shape v) (frames_at_was s shape v) (sums_was s shape v) (sums_at_was s shape v) in
    let l_av0 = (average_of l_acf scalvad s.sacf s.ptsacf s.sav0 s.ptsav0).av0 in
    let l_av1 = (average_of l_acf scalvad s.sacf s.ptsacf s.sav0 s.ptsav0).av1 in
    record {
      c_6_1 = λ h.
          ⊎_elim (λ e. absurd (omega (zarith, same e))) (λ g. clause_6_1 l_acf scalvad s.rvad g ok.scale) (kind l_acf lags scalvad s fits shape ok);
      c_6_2 = clause_6_2 scalvad s.ptsacf s.ptsav0 ok.scale v.ptsacf_last v.ptsav0_last;
      c_6_3_1 = clause_6_3_1 8 l_av1 a.av1_first;
      c_6_3_2 = clause_6_3_2 (vpar_of l_av1) (vpar_fits l_av1);
      c_6_3_3 = clause_6_3_3 (vpar_of l_av1);
      c_6_4 = clause_6_4 l_av0 _ _ (long (at l_av0 0) a.av0_first (average_fits l_acf scalvad s.sacf s.ptsacf s.sav0 s.ptsav0)) (temp_long (predicted_of l_av1).rav1 l_av0) (predicted_whitening l_av1);
      c_6_6 = λ t.
          clause_6_6 s.thvad _ (record { low = v.mantissa.from; high = v.mantissa.to })
          (energy_loud l_acf scalvad s.rvad s.normrvad (kind l_acf lags scalvad s fits shape ok) ok.scale.from ok.scale.to
          (filter_ok l_acf lags scalvad s fits shape ok) v.normrvad.from v.normrvad.to t);
      c_6_9 = record { first = v.oldlag.0; each = λ j h. (ok.each_lag j h).0 };
      c_6_10 = λ sof e. clause_6_10 sof;
      all_zero = λ e. ap (λ (x : Energies). greater_of PTH x.acf0) (energy_silent l_acf scalvad s.rvad s.normrvad e) ∙ sym (above PTH silent refl);
    }

-- what a caller has: `r ≡ answer_for d ..` is what the function of the direction d ensures
pub never_met : (d : Direction) (l_acf : List ℤ) (lags : List ℕ) (scalvad : ℤ) (s : State) (r : Answer) → r ≡ answer_for d l_acf lags scalvad s → Numbers l_acf → Shaped s → NeverMet d l_acf lags scalvad s r
never_met d l_acf lags scalvad s r e fits shape none =
    covered d l_acf lags scalvad s fits shape (sym (numbered d l_acf lags scalvad s) ∙ (ap (λ (x : Answer). x.refusal) (sym e) ∙ none))

-- ---- frames that this speaks of: one with energy, and one that is not below the level of 6.6
pub covered_quiet : Covered up quiet forty (pos 0) reset_of × (pos 1 ≤ℤ at quiet 0)
unfolding refusal_of frame_refusal_of lengths_ok samples_ok scale_ok acf_ok lags_ok valid_of counts_ok pointer_ok sacf_ok sacf_within sav0_ok rvad_ok weight_of thvad_ok lag_ok within reset_of row all total IF◌THEN◌ELSE◌
covered_quiet = (covered up quiet forty (pos 0) reset_of (numbers 1 (omega arith)) reset_meets.1 refl, omega zarith)

abbrev strong : List ℤ
strong = acf (pos 1073741824) (pos 0)

pub covered_strong : Covered up strong forty (pos 0) reset_of × (greater_of PTH (energy_of strong (pos 0) reset_of.rvad reset_of.normrvad).acf0 ≡ false)
unfolding refusal_of frame_refusal_of lengths_ok samples_ok scale_ok acf_ok lags_ok valid_of counts_ok pointer_ok sacf_ok sacf_within sav0_ok rvad_ok weight_of thvad_ok lag_ok within reset_of row all total IF◌THEN◌ELSE◌ energy_of acf0_of sacf_of add sub norm count_leading_zeros shift_left shift_right clamp wrap residue eqZ greater_of
covered_strong = (covered up strong forty (pos 0) reset_of (numbers 1073741824 (omega arith)) reset_meets.1 refl, refl)

-- and one of the downlink whose samples are scaled, by the largest amount: a tone of 400 Hz, from one end of the range to the other
pub covered_down : Covered (down four_hundred) quiet forty (pos 0) reset_of × (scalauto_of (smax_of 160 (sofh_of four_hundred)) ≡ pos 4)
unfolding refusal_of frame_refusal_of lengths_ok samples_ok scale_ok acf_ok lags_ok valid_of counts_ok pointer_ok sacf_ok sacf_within sav0_ok rvad_ok weight_of thvad_ok lag_ok within reset_of row all total IF◌THEN◌ELSE◌ periods four_hundred hann window_of sofh_of smax_of scalauto_of sub mult_r abs norm count_leading_zeros shift_left clamp wrap residue eqZ
covered_down = (covered (down four_hundred) quiet forty (pos 0) reset_of (numbers 1 (omega arith)) reset_meets.1 refl, refl)

-- ---- and divisions: `div` itself, so that the recursion of specs/Covered.antt is the clause's; and one that answers 0 where document 01 is silent
pub same_recursion : (N : ℕ) (l_av1 : List ℤ) → reflection_by div N l_av1 ≡ reflection_of N l_av1
same_recursion = reflection_alike div (λ x y h. refl)

abbrev elsewhere_0 : ℤ → ℤ → ℤ
elsewhere_0 x y = IF le_z (pos 0) x && le_z x y THEN div x y ELSE pos 0

pub other_division : (x y : ℤ) → Divides x y → elsewhere_0 x y ≡ div x y
other_division x y h = by_yes (div x y) (pos 0) (both (le_true (pos 0) x (omega (zarith, h.not_negative))) (le_true x y (omega (zarith, h.not_above))))
