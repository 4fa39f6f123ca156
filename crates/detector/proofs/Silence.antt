-- An all-zero frame from a valid state is answered as specs/Silence.antt says, averages that begin with 0 have no spectrum, eight frames of silence leave
-- nothing of a sound in what 6.2 to 6.4 keep, and the frame after them counts as steady. Assumes nothing.
use mathlib.Core.Path.{◌≡◌, refl, sym, ap, ap₂, subst, ◌∙◌}
use mathlib.Core.Bool.{Bool, true, false}
use mathlib.Core.List.{List, [], ◌∷◌}
use Prim.Native.Nat.{ℕ, zero, suc, ◌+◌}
use native.Mathlib.Omega.{arith}
use lib.Count.{count_leading_zeros}
use lib.Dec.{eqb}
use borrow.Author.Tests.{eqb-true, eqb-false}
use lib.IntN.{ℤ, pos}
use lib.ListN.{length}
use lib.Signed.{le_z}
use mir.Syntax.{w32}
use Rattle.numbers.specs.Sum.{at}
use Rattle.numbers.specs.Clamp.{clamp}
use Rattle.numbers.specs.Floor.{residue}
use Rattle.numbers.specs.Wrap.{wrap}
use Rattle.numbers.proofs.Parts.{zarith, of, same}
use Rattle.operations.specs.Operations.{sub, l_add, l_sub, l_mult, norm, shift_left, shift_right, ◌<<ₛ◌, ◌>>◌}
use Rattle.operations.proofs.Laws.{l_mult_nothing, right_nothing}
use Rattle.rows.specs.Choice.{IF◌THEN◌ELSE◌, eqZ}
use Rattle.rows.specs.Rows.{row, first_of, l_sum}
use Rattle.rows.proofs.Choice.{either, by_yes, eqZ_yes}
use Rattle.rows.proofs.Fill.{row_at, row_ext, row_all, first_whole}
use Rattle.rows.proofs.Sum.{l_sum_ext}
use Rattle.pairs.specs.Pairs.{silent, greater_of}
use Rattle.pairs.proofs.Order.{above, below}
use Rattle.energy.specs.Energy.{energy_of}
use Rattle.energy.specs.declared.Energies.{Energies}
use Rattle.energy.proofs.Range.{energy_silent}
use Rattle.averages.specs.Averages.{LAST_SACF, LAST_SAV0, inside, l_temp_of, l_av0_of, stored_of, l_av1_of, next_of, average_of}
use Rattle.averages.specs.declared.Averages.{Averages}
use Rattle.averages.proofs.Pointers.{Pointer, averages_by, average_inside}
use Rattle.predictor.specs.Schur.{reflection_of, vpar_of}
use Rattle.predictor.specs.StepUp.{raised_of, l_coef_of, aav1_of}
use Rattle.predictor.specs.Filter.{l_work_of, whitened_of, predicted_of}
use Rattle.predictor.specs.declared.Filter.{Filter}
use Rattle.spectrum.specs.Spectrum.{sav0_of, l_Σp_of, size_of, measured_of, l_dm_of, compare_of}
use Rattle.spectrum.specs.declared.Compared.{Compared}
use Rattle.threshold.specs.Threshold.{PTH, PLEV, adapt_of}
use Rattle.threshold.specs.declared.Kept.{Kept}
use Rattle.hangover.specs.Hangover.{hangover_of}
use Rattle.hangover.proofs.Kept.{quiet_flag}
use Rattle.frames.specs.Frame.{Direction, Frame, samples_ok}
use Rattle.state.specs.declared.State.{State}
use Rattle.detector.specs.Answer.{Answer}
use Rattle.detector.specs.Refusal.{refusal_of}
use Rattle.detector.specs.Step.{spectral_of, accepted_of, tone_read, tone_kept, answer_for}
use Rattle.detector.specs.Run.{answer_to, state_from}
use Rattle.detector.specs.Silence.{zeros, nothing, SilentFrame, SilentFrames, NoSpectrums, Silence, Forgotten, EightForget, SteadyNext}
use Rattle.detector.proofs.Table.{accepted_0, step_accepted}
use Rattle.detector.proofs.Keeps.{Accepted, accepted}

-- 6.6 of silence: the level goes before all that 6.2 to 6.4 find
at_level : (ptch stat tone : Bool) (rav1 : List ℤ) (normrav1 : ℤ) (k : Kept) → adapt_of silent silent ptch stat tone rav1 normrav1 k ≡ record { thvad = PLEV; adaptcount = k.adaptcount; rvad = k.rvad; normrvad = k.normrvad }
unfolding adapt_of
at_level ptch stat tone rav1 normrav1 k = by_yes _ _ (sym (above PTH silent refl))

module _ (d : Direction) (l_acf : List ℤ) (lags : List ℕ) (scalvad : ℤ) (s : State) (ok : refusal_of (samples_ok d) l_acf lags scalvad s ≡ 0) (all_zero : at l_acf 0 ≡ pos 0) where
  fine : Accepted l_acf lags scalvad s
  fine = accepted (samples_ok d) l_acf lags scalvad s ok

  is : answer_for d l_acf lags scalvad s ≡ accepted_of (tone_read d s) (tone_kept d) l_acf lags scalvad s
  is = step_accepted d l_acf lags scalvad s ok

  -- 6.1
  abbrev e : Energies
  e = energy_of l_acf scalvad s.rvad s.normrvad

  energies : e ≡ record { acf0 = silent; pvad = silent }
  energies = energy_silent l_acf scalvad s.rvad s.normrvad all_zero

  -- 6.2: each number that is stored is 0
  each_zero : (k : ℕ) → at l_acf k ≡ pos 0
  each_zero k = omega (zarith, of (at l_acf k), of (at l_acf 0), fine.largest k, same all_zero)

  stored : row 9 (l_temp_of l_acf scalvad) ≡ zeros
  unfolding row l_temp_of
  stored = row_ext 9 (l_temp_of l_acf scalvad) (λ i. pos 0) (λ k h. ap (λ (z : ℤ). z >> sub (pos 10) (scalvad <<ₛ pos 1)) (each_zero k) ∙ right_nothing w32 _)

  averaged : average_of l_acf scalvad s.sacf s.ptsacf s.sav0 s.ptsav0 ≡ averages_by zeros s.sacf s.ptsacf s.sav0 s.ptsav0
  averaged =
      average_inside l_acf scalvad s.sacf s.ptsacf s.sav0 s.ptsav0 fine.state.ptsacf_last fine.state.ptsav0_last
      ∙ ap (λ (l_temp : List ℤ). averages_by l_temp s.sacf s.ptsacf s.sav0 s.ptsav0) stored

  -- 6.3 and 6.4 of what 6.2 gives
  abbrev filter_by : Averages → Filter
  filter_by a = predicted_of a.av1

  abbrev compared_by : Averages → Compared
  compared_by a = compare_of a.av0 (filter_by a).rav1 (filter_by a).normrav1 s.lastdm

  -- 6.6, with any stat, tone and filter
  abbrev was : Kept
  was = record { thvad = s.thvad; adaptcount = s.adaptcount; rvad = s.rvad; normrvad = s.normrvad }

  left : (ptch stat tone : Bool) (rav1 : List ℤ) (normrav1 : ℤ)
      → adapt_of e.acf0 e.pvad ptch stat tone rav1 normrav1 was ≡ record { thvad = PLEV; adaptcount = s.adaptcount; rvad = s.rvad; normrvad = s.normrvad }
  left ptch stat tone rav1 normrav1 = ap (λ (x : Energies). adapt_of x.acf0 x.pvad ptch stat tone rav1 normrav1 was) energies ∙ at_level ptch stat tone rav1 normrav1 was

  -- 6.7 and 6.8
  raw : (ptch stat tone : Bool) (rav1 : List ℤ) (normrav1 : ℤ) → greater_of e.pvad (adapt_of e.acf0 e.pvad ptch stat tone rav1 normrav1 was).thvad ≡ false
  raw ptch stat tone rav1 normrav1 =
      ap₂ (λ (x : Energies) (k : Kept). greater_of x.pvad k.thvad) energies (left ptch stat tone rav1 normrav1) ∙ sym (below silent PLEV refl)

  sent : (ptch stat tone : Bool) (rav1 : List ℤ) (normrav1 : ℤ)
      → (hangover_of (greater_of e.pvad (adapt_of e.acf0 e.pvad ptch stat tone rav1 normrav1 was).thvad) s.burstcount s.hangcount).vad ≡ le_z (pos 0) s.hangcount
  sent ptch stat tone rav1 normrav1 = ap (λ (b : Bool). (hangover_of b s.burstcount s.hangcount).vad) (raw ptch stat tone rav1 normrav1) ∙ quiet_flag s.burstcount s.hangcount

  vvad_is : (answer_for d l_acf lags scalvad s).vvad ≡ false
  unfolding accepted_of
  vvad_is = ap (λ (r : Answer). r.vvad) is ∙ raw _ _ _ _ _

  vad_is : (answer_for d l_acf lags scalvad s).vad ≡ le_z (pos 0) s.hangcount
  unfolding accepted_of
  vad_is = ap (λ (r : Answer). r.vad) is ∙ sent _ _ _ _ _

  whole : SilentFrame d l_acf lags scalvad s
  unfolding accepted_of spectral_of
  whole =
      record {
        acf0 = ap (λ (r : Answer). r.acf0) is ∙ ap (λ (x : Energies). x.acf0) energies;
        pvad = ap (λ (r : Answer). r.pvad) is ∙ ap (λ (x : Energies). x.pvad) energies;
        sacf = ap (λ (r : Answer). r.next.sacf) is ∙ ap (λ (a : Averages). a.sacf) averaged;
        sav0 = ap (λ (r : Answer). r.next.sav0) is ∙ ap (λ (a : Averages). a.sav0) averaged;
        ptsacf = ap (λ (r : Answer). r.next.ptsacf) is ∙ ap (λ (a : Averages). a.ptsacf) averaged;
        ptsav0 = ap (λ (r : Answer). r.next.ptsav0) is ∙ ap (λ (a : Averages). a.ptsav0) averaged;
        lastdm = ap (λ (r : Answer). r.next.lastdm) is ∙ ap (λ (a : Averages). (compared_by a).dm) averaged;
        stat = ap (λ (r : Answer). r.stat) is ∙ ap (λ (a : Averages). (compared_by a).stat) averaged;
        thvad = ap (λ (r : Answer). r.next.thvad) is ∙ ap (λ (k : Kept). k.thvad) (left _ _ _ _ _);
        adaptcount = ap (λ (r : Answer). r.next.adaptcount) is ∙ ap (λ (k : Kept). k.adaptcount) (left _ _ _ _ _);
        rvad = ap (λ (r : Answer). r.next.rvad) is ∙ ap (λ (k : Kept). k.rvad) (left _ _ _ _ _);
        normrvad = ap (λ (r : Answer). r.next.normrvad) is ∙ ap (λ (k : Kept). k.normrvad) (left _ _ _ _ _);
        vvad = vvad_is;
        vad = vad_is;
        any_reading = λ m. (vvad_is ∙ sym (raw _ m.stat _ m.rav1 m.normrav1), vad_is ∙ sym (sent _ m.stat _ m.rav1 m.normrav1));
      }

-- the flags of an all-zero frame are the hangover's alone, and the frame enters the histories
pub silent_frame : SilentFrames
silent_frame = whole

-- 6.3.2 and 6.3.3 without a coefficient
flat : whitened_of (row 9 (aav1_of zeros)) ≡ nothing
unfolding whitened_of l_work_of l_sum aav1_of l_coef_of raised_of row IF◌THEN◌ELSE◌ l_add l_mult norm count_leading_zeros shift_left shift_right clamp wrap residue
flat = refl

-- an average that begins with 0
pub no_spectrum : NoSpectrums
unfolding vpar_of reflection_of predicted_of sav0_of row
no_spectrum l_av z =
    let none : vpar_of l_av ≡ zeros = by_yes _ _ (eqZ_yes z) in
    record { vpar = none; filter = ap (λ (v : List ℤ). whitened_of (row 9 (aav1_of v))) none ∙ flat; sav0 = λ i. by_yes _ _ (eqZ_yes z) }

-- ---- silence that lasts: what 6.2 to 6.4 keep, and what an all-zero frame makes of it
record Held : Type 0 where
  sacf : List ℤ
  ptsacf : ℕ
  sav0 : List ℤ
  ptsav0 : ℕ
  lastdm : ℤ

abbrev held_of : State → Held
held_of s = record { sacf = s.sacf; ptsacf = s.ptsacf; sav0 = s.sav0; ptsav0 = s.ptsav0; lastdm = s.lastdm }

hush : Held → Held
hush h =
    let a = averages_by zeros h.sacf h.ptsacf h.sav0 h.ptsav0 in
    let f = predicted_of a.av1 in
    record { sacf = a.sacf; ptsacf = a.ptsacf; sav0 = a.sav0; ptsav0 = a.ptsav0; lastdm = (compare_of a.av0 f.rav1 f.normrav1 h.lastdm).dm }

hushes : ℕ → Held → Held
hushes zero h = h
hushes (suc n) h = hushes n (hush h)

one_more : (s : State) (f : Frame) → (answer_to s f).refusal ≡ 0 → at f.l_acf 0 ≡ pos 0 → held_of (answer_to s f).next ≡ hush (held_of s)
unfolding answer_to hush
one_more s f e z =
    let q = silent_frame f.direction f.l_acf f.lags f.scalvad s (accepted_0 f.direction f.l_acf f.lags f.scalvad s e) z in
    rw (q.sacf, q.ptsacf, q.sav0, q.ptsav0, q.lastdm)

all_of_them : (s : State) (fs : List Frame) → Silence s fs → held_of (state_from s fs) ≡ hushes (length fs) (held_of s)
unfolding state_from Silence hushes
all_of_them s [] q = refl
all_of_them s (f ∷ fs) (e, z, q) = all_of_them (answer_to s f).next fs q ∙ ap (hushes (length fs)) (one_more s f e z)

-- where a pointer can stand
by_18 : (P : ℕ → Type 0) → P 0 → P 9 → P 18 → (p : ℕ) → Pointer LAST_SACF p → P p
by_18 P a b c p h =
    either (P p) (eqb p 0) (λ t. subst P (sym (eqb-true p 0 t)) a)
    (λ t.
    either (P p) (eqb p 9) (λ u. subst P (sym (eqb-true p 9 u)) b)
    (λ u. let e : 18 ≡ p = omega (arith, h.within, h.nines, eqb-false p 0 t, eqb-false p 9 u) in subst P e c))

by_27 : (P : ℕ → Type 0) → P 0 → P 9 → P 18 → P 27 → (q : ℕ) → Pointer LAST_SAV0 q → P q
by_27 P a b c d q h =
    either (P q) (eqb q 27) (λ t. subst P (sym (eqb-true q 27 t)) d)
    (λ t. by_18 P a b c q (record { within = omega (arith, h.within, h.nines, eqb-false q 27 t); nines = h.nines }))

-- nothing is left, whatever the histories held, and wherever the pointers stood
module _ (a b : ℕ → ℤ) (d : ℤ) where
  abbrev Nothing : ℕ → ℕ → Type 0
  Nothing p q =
      let h = hushes 8 (record { sacf = row 27 a; ptsacf = p; sav0 = row 36 b; ptsav0 = q; lastdm = d }) in
      (h.sacf ≡ row 27 (λ i. pos 0)) × (h.sav0 ≡ row 36 (λ i. pos 0)) × (h.lastdm ≡ pos 65536)

  nothing_left : (p q : ℕ) → Pointer LAST_SACF p → Pointer LAST_SAV0 q → Nothing p q
  unfolding hushes hush stored_of next_of IF◌THEN◌ELSE◌ row l_av0_of l_av1_of l_add clamp predicted_of whitened_of l_work_of l_sum aav1_of l_coef_of raised_of vpar_of reflection_of eqZ l_mult norm count_leading_zeros shift_left shift_right wrap residue compare_of l_dm_of size_of l_Σp_of sav0_of measured_of sub l_sub
  nothing_left p q P Q =
      by_18 (λ p. Nothing p q)
      (by_27 (Nothing 0) (refl, refl, refl) (refl, refl, refl) (refl, refl, refl) (refl, refl, refl) q Q)
      (by_27 (Nothing 9) (refl, refl, refl) (refl, refl, refl) (refl, refl, refl) (refl, refl, refl) q Q)
      (by_27 (Nothing 18) (refl, refl, refl) (refl, refl, refl) (refl, refl, refl) (refl, refl, refl) q Q)
      p
      P

pub silence_forgets : EightForget
unfolding Silence answer_to first_of
silence_forgets s [] shape n q = absurd (omega arith)
silence_forgets s (f ∷ fs) shape n q =
    let v = (accepted (samples_ok f.direction) f.l_acf f.lags f.scalvad s (accepted_0 f.direction f.l_acf f.lags f.scalvad s q.0)).state in
    let rows : hushes (length (f ∷ fs)) (held_of s) ≡ hushes 8 (record { sacf = first_of 27 (pos 0) s.sacf; ptsacf = s.ptsacf; sav0 = first_of 36 (pos 0) s.sav0; ptsav0 = s.ptsav0; lastdm = s.lastdm }) = rw (n, first_whole 27 s.sacf (pos 0) shape.sacf, first_whole 36 s.sav0 (pos 0) shape.sav0) in
    let e = all_of_them s (f ∷ fs) q ∙ rows in
    let r = nothing_left (λ i. at s.sacf i) (λ i. at s.sav0 i) s.lastdm s.ptsacf s.ptsav0 (record { within = v.ptsacf_last; nines = v.ptsacf_nines }) (record { within = v.ptsav0_last; nines = v.ptsav0_nines }) in
    record {
      sacf = ap (λ (h : Held). h.sacf) e ∙ r.0;
      sav0 = ap (λ (h : Held). h.sav0) e ∙ r.1;
      lastdm = ap (λ (h : Held). h.lastdm) e ∙ r.2;
    }

-- ---- the frame after it. 6.4 by the filter of nothing: each product is 0, whatever the average is
no_sum : (l_av0 : List ℤ) → l_Σp_of nothing.rav1 l_av0 ≡ pos 0
unfolding l_Σp_of l_sum row l_add clamp
no_sum l_av0 =
    l_sum_ext 8 (λ k. l_mult (at nothing.rav1 (suc k)) (sav0_of l_av0 (suc k))) (λ k. pos 0)
    (λ k h. ap (λ (x : ℤ). l_mult x (sav0_of l_av0 (suc k))) (row_all (λ (z : ℤ). z ≡ pos 0) 8 (λ i. pos 0) refl (λ j. refl) k) ∙ l_mult_nothing (sav0_of l_av0 (suc k)))

same_dm : (l_av0 : List ℤ) → l_dm_of l_av0 nothing.rav1 nothing.normrav1 ≡ pos 65536
unfolding l_dm_of size_of measured_of IF◌THEN◌ELSE◌ eqZ l_add clamp shift_left shift_right wrap residue
same_dm l_av0 = rw (no_sum l_av0)

module _ (s : State) (f : Frame) (n : Forgotten s) (ok : (answer_to s f).refusal ≡ 0) where
  av1_first : at (average_of f.l_acf f.scalvad s.sacf s.ptsacf s.sav0 s.ptsav0).av1 0 ≡ pos 0
  unfolding average_of l_av1_of
  av1_first =
      row_at 9 _ 0 (pos 0) (omega arith)
      ∙ subst (λ (l : List ℤ). at l (inside LAST_SAV0 s.ptsav0 + 0) ≡ pos 0) (sym n.sav0) (row_all (λ (z : ℤ). z ≡ pos 0) 36 (λ i. pos 0) refl (λ j. refl) _)

  -- the filter is that of nothing
  measured : let m = average_of f.l_acf f.scalvad s.sacf s.ptsacf s.sav0 s.ptsav0 in
      let g = predicted_of m.av1 in l_dm_of m.av0 g.rav1 g.normrav1 ≡ pos 65536
  measured = rw (no_spectrum _ av1_first).filter (same_dm _)

  is_next : answer_to s f ≡ accepted_of (tone_read f.direction s) (tone_kept f.direction) f.l_acf f.lags f.scalvad s
  unfolding answer_to
  is_next = step_accepted f.direction f.l_acf f.lags f.scalvad s (accepted_0 f.direction f.l_acf f.lags f.scalvad s ok)

  steady : ((answer_to s f).stat ≡ true) × ((answer_to s f).next.lastdm ≡ pos 65536)
  unfolding accepted_of spectral_of compare_of size_of IF◌THEN◌ELSE◌ l_sub clamp
  steady = rw is_next (rw (measured, n.lastdm) refl, measured)

pub steady_next : SteadyNext
steady_next = steady
