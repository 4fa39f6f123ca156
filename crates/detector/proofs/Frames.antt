-- What holds of every accepted frame from a valid state: no sum of 6.1, 6.2 or 6.3.3 clips, and the raw decision compares by value.
-- Assumes nothing.
use mathlib.Core.Path.{◌≡◌, refl, sym, subst}
use mathlib.Core.Bool.{true}
use mathlib.Core.List.{List}
use mathlib.Core.Logic.{◌↔◌, ⊎_elim, inl, inr}
use Prim.Native.Nat.{ℕ, suc, ◌+◌, ◌-◌, ◌<◌, ◌≤◌}
use lib.IntN.{ℤ, pos, negsuc, ◌+ℤ◌, ◌*ℤ◌}
use Rattle.numbers.specs.Sum.{at, sum}
use Rattle.numbers.proofs.Parts.{zarith}
use Rattle.operations.specs.Operations.{l_mult}
use Rattle.rows.specs.Rows.{row, l_sum}
use Rattle.pairs.specs.Pairs.{worth_of}
use Rattle.pairs.proofs.Range.{widened}
use Rattle.pairs.proofs.Worth.{Valued, normalised, worth_order}
use Rattle.energy.specs.Energy.{sacf_of, filter_sum_of, energy_of}
use Rattle.energy.specs.Exact.{exact_of}
use Rattle.energy.specs.declared.Energies.{Energies}
use Rattle.energy.proofs.Range.{Frame, partial, sacf_small, filter_exact, energy_silent, energy_is, pvad_range}
use Rattle.averages.specs.Averages.{average_of, l_temp_of}
use Rattle.averages.proofs.Kept.{average_exact}
use Rattle.predictor.specs.Schur.{vpar_of}
use Rattle.predictor.specs.StepUp.{aav1_of}
use Rattle.predictor.specs.Filter.{l_work_of}
use Rattle.predictor.proofs.Predictor.{aav1_first, aav1_small}
use Rattle.predictor.proofs.Autocorrelation.{work_exact}
use Rattle.frames.specs.Frame.{Direction, samples_ok}
use Rattle.state.specs.declared.State.{State}
use Rattle.state.specs.Valid.{Shaped}
use Rattle.detector.specs.Answer.{Answer}
use Rattle.detector.specs.Refusal.{refusal_of}
use Rattle.detector.specs.Step.{accepted_of, tone_read, tone_kept, answer_for}
use Rattle.detector.proofs.Table.{step_accepted}
use Rattle.detector.proofs.Keeps.{Numbers, Accepted, accepted, kind, filter_ok, incoming, sound, frames_was, frames_at_was, sums_was, sums_at_was}

-- ---- 6.3.3, from any averages: no product and no sum clips
pub work_unclipped : (l_av1 : List ℤ) (i : ℕ) → i ≤ 9 → let a = row 9 (aav1_of (vpar_of l_av1)) in l_work_of a i ≡ sum (9 - i) (λ k. at a k *ℤ at a (k + i) *ℤ pos 2)
work_unclipped l_av1 i h = work_exact (row 9 (aav1_of (vpar_of l_av1))) (aav1_first (vpar_of l_av1)) (aav1_small (vpar_of l_av1)) i h

module _ (d : Direction) (l_acf : List ℤ) (lags : List ℕ) (scalvad : ℤ) (s : State) (fits : Numbers l_acf) (shape : Shaped s) (none : refusal_of (samples_ok d) l_acf lags scalvad s ≡ 0) where
  ok : Accepted l_acf lags scalvad s
  ok = accepted (samples_ok d) l_acf lags scalvad s none

  -- ---- 6.1, of a frame with energy: each running sum is exact, and so is the filter sum
  pub filter_unclipped : Frame l_acf → (n : ℕ) → n ≤ 8 → l_sum n (λ k. l_mult (sacf_of l_acf (suc k)) (at s.rvad (suc k))) ≡ sum n (λ k. at s.rvad (suc k) *ℤ sacf_of l_acf (suc k) *ℤ pos 2)
  filter_unclipped f n h = partial (sacf_of l_acf) (sacf_small l_acf f) s.rvad (filter_ok l_acf lags scalvad s fits shape ok) n h

  pub filter_sum_unclipped : Frame l_acf → filter_sum_of l_acf s.rvad ≡ exact_of (at s.rvad) (sacf_of l_acf)
  filter_sum_unclipped f = filter_exact l_acf f s.rvad (filter_ok l_acf lags scalvad s fits shape ok)

  -- ---- 6.2: each average is the exact sum of four frames
  pub average_unclipped : (i : ℕ) → i < 9 → at (average_of l_acf scalvad s.sacf s.ptsacf s.sav0 s.ptsav0).av0 i
      ≡ at s.sacf (i + 18) +ℤ (at s.sacf (i + 9) +ℤ (at s.sacf i +ℤ l_temp_of l_acf scalvad i))
  average_unclipped =
      let v = ok.state in
      average_exact l_acf scalvad s.sacf s.ptsacf s.sav0 s.ptsav0 (incoming l_acf lags scalvad s fits shape ok)
      (frames_was s shape v) (frames_at_was s shape v) (sums_was s shape v) (sums_at_was s shape v)

  -- ---- 6.7: the pairs that occur are compared by what they are worth
  pvad_valued : Valued (energy_of l_acf scalvad s.rvad s.normrvad).pvad
  pvad_valued =
      let v = ok.state in
      let f = filter_ok l_acf lags scalvad s fits shape ok in
      ⊎_elim
      (λ z. subst (λ (x : Energies). Valued x.pvad) (sym (energy_silent l_acf scalvad s.rvad s.normrvad z)) (inr refl))
      (λ g.
      subst (λ (x : Energies). Valued x.pvad)
      (sym (energy_is l_acf g scalvad ok.scale.from ok.scale.to s.rvad f s.normrvad v.normrvad.from v.normrvad.to))
      (inl (normalised (pos 52) (widened (negsuc 22) (pos 52) (negsuc 31) (pos 52) (omega zarith) (omega zarith)
      (pvad_range l_acf g scalvad ok.scale.from ok.scale.to s.rvad f s.normrvad v.normrvad.from v.normrvad.to)))))
      (kind l_acf lags scalvad s fits shape ok)

  abbrev ByWorth : Answer → Type 0
  ByWorth r = (r.vvad ≡ true) ↔ (worth_of r.next.thvad < worth_of r.pvad)

  accepted_by_worth : ByWorth (accepted_of (tone_read d s) (tone_kept d) l_acf lags scalvad s)
  unfolding accepted_of
  accepted_by_worth = worth_order _ _ pvad_valued (inl (normalised (pos 64) (sound l_acf lags scalvad s fits shape ok _ _).thvad_in))

  -- the raw decision is speech exactly if pvad is worth more than the threshold in force
  pub decision_by_worth : ByWorth (answer_for d l_acf lags scalvad s)
  decision_by_worth = subst ByWorth (sym (step_accepted d l_acf lags scalvad s none)) accepted_by_worth
