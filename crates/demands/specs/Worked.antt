-- Frames worked out by the checker, from the state after a reset: the exact energy, and the flags that a step answers. The sums that document 01
-- has done by hand are in Sums.antt. Assumes nothing.
use Rattle.std.specs.Prelude.{◌≡◌, refl, true, false, List, [], ◌∷◌, ℕ, ◌*◌, ◌^◌, ℤ, pos}
use Rattle.std.specs.Int.Count.{count_leading_zeros}
use Rattle.numbers.specs.Sum.{sum, total}
use Rattle.numbers.specs.Clamp.{clamp}
use Rattle.numbers.specs.Floor.{residue}
use Rattle.numbers.specs.Wrap.{wrap}
use Rattle.operations.specs.Operations.{add, sub, l_add, l_mult, shift_left, shift_right, norm}
use Rattle.rows.specs.Choice.{IF◌THEN◌ELSE◌, eqZ, within}
use Rattle.rows.specs.Rows.{row, all, l_sum}
use Rattle.pairs.specs.Pairs.{greater_of}
use Rattle.energy.specs.Energy.{sacf_of, acf0_of, filter_sum_of, positive, pvad_of, energy_of}
use Rattle.energy.specs.Exact.{exact_of}
use Rattle.threshold.specs.Threshold.{adapt_of}
use Rattle.hangover.specs.Hangover.{burst_of, run_down_of, started_of, hangover_of}
use Rattle.lags.specs.Lags.{lag_ok}
use Rattle.frames.specs.Frame.{lengths_ok, samples_ok, scale_ok, acf_ok, lags_ok, frame_refusal_of}
use Rattle.state.specs.Valid.{pointer_ok, sacf_within, sacf_ok, sav0_ok, weight_of, rvad_ok, thvad_ok, counts_ok, valid_of, reset_of}
use Rattle.detector.specs.Answer.{Answer}
use Rattle.detector.specs.Refusal.{refusal_of}
use Rattle.detector.specs.Step.{accepted_of, tone_read, tone_kept, answer_for, step_of}
use Rattle.demands.specs.Distance.{e_of, energy_units}

-- L_ACF with only its first two numbers not 0
abbrev pub acf : ℤ → ℤ → List ℤ
acf x y = x ∷ y ∷ pos 0 ∷ pos 0 ∷ pos 0 ∷ pos 0 ∷ pos 0 ∷ pos 0 ∷ pos 0 ∷ []

-- four lags of 40
abbrev pub forty : List ℕ
forty = 40 ∷ 40 ∷ 40 ∷ 40 ∷ []

-- the answer to such a frame
abbrev pub answer : ℤ → ℤ → Answer
answer x y = step_of (acf x y) forty (pos 0) reset_of

-- ---- 1, 0, ..: the exact energy is 24576·2^(0-4-7) = 12
pub energy_1_0 : energy_units (acf (pos 1) (pos 0)) reset_of.rvad (pos 0) (pos 7) ≡ pos (12 * 2 ^ 80)
unfolding energy_units e_of exact_of sum reset_of
energy_1_0 = refl

-- the frame of document 01's whole case is answered 0 0 0
pub answer_1_0 : ((answer (pos 1) (pos 0)).refusal ≡ 0) × ((answer (pos 1) (pos 0)).vad ≡ false) × ((answer (pos 1) (pos 0)).vvad ≡ false)
unfolding answer_for samples_ok tone_read tone_kept accepted_of refusal_of frame_refusal_of lengths_ok scale_ok acf_ok lags_ok valid_of counts_ok pointer_ok sacf_ok sacf_within sav0_ok rvad_ok weight_of thvad_ok lag_ok within reset_of row all total IF◌THEN◌ELSE◌ energy_of acf0_of pvad_of filter_sum_of positive sacf_of l_sum add sub l_add l_mult norm count_leading_zeros shift_left shift_right clamp wrap residue eqZ adapt_of greater_of hangover_of started_of burst_of run_down_of
answer_1_0 = (refl, refl, refl)

-- ---- 100000, 0, ..: the exact energy is 1200000, and 6.6 leaves the threshold at 800000. It is answered 0 1 1
pub answer_100000_0 : ((answer (pos 100000) (pos 0)).refusal ≡ 0) × ((answer (pos 100000) (pos 0)).vad ≡ true) × ((answer (pos 100000) (pos 0)).vvad ≡ true)
unfolding answer_for samples_ok tone_read tone_kept accepted_of refusal_of frame_refusal_of lengths_ok scale_ok acf_ok lags_ok valid_of counts_ok pointer_ok sacf_ok sacf_within sav0_ok rvad_ok weight_of thvad_ok lag_ok within reset_of row all total IF◌THEN◌ELSE◌ energy_of acf0_of pvad_of filter_sum_of positive sacf_of l_sum add sub l_add l_mult norm count_leading_zeros shift_left shift_right clamp wrap residue eqZ adapt_of greater_of hangover_of started_of burst_of run_down_of
answer_100000_0 = (refl, refl, refl)
