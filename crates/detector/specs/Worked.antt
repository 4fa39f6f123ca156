-- Frames one after the other from reset, as tables that the checker computes from clauses 6.1 to 6.9: there are frames with document 01's rows of raw
-- flags, and these are the flags that `step` answers; and what silence leaves of a sound. Assumes nothing.
use Rattle.std.specs.Prelude.{◌≡◌, refl, true, List, [], ◌∷◌, map, ℕ, ℤ, pos, negsuc}
use Rattle.std.specs.Int.Count.{count_leading_zeros}
use Rattle.numbers.specs.Sum.{total}
use Rattle.numbers.specs.Clamp.{clamp}
use Rattle.numbers.specs.Floor.{residue}
use Rattle.numbers.specs.Wrap.{wrap}
use Rattle.operations.specs.Operations.{add, sub, mult_r, abs, over, div, l_add, l_sub, l_mult, shift_left, shift_right, norm}
use Rattle.rows.specs.Choice.{IF◌THEN◌ELSE◌, eqZ, within}
use Rattle.rows.specs.Rows.{row, all, l_sum}
use Rattle.pairs.specs.Pairs.{greater_of}
use Rattle.energy.specs.Energy.{sacf_of, acf0_of, filter_sum_of, positive, pvad_of, energy_of}
use Rattle.averages.specs.Averages.{inside, l_temp_of, l_av0_of, stored_of, l_av1_of, next_of, average_of}
use Rattle.predictor.specs.Schur as schur
use Rattle.predictor.specs.Schur.{k_of, leaves_of, coefficient_of, turned_of, inner_from, outer_from, schur_of, reflection_of, vpar_of}
use Rattle.predictor.specs.StepUp.{raised_of, l_coef_of, aav1_of}
use Rattle.predictor.specs.Filter.{l_work_of, whitened_of, predicted_of}
use Rattle.spectrum.specs.Spectrum.{sav0_of, l_Σp_of, size_of, quotient_of, divided_of, measured_of, l_dm_of, compare_of}
use Rattle.threshold.specs.Threshold.{adapt_of}
use Rattle.hangover.specs.Hangover.{burst_of, run_down_of, started_of, hangover_of}
use Rattle.hangover.specs.Sentence.{bits}
use Rattle.lags.specs.Lags.{lag_ok, ptch_of, smallag_of, counted_of, once_of, lagcount_of}
use Rattle.frames.specs.Frame.{up, Frame, lengths_ok, samples_ok, scale_ok, acf_ok, lags_ok, frame_refusal_of}
use Rattle.state.specs.Valid.{pointer_ok, sacf_within, sacf_ok, sav0_ok, weight_of, rvad_ok, thvad_ok, counts_ok, valid_of, reset_of}
use Rattle.detector.specs.Answer.{Answer}
use Rattle.detector.specs.Refusal.{refusal_of}
use Rattle.detector.specs.Step.{spectral_of, accepted_of, refused_of, tone_read, tone_kept, answer_for}
use Rattle.detector.specs.Run.{answer_to, state_from, accepted_from, flags_of, raws_of}
use Rattle.detector.specs.Sentence.{accepted}

-- L_ACF is x and then zeros, at scale 0, with four lags of 40
abbrev pub frame : ℤ → Frame
frame x = record { direction = up; l_acf = x ∷ pos 0 ∷ pos 0 ∷ pos 0 ∷ pos 0 ∷ pos 0 ∷ pos 0 ∷ pos 0 ∷ pos 0 ∷ []; lags = 40 ∷ 40 ∷ 40 ∷ 40 ∷ []; scalvad = pos 0 }

abbrev pub loud : Frame
loud = frame (pos 100000)

abbrev pub quiet : Frame
quiet = frame (pos 1)

-- with a first lag of 0: refusal 4
abbrev pub bad : Frame
bad = record { direction = up; l_acf = loud.l_acf; lags = 0 ∷ 40 ∷ 40 ∷ 40 ∷ []; scalvad = pos 0 }

-- the accepted ones of these frames have these raw flags and these flags
unfoldable pub Answered : List Frame → List ℕ → List ℕ → Type 0
Answered frames raws flags = (raws_of (accepted frames) ≡ bits raws) × (flags_of (accepted frames) ≡ bits flags)

pub table :
    Answered (loud ∷ loud ∷ loud ∷ quiet ∷ quiet ∷ quiet ∷ quiet ∷ quiet ∷ quiet ∷ []) (1 ∷ 1 ∷ 1 ∷ 0 ∷ 0 ∷ 0 ∷ 0 ∷ 0 ∷ 0 ∷ []) (1 ∷ 1 ∷ 1 ∷ 1 ∷ 1 ∷ 1 ∷ 1 ∷ 1 ∷ 0 ∷ [])
    × Answered (loud ∷ loud ∷ quiet ∷ []) (1 ∷ 1 ∷ 0 ∷ []) (1 ∷ 1 ∷ 0 ∷ [])
    × Answered (loud ∷ loud ∷ loud ∷ quiet ∷ quiet ∷ quiet ∷ loud ∷ quiet ∷ quiet ∷ quiet ∷ []) (1 ∷ 1 ∷ 1 ∷ 0 ∷ 0 ∷ 0 ∷ 1 ∷ 0 ∷ 0 ∷ 0 ∷ []) (1 ∷ 1 ∷ 1 ∷ 1 ∷ 1 ∷ 1 ∷ 1 ∷ 1 ∷ 0 ∷ 0 ∷ [])
    -- a refused frame does not end a burst
    × Answered (loud ∷ loud ∷ bad ∷ loud ∷ quiet ∷ []) (1 ∷ 1 ∷ 1 ∷ 0 ∷ []) (1 ∷ 1 ∷ 1 ∷ 1 ∷ [])
unfolding Answered accepted accepted_from answer_to flags_of raws_of bits ptch_of answer_for samples_ok tone_read tone_kept accepted_of refused_of refusal_of frame_refusal_of lengths_ok scale_ok acf_ok lags_ok valid_of counts_ok pointer_ok sacf_ok sacf_within sav0_ok rvad_ok weight_of thvad_ok lag_ok within reset_of row all total IF◌THEN◌ELSE◌ energy_of acf0_of pvad_of filter_sum_of positive sacf_of l_sum add sub l_add l_mult norm count_leading_zeros shift_left shift_right clamp wrap residue eqZ adapt_of greater_of hangover_of started_of burst_of run_down_of spectral_of average_of inside l_temp_of l_av0_of stored_of l_av1_of next_of lagcount_of once_of counted_of smallag_of
table = ((refl, refl), (refl, refl), (refl, refl), (refl, refl))

-- ---- silence, an instance of what Silence.antt says. 200000, -100000, 100000, 0.. is a sound that does not change
abbrev pub steady : Frame
steady = record { direction = up; l_acf = pos 200000 ∷ negsuc 99999 ∷ pos 100000 ∷ pos 0 ∷ pos 0 ∷ pos 0 ∷ pos 0 ∷ pos 0 ∷ pos 0 ∷ []; lags = 40 ∷ 40 ∷ 40 ∷ 40 ∷ []; scalvad = pos 0 }

abbrev pub silence : Frame
silence = frame (pos 0)

-- five frames of it, and eight of silence
abbrev pub hushed : List Frame
hushed = steady ∷ steady ∷ steady ∷ steady ∷ steady ∷ silence ∷ silence ∷ silence ∷ silence ∷ silence ∷ silence ∷ silence ∷ silence ∷ []

pub silence_table :
    -- what each frame leaves in lastdm. The first four are compared by the filter of nothing, from the averages of a reset; from the fourth of silence
    -- on, the average of 6.2 is 0 and the sav0 of 6.4 are 4095; and the eighth has the filter of nothing again
    (map (λ (r : Answer). r.next.lastdm) (accepted hushed)
    ≡ pos 65536 ∷ pos 65536 ∷ pos 65536 ∷ pos 65536 ∷ pos 1952
    ∷ pos 1952 ∷ pos 1920 ∷ pos 1952 ∷ negsuc 159 ∷ negsuc 63 ∷ negsuc 159 ∷ negsuc 159 ∷ pos 65536 ∷ [])
    -- nothing of the sound is left in the histories
    × ((state_from reset_of hushed).sacf ≡ row 27 (λ i. pos 0))
    × ((state_from reset_of hushed).sav0 ≡ row 36 (λ i. pos 0))
    -- five frames of silence are sent, as the hangover lasts, and then none
    × Answered hushed (1 ∷ 1 ∷ 1 ∷ 1 ∷ 1 ∷ 0 ∷ 0 ∷ 0 ∷ 0 ∷ 0 ∷ 0 ∷ 0 ∷ 0 ∷ []) (1 ∷ 1 ∷ 1 ∷ 1 ∷ 1 ∷ 1 ∷ 1 ∷ 1 ∷ 1 ∷ 1 ∷ 0 ∷ 0 ∷ 0 ∷ [])
    -- what comes next counts as steady, another sound too
    × ((answer_to (state_from reset_of hushed) loud).stat ≡ true)
    -- silence right after a reset, where lastdm is 0, is compared too
    × ((answer_to reset_of silence).next.lastdm ≡ pos 65536)
unfolding state_from Answered accepted accepted_from answer_to flags_of raws_of bits ptch_of answer_for samples_ok tone_read tone_kept accepted_of refused_of refusal_of frame_refusal_of lengths_ok scale_ok acf_ok lags_ok valid_of counts_ok pointer_ok sacf_ok sacf_within sav0_ok rvad_ok weight_of thvad_ok lag_ok within reset_of row all total IF◌THEN◌ELSE◌ energy_of acf0_of pvad_of filter_sum_of positive sacf_of l_sum add sub l_add l_mult norm count_leading_zeros shift_left shift_right clamp wrap residue eqZ adapt_of greater_of hangover_of started_of burst_of run_down_of spectral_of average_of inside l_temp_of l_av0_of stored_of l_av1_of next_of lagcount_of once_of counted_of smallag_of predicted_of whitened_of l_work_of aav1_of l_coef_of raised_of vpar_of reflection_of schur_of outer_from inner_from turned_of coefficient_of leaves_of k_of schur.sacf_of compare_of l_dm_of measured_of divided_of quotient_of size_of l_Σp_of sav0_of mult_r abs over div l_sub
silence_table = (refl, refl, refl, (refl, refl), refl, refl)
