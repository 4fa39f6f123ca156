-- Frames explained, as one table that the checker computes: what `asked` speaks of is there. Assumes nothing.
use Rattle.std.specs.Prelude.{◌≡◌, refl, [], ◌∷◌, ℕ}
use Rattle.std.specs.Int.Count.{count_leading_zeros}
use Rattle.numbers.specs.Sum.{total}
use Rattle.numbers.specs.Clamp.{clamp}
use Rattle.numbers.specs.Floor.{residue}
use Rattle.numbers.specs.Wrap.{wrap}
use Rattle.operations.specs.Operations.{add, sub, l_add, l_mult, shift_left, shift_right, norm}
use Rattle.rows.specs.Choice.{IF◌THEN◌ELSE◌, eqZ, within}
use Rattle.rows.specs.Rows.{row, all, l_sum}
use Rattle.pairs.specs.Pairs.{greater_of}
use Rattle.energy.specs.Energy.{sacf_of, acf0_of, filter_sum_of, positive, pvad_of, energy_of}
use Rattle.averages.specs.Averages.{inside, l_temp_of, l_av0_of, stored_of, l_av1_of, next_of, average_of}
use Rattle.threshold.specs.declared.Way.{Way}
use Rattle.threshold.specs.Threshold.{adapt_of}
use Rattle.threshold.specs.Ways.{way_taken}
use Rattle.hangover.specs.Hangover.{burst_of, run_down_of, started_of, hangover_of}
use Rattle.lags.specs.Lags.{lag_ok, ptch_of, smallag_of, counted_of, once_of, lagcount_of}
use Rattle.frames.specs.Frame.{lengths_ok, samples_ok, scale_ok, acf_ok, lags_ok, frame_refusal_of}
use Rattle.state.specs.Valid.{pointer_ok, sacf_within, sacf_ok, sav0_ok, weight_of, rvad_ok, thvad_ok, counts_ok, valid_of, reset_of}
use Rattle.detector.specs.Refusal.{refusal_of}
use Rattle.detector.specs.Step.{spectral_of, accepted_of, refused_of, tone_read, tone_kept, answer_for}
use Rattle.detector.specs.Worked.{loud, quiet, bad}
use Rattle.why.specs.declared.Flag.{Flag}
use Rattle.why.specs.Why.{Why}
use Rattle.why.specs.declared.Explainer.{Explainer}
use Rattle.why.specs.Explain as explain
use Rattle.why.specs.Asked.{explained_to, explainer_from, told}

abbrev because : ℕ → Flag → Way → Why
because n f w = Why.Because (record { number = n; flag = f; threshold = w })

-- one frame short of the last number
abbrev pub short : Explainer
short = record { state = reset_of; number = 4294967294; latest = 0 }

pub table :
    -- raw 1 1 1 1 0: each of the four is sent for its energy, and the fifth is held by the fourth
    ((told [] loud).why ≡ because 1 Flag.Energy Way.Floor)
    × ((told (loud ∷ loud ∷ loud ∷ loud ∷ []) quiet).why ≡ because 5 (Flag.Hangover 4) Way.Floor)
    -- raw 1 1 0 is too short a burst
    × ((told (loud ∷ loud ∷ []) quiet).why ≡ because 3 Flag.Quiet Way.Floor)
    -- a refused frame has its number only, and those after it are numbered as if it had not been
    × ((told (loud ∷ []) bad).why ≡ Why.Refused 4)
    × ((told (loud ∷ bad ∷ loud ∷ loud ∷ []) quiet).why ≡ because 4 (Flag.Hangover 3) Way.Floor)
    -- the last number; then 7 for a frame that would be accepted, and another its own
    × ((explained_to short loud).why ≡ because 4294967295 Flag.Energy Way.Floor)
    × ((explained_to (explained_to short loud).next loud).why ≡ Why.Refused 7)
    × ((explained_to (explained_to short loud).next bad).why ≡ Why.Refused 4)
unfolding explainer_from explained_to explain.start_of explain.explained_for explain.reasoned_of explain.numbered_of explain.accepted_of explain.denied_of explain.flag_reason explain.latest_after explain.threshold_reason way_taken ptch_of answer_for samples_ok tone_read tone_kept accepted_of refused_of refusal_of frame_refusal_of lengths_ok scale_ok acf_ok lags_ok valid_of counts_ok pointer_ok sacf_ok sacf_within sav0_ok rvad_ok weight_of thvad_ok lag_ok within reset_of row all total IF◌THEN◌ELSE◌ energy_of acf0_of pvad_of filter_sum_of positive sacf_of l_sum add sub l_add l_mult norm count_leading_zeros shift_left shift_right clamp wrap residue eqZ adapt_of greater_of hangover_of started_of burst_of run_down_of spectral_of average_of inside l_temp_of l_av0_of stored_of l_av1_of next_of lagcount_of once_of counted_of smallag_of
table = (refl, refl, refl, refl, refl, refl, refl, refl)
