-- Orders on a bank, computed: what channel 0 is answered after two histories that differ in all but what it has heard, and after a third in which it has
-- heard something else; the ends of refusal 9, and that it comes first; and a bank that was not reset. So what Asked.antt says has instances.
-- Assumes nothing.
use Rattle.std.specs.Prelude.{◌≡◌, refl, Bool, true, false, List, [], ◌∷◌, ℕ}
use Rattle.std.specs.Int.Count.{count_leading_zeros}
use Rattle.numbers.specs.Sum.{total}
use Rattle.numbers.specs.Clamp.{clamp}
use Rattle.numbers.specs.Floor.{residue}
use Rattle.numbers.specs.Wrap.{wrap}
use Rattle.operations.specs.Operations.{add, sub, l_add, l_mult, shift_left, shift_right, norm}
use Rattle.rows.specs.Choice.{IF◌THEN◌ELSE◌, eqZ, within}
use Rattle.rows.specs.Rows.{row, all, l_sum}
use Rattle.pairs.specs.Pairs.{greater_of}
use Rattle.energy.specs.Energy.{sacf_of, acf0_of, filter_sum_of, positive, pvad_of, energy_of}
use Rattle.averages.specs.Averages.{inside, l_temp_of, l_av0_of, stored_of, l_av1_of, next_of, average_of}
use Rattle.threshold.specs.Threshold.{adapt_of}
use Rattle.hangover.specs.Hangover.{burst_of, run_down_of, started_of, hangover_of}
use Rattle.lags.specs.Lags.{lag_ok, ptch_of, smallag_of, counted_of, once_of, lagcount_of}
use Rattle.frames.specs.Frame.{lengths_ok, samples_ok, scale_ok, acf_ok, lags_ok, frame_refusal_of}
use Rattle.state.specs.Valid.{pointer_ok, sacf_within, sacf_ok, sav0_ok, weight_of, rvad_ok, thvad_ok, counts_ok, valid_of, reset_of}
use Rattle.detector.specs.Refusal.{refusal_of}
use Rattle.detector.specs.Step.{spectral_of, accepted_of, refused_of, tone_read, tone_kept, answer_for}
use Rattle.detector.specs.Run.{answer_to}
use Rattle.state.specs.declared.State.{State}
use Rattle.detector.specs.Worked.{loud, quiet, bad}
use Rattle.card.specs.Card.{Order, call, reset, channel_of, in_bank, state_at, called_of, number_only, next_for, said_for, answer_of, bank_after}
use Rattle.card.specs.History.{all_reset, bank_from, heard_from, heard}

-- channel 0 hears three loud frames in both; what the others hear differs, and the second has besides a call that is refused, one before a reset, and
-- one on a channel that is not there
abbrev pub one_history : List Order
one_history = call 0 loud ∷ call 1 quiet ∷ call 0 loud ∷ call 2 loud ∷ call 0 loud ∷ []

abbrev pub another : List Order
another = call 0 quiet ∷ reset 0 ∷ call 0 loud ∷ call 1 loud ∷ call 0 bad ∷ reset 2 ∷ call 1 loud ∷ call 0 loud ∷ call 3 loud ∷ call 0 loud ∷ []

-- here it hears one, after a reset
abbrev pub a_third : List Order
a_third = call 0 loud ∷ call 0 loud ∷ reset 0 ∷ call 0 loud ∷ []

-- what an order is answered: refusal number, vad, vvad
unfoldable pub Answers : List State → Order → ℕ → Bool → Bool → Type 0
Answers bank o number vad vvad = ((answer_of bank o).refusal ≡ number) × ((answer_of bank o).vad ≡ vad) × ((answer_of bank o).vvad ≡ vvad)

pub histories :
    (heard (all_reset 3) 0 one_history ≡ loud ∷ loud ∷ loud ∷ []) × (heard (all_reset 3) 0 another ≡ loud ∷ loud ∷ loud ∷ []) × (heard (all_reset 3) 0 a_third ≡ loud ∷ [])
    × (heard (all_reset 3) 1 one_history ≡ quiet ∷ []) × (heard (all_reset 3) 1 another ≡ loud ∷ loud ∷ [])
    -- the hangover holds after three, and not after one
    × Answers (bank_from (all_reset 3) one_history) (call 0 quiet) 0 true false
    × Answers (bank_from (all_reset 3) another) (call 0 quiet) 0 true false
    × Answers (bank_from (all_reset 3) a_third) (call 0 quiet) 0 false false
unfolding Answers answer_of bank_after bank_from all_reset channel_of in_bank state_at called_of number_only next_for said_for heard heard_from answer_to ptch_of answer_for samples_ok tone_read tone_kept accepted_of refused_of refusal_of frame_refusal_of lengths_ok scale_ok acf_ok lags_ok valid_of counts_ok pointer_ok sacf_ok sacf_within sav0_ok rvad_ok weight_of thvad_ok lag_ok within reset_of row all total IF◌THEN◌ELSE◌ energy_of acf0_of pvad_of filter_sum_of positive sacf_of l_sum add sub l_add l_mult norm count_leading_zeros shift_left shift_right clamp wrap residue eqZ adapt_of greater_of hangover_of started_of burst_of run_down_of spectral_of average_of inside l_temp_of l_av0_of stored_of l_av1_of next_of lagcount_of once_of counted_of smallag_of
histories = (refl, refl, refl, refl, refl, (refl, refl, refl), (refl, refl, refl), (refl, refl, refl))

-- a state that is not valid: its last lag is 0
abbrev pub broken : State
broken =
    record {
      rvad = reset_of.rvad;
      normrvad = reset_of.normrvad;
      sacf = reset_of.sacf;
      ptsacf = reset_of.ptsacf;
      sav0 = reset_of.sav0;
      ptsav0 = reset_of.ptsav0;
      lastdm = reset_of.lastdm;
      thvad = reset_of.thvad;
      adaptcount = reset_of.adaptcount;
      burstcount = reset_of.burstcount;
      hangcount = reset_of.hangcount;
      oldlagcount = reset_of.oldlagcount;
      veryoldlagcount = reset_of.veryoldlagcount;
      oldlag = 0;
      tone = reset_of.tone;
    }

pub refusals :
    -- a bank has 1 to 64 channels, and they are counted from 0; 9 comes before the 4 of this frame
    Answers [] (call 0 bad) 9 false false
    × Answers (all_reset 65) (call 0 bad) 9 false false
    × Answers (all_reset 64) (call 64 bad) 9 false false
    × Answers (all_reset 64) (call 63 bad) 4 false false
    × Answers (all_reset 64) (call 63 loud) 0 true true
    × Answers (all_reset 1) (call 0 loud) 0 true true
    × Answers (all_reset 1) (reset 1) 9 false false
    × Answers (all_reset 1) (reset 0) 0 false false
    -- a bank that was not reset: 5 on the channel whose state is not valid, until it is reset, and not on its neighbour
    × Answers (broken ∷ reset_of ∷ []) (call 0 loud) 5 false false
    × Answers (broken ∷ reset_of ∷ []) (call 1 loud) 0 true true
    × Answers (bank_after (broken ∷ reset_of ∷ []) (reset 0)) (call 0 loud) 0 true true
unfolding Answers answer_of bank_after bank_from all_reset channel_of in_bank state_at called_of number_only next_for said_for heard heard_from answer_to ptch_of answer_for samples_ok tone_read tone_kept accepted_of refused_of refusal_of frame_refusal_of lengths_ok scale_ok acf_ok lags_ok valid_of counts_ok pointer_ok sacf_ok sacf_within sav0_ok rvad_ok weight_of thvad_ok lag_ok within reset_of row all total IF◌THEN◌ELSE◌ energy_of acf0_of pvad_of filter_sum_of positive sacf_of l_sum add sub l_add l_mult norm count_leading_zeros shift_left shift_right clamp wrap residue eqZ adapt_of greater_of hangover_of started_of burst_of run_down_of spectral_of average_of inside l_temp_of l_av0_of stored_of l_av1_of next_of lagcount_of once_of counted_of smallag_of
refusals =
    ((refl, refl, refl), (refl, refl, refl), (refl, refl, refl), (refl, refl, refl), (refl, refl, refl), (refl, refl, refl), (refl, refl, refl), (refl, refl, refl), (refl, refl, refl), (refl, refl, refl), (refl, refl, refl))
