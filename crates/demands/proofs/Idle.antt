-- Only one answer satisfies a promise that says `≡` of it, and no idle program meets the promise of `step` (specs/Idle.antt). Each theorem is the
-- frame computed by the checker; below it stands a program of its class. Assumes nothing.
use mathlib.Core.Path.{◌≡◌, refl, sym, ap, ap₂, ◌∙◌}
use mathlib.Core.Bool.{Bool, true≢false, false≢true}
use mathlib.Core.List.{List}
use Prim.Native.Nat.{ℕ, zero, suc, ◌^◌, ◌<◌}
use native.Mathlib.Omega.{arith}
use lib.Count.{count_leading_zeros}
use lib.Dec.{eqb}
use lib.IntN.{ℤ, pos}
use lib.Signed.{le_z}
use Rattle.numbers.specs.Sum.{sum, total}
use Rattle.numbers.specs.Clamp.{clamp}
use Rattle.numbers.specs.Floor.{residue}
use Rattle.numbers.specs.Wrap.{wrap}
use Rattle.operations.specs.Operations.{add, sub, l_add, l_mult, shift_left, shift_right, norm}
use Rattle.rows.specs.Choice.{IF◌THEN◌ELSE◌, eqZ, within}
use Rattle.rows.specs.Rows.{row, all, l_sum}
use Rattle.pairs.specs.Pairs.{greater_of}
use Rattle.energy.specs.Energy.{sacf_of, acf0_of, filter_sum_of, positive, pvad_of, energy_of}
use Rattle.energy.specs.Exact.{exact_of}
use Rattle.averages.specs.Averages.{inside, l_temp_of, l_av0_of, stored_of, next_of, average_of}
use Rattle.threshold.specs.Threshold.{PLEV, adapt_of}
use Rattle.hangover.specs.Hangover.{burst_of, run_down_of, started_of, hangover_of}
use Rattle.lags.specs.Lags.{lag_ok, smallag_of, counted_of, once_of, lagcount_of}
use Rattle.frames.specs.Frame.{up, lengths_ok, samples_ok, scale_ok, acf_ok, lags_ok, frame_refusal_of}
use Rattle.state.specs.declared.State.{State}
use Rattle.state.specs.Valid.{pointer_ok, sacf_within, sacf_ok, sav0_ok, weight_of, rvad_ok, thvad_ok, counts_ok, valid_of, reset_of}
use Rattle.detector.specs.Answer.{Answer}
use Rattle.detector.specs.Refusal.{refusal_of}
use Rattle.detector.specs.Step.{spectral_of, accepted_of, refused_of, tone_read, tone_kept, answer_for, step_of}
use Rattle.detector.proofs.Keeps.{Numbers, zeros_fit}
use Rattle.demands.specs.Demands.{Demand3}
use Rattle.demands.specs.Distance.{e_of, w_of, a_of, l_of, p_of, distance_of, energy_units, distance_units, pair_units}
use Rattle.demands.specs.Worked.{acf, forty}
use Rattle.demands.specs.Idle.{OnlyOne, Program, Meets, quiet, loud, Stopped, RefusesAll, Refuser, Says, AlwaysSpeech, AlwaysQuiet, DecidesQuiet, DecidesSpeech, Keeps, HandsBack, KeepsPointer, KeepsLagcount, Repeats, Repeater}
use Rattle.demands.proofs.Meets.{demand_3, reset_meets}

-- ---- only one answer
pub only_one : {A : Type 0} (definition : A) → OnlyOne (λ (r : A). r ≡ definition)
only_one definition r q e f = e ∙ sym f

-- and with what a lent buffer holds afterwards (for more than one buffer, the pair of a pair)
pub only_one_lent : {A B : Type 0} (definition : A) (held : B) → OnlyOne (λ (r : A × B). (r.0 ≡ definition) × (r.1 ≡ held))
only_one_lent definition held r q e f = ap₂ (λ a b. (a, b)) (e.0 ∙ sym f.0) (e.1 ∙ sym f.1)

-- ---- a program that is stopped at a frame does not meet the promise
pub none_meets : {Idle : Program → Type 0} {l_acf : List ℤ} {s : State} → Stopped Idle l_acf s → (f : Program) → Idle f → Meets f → ⊥
none_meets {l_acf = l_acf} {s = s} stopped f idle meets = stopped f idle (meets l_acf forty (pos 0) s)

-- ---- 1. refuses every frame
pub refuser : Refuser
unfolding answer_for samples_ok tone_read tone_kept accepted_of refusal_of frame_refusal_of lengths_ok scale_ok acf_ok lags_ok valid_of counts_ok pointer_ok sacf_ok sacf_within sav0_ok rvad_ok weight_of thvad_ok lag_ok within reset_of row all total IF◌THEN◌ELSE◌
refuser f idle e = idle _ _ _ _ (ap (λ (r : Answer). r.refusal) e)

-- it gives number 1 to every frame
pub refuser_is : RefusesAll (λ l_acf lags scalvad s. refused_of 1 s)
unfolding refused_of
refuser_is l_acf lags scalvad s e = omega (arith, e)

-- ---- 2. always says speech
pub always_speech : AlwaysSpeech
unfolding answer_for samples_ok tone_read tone_kept accepted_of refusal_of frame_refusal_of lengths_ok scale_ok acf_ok lags_ok valid_of counts_ok pointer_ok sacf_ok sacf_within sav0_ok rvad_ok weight_of thvad_ok lag_ok within reset_of row all total IF◌THEN◌ELSE◌ energy_of acf0_of pvad_of filter_sum_of positive sacf_of l_sum add sub l_add l_mult norm count_leading_zeros shift_left shift_right clamp wrap residue eqZ adapt_of greater_of hangover_of started_of burst_of run_down_of
always_speech f idle e = true≢false (sym (idle _ _ _ _ (ap (λ (r : Answer). r.refusal) e)) ∙ ap (λ (r : Answer). r.vad) e)

-- ---- 3. always says quiet
pub always_quiet : AlwaysQuiet
unfolding answer_for samples_ok tone_read tone_kept accepted_of refusal_of frame_refusal_of lengths_ok scale_ok acf_ok lags_ok valid_of counts_ok pointer_ok sacf_ok sacf_within sav0_ok rvad_ok weight_of thvad_ok lag_ok within reset_of row all total IF◌THEN◌ELSE◌ energy_of acf0_of pvad_of filter_sum_of positive sacf_of l_sum add sub l_add l_mult norm count_leading_zeros shift_left shift_right clamp wrap residue eqZ adapt_of greater_of hangover_of started_of burst_of run_down_of
always_quiet f idle e = false≢true (sym (idle _ _ _ _ (ap (λ (r : Answer). r.refusal) e)) ∙ ap (λ (r : Answer). r.vad) e)

-- a program that says only the one, and is right in all else
abbrev saying : Bool → Program
saying t l_acf lags scalvad s =
    let r = step_of l_acf lags scalvad s in record { refusal = r.refusal; vad = t; vvad = r.vvad; stat = r.stat; acf0 = r.acf0; pvad = r.pvad; next = r.next }

pub always_is : (t : Bool) → Says t (saying t)
always_is t l_acf lags scalvad s e = refl

-- ---- the raw decision, from demand 3: 12 falls short of 800000 by more than the distance, and 1200000 beats it by more
pub decides_quiet : DecidesQuiet
unfolding l_of energy_units distance_units pair_units distance_of a_of p_of e_of w_of weight_of exact_of sum total reset_of filter_sum_of sacf_of l_sum l_add l_mult norm count_leading_zeros shift_left shift_right clamp wrap residue
decides_quiet r t d = d.quiet (record { lt = tt }) (rw t (record { le = tt }))

pub decides_speech : DecidesSpeech
unfolding l_of energy_units distance_units pair_units distance_of a_of p_of e_of w_of weight_of exact_of sum total reset_of filter_sum_of sacf_of l_sum l_add l_mult norm count_leading_zeros shift_left shift_right clamp wrap residue
decides_speech r t d = d.speech (record { lt = tt }) (rw t (record { lt = tt }))

-- the step's own answers are such answers
pub numbers : (n : ℕ) → n < 2 ^ 31 → Numbers (acf (pos n) (pos 0))
numbers n h zero = record { sfits = h }
numbers n h (suc k) = zeros_fit 8 k

pub decides_quiet_is : ((step_of quiet forty (pos 0) reset_of).next.thvad ≡ PLEV) × Demand3 quiet (pos 0) reset_of (step_of quiet forty (pos 0) reset_of)
unfolding answer_for samples_ok tone_read tone_kept accepted_of refusal_of frame_refusal_of lengths_ok scale_ok acf_ok lags_ok valid_of counts_ok pointer_ok sacf_ok sacf_within sav0_ok rvad_ok weight_of thvad_ok lag_ok within reset_of row all total IF◌THEN◌ELSE◌ energy_of acf0_of sacf_of add sub norm count_leading_zeros shift_left shift_right clamp wrap residue eqZ adapt_of greater_of
decides_quiet_is = (refl, demand_3 up quiet forty (pos 0) reset_of (numbers 1 (omega arith)) reset_meets.1 refl (record { le = tt }))

pub decides_speech_is : ((step_of loud forty (pos 0) reset_of).next.thvad ≡ PLEV) × Demand3 loud (pos 0) reset_of (step_of loud forty (pos 0) reset_of)
unfolding answer_for samples_ok tone_read tone_kept accepted_of refusal_of frame_refusal_of lengths_ok scale_ok acf_ok lags_ok valid_of counts_ok pointer_ok sacf_ok sacf_within sav0_ok rvad_ok weight_of thvad_ok lag_ok within reset_of row all total IF◌THEN◌ELSE◌ energy_of acf0_of sacf_of add sub norm count_leading_zeros shift_left shift_right clamp wrap residue eqZ adapt_of greater_of
decides_speech_is = (refl, demand_3 up loud forty (pos 0) reset_of (numbers 100000 (omega arith)) reset_meets.1 refl (record { le = tt }))

-- ---- 4. hands back the state it got
pub keeps_pointer : KeepsPointer
unfolding answer_for samples_ok tone_read tone_kept accepted_of refusal_of frame_refusal_of lengths_ok scale_ok acf_ok lags_ok valid_of counts_ok pointer_ok sacf_ok sacf_within sav0_ok rvad_ok weight_of thvad_ok lag_ok within reset_of row all total IF◌THEN◌ELSE◌ spectral_of average_of inside next_of eqZ
keeps_pointer f idle e = false≢true (ap (λ (n : ℕ). eqb n 0) (sym (ap (λ (r : Answer). r.next.ptsacf) e) ∙ idle _ _ _ _))

pub keeps_lagcount : KeepsLagcount
unfolding answer_for samples_ok tone_read tone_kept accepted_of refusal_of frame_refusal_of lengths_ok scale_ok acf_ok lags_ok valid_of counts_ok pointer_ok sacf_ok sacf_within sav0_ok rvad_ok weight_of thvad_ok lag_ok within reset_of row all total IF◌THEN◌ELSE◌ lagcount_of once_of counted_of smallag_of
keeps_lagcount f idle e = true≢false (ap (le_z (pos 1)) (sym (ap (λ (r : Answer). r.next.oldlagcount) e) ∙ idle _ _ _ _))

pub hands_back : HandsBack
hands_back f idle e = keeps_lagcount f (λ l_acf lags scalvad s. ap (λ (t : State). t.oldlagcount) (idle l_acf lags scalvad s)) e

-- it is right in all else; and what keeps the whole state keeps its parts, so that it is one of the two above as well
pub hands_back_is : Keeps (λ s. s) (λ l_acf lags scalvad s. let r = step_of l_acf lags scalvad s in record { refusal = r.refusal; vad = r.vad; vvad = r.vvad; stat = r.stat; acf0 = r.acf0; pvad = r.pvad; next = s })
hands_back_is l_acf lags scalvad s = refl

-- ---- 5. repeats its first answer
pub repeater : Repeater
unfolding answer_for samples_ok tone_read tone_kept accepted_of refusal_of frame_refusal_of lengths_ok scale_ok acf_ok lags_ok valid_of counts_ok pointer_ok sacf_ok sacf_within sav0_ok rvad_ok weight_of thvad_ok lag_ok within reset_of row all total IF◌THEN◌ELSE◌ energy_of acf0_of pvad_of filter_sum_of positive sacf_of l_sum add sub l_add l_mult norm count_leading_zeros shift_left shift_right clamp wrap residue eqZ adapt_of greater_of hangover_of started_of burst_of run_down_of spectral_of average_of inside next_of stored_of l_temp_of l_av0_of lagcount_of once_of counted_of smallag_of
repeater f idle e =
    let again = ap (λ (s : State). f quiet forty (pos 0) s) (ap (λ (r : Answer). r.next) (sym idle.first)) ∙ idle.again quiet forty (pos 0) ∙ idle.first in
    true≢false (ap (λ (r : Answer). r.vad) (sym again ∙ e))

-- it answers as promised while burstcount is 0, so from reset every frame, and then gives the answer to 100000, 0.. again
abbrev repeating : Program
repeating l_acf lags scalvad s = IF eqZ s.burstcount (pos 0) THEN step_of l_acf lags scalvad s ELSE step_of loud forty (pos 0) reset_of

pub repeater_is : Repeats repeating
unfolding answer_for samples_ok tone_read tone_kept accepted_of refusal_of frame_refusal_of lengths_ok scale_ok acf_ok lags_ok valid_of counts_ok pointer_ok sacf_ok sacf_within sav0_ok rvad_ok weight_of thvad_ok lag_ok within reset_of row all total IF◌THEN◌ELSE◌ energy_of acf0_of pvad_of filter_sum_of positive sacf_of l_sum add sub l_add l_mult norm count_leading_zeros shift_left shift_right clamp wrap residue eqZ adapt_of greater_of hangover_of started_of burst_of run_down_of
repeater_is = record { first = refl; again = λ l_acf lags scalvad. refl }

pub repeater_first : (l_acf : List ℤ) (lags : List ℕ) (scalvad : ℤ) → repeating l_acf lags scalvad reset_of ≡ step_of l_acf lags scalvad reset_of
unfolding reset_of IF◌THEN◌ELSE◌ eqZ
repeater_first l_acf lags scalvad = refl
