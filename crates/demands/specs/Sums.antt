-- Document 01, 'Sums done by hand': the starred sums, in the paper's order, as one table that the checker computes; and beside it the ends of the
-- scale and of the lags, as another. A row's left side is what the definitions make of it, its right side what the paper says. The shifts and the
-- lag pairs are the rows of the crates below, taken over. Assumes nothing.
use Rattle.std.specs.Prelude.{refl, Bool, List, [], ◌∷◌, ◌++◌, map, ℕ, eqb, ℤ, pos, neg_ℤ, replicate, take}
use Rattle.std.specs.Int.Count.{count_leading_zeros}
use Rattle.numbers.specs.Sum.{total}
use Rattle.numbers.specs.Clamp.{clamp}
use Rattle.numbers.specs.Floor.{residue}
use Rattle.numbers.specs.Wrap.{wrap}
use Rattle.operations.specs.Operations.{add, sub, l_add, l_mult, shift_left, shift_right, norm}
use Rattle.operations.specs.Worked as operations
use Rattle.operations.specs.Worked.{Row, Holds, ◌is◌}
use Rattle.rows.specs.Choice.{IF◌THEN◌ELSE◌, eqZ, within}
use Rattle.rows.specs.Rows.{row, all, l_sum}
use Rattle.pairs.specs.declared.Pair.{Pair}
use Rattle.pairs.specs.Pairs.{pair}
use Rattle.energy.specs.Energy.{sacf_of, acf0_of, filter_sum_of, positive, pvad_of, energy_of}
use Rattle.hangover.specs.Hangover.{burst_of, run_down_of, started_of, hangover_of}
use Rattle.lags.specs.Lags.{lag_ok, smallag_of, counted_of}
use Rattle.lags.specs.Worked as lags
use Rattle.frames.specs.Frame.{lengths_ok, samples_ok, scale_ok, acf_ok, lags_ok, frame_refusal_of}
use Rattle.state.specs.Valid.{pointer_ok, sacf_within, sacf_ok, sav0_ok, weight_of, rvad_ok, thvad_ok, counts_ok, valid_of, reset_of}
use Rattle.detector.specs.Refusal.{refusal_of}
use Rattle.detector.specs.Step.{accepted_of, refused_of, tone_read, tone_kept, answer_for, step_of}
use Rattle.demands.specs.Distance.{l_of, a_of, p_of}
use Rattle.demands.specs.Worked.{acf, answer}

infix 4 ◌are◌
abbrev ◌are◌ : List ℤ → List ℤ → Row
xs are ys = record { computed = xs; stated = ys }

infix 4 ◌is_pair◌
abbrev ◌is_pair◌ : Pair → Pair → Row
p is_pair q = p.e ∷ p.m ∷ [] are q.e ∷ q.m ∷ []

-- a flag as the number 1 or 0
unfoldable pub bit : Bool → ℤ
bit t = IF t THEN pos 1 ELSE pos 0

-- a lag beside the one before it: 1 if it counts
unfoldable pub beside : lags.Beside → Row
beside p = bit (counted_of p.oldlag p.lag) is bit p.counted

-- 6.8 frame by frame: the flags vad for a run of raw flags
unfoldable pub hung_of : ℤ → ℤ → List ℕ → List ℤ
hung_of burstcount hangcount [] = []
hung_of burstcount hangcount (vvad ∷ more) =
    let h = hangover_of (eqb vvad 1) burstcount hangcount in bit h.vad ∷ hung_of h.burstcount h.hangcount more

-- from reset
infix 4 ◌gives◌
abbrev ◌gives◌ : List ℕ → List ℕ → Row
raw gives vad = hung_of reset_of.burstcount reset_of.hangcount raw are map pos vad

-- ---- the starred sums
unfoldable pub starred : List Row
starred =
    -- "Reset, L_ACF = 1, 0.., scale 0: a 30, acf0 (2, 16384), p 5, pvad (4, 24576)"
    (pos (a_of (acf (pos 1) (pos 0))) is pos 30)
    ∷ ((answer (pos 1) (pos 0)).acf0 is_pair pair (pos 2) (pos 16384))
    ∷ (pos (p_of (acf (pos 1) (pos 0)) reset_of.rvad) is pos 5)
    ∷ ((answer (pos 1) (pos 0)).pvad is_pair pair (pos 4) (pos 24576))
    -- "4, -4, 0..: pvad (7, 28672)"
    ∷ ((answer (pos 4) (neg_ℤ (pos 4))).pvad is_pair pair (pos 7) (pos 28672))
    -- "4, 4, 0..: L is -16777216, so pvad (-19, 16384)"
    ∷ (l_of (acf (pos 4) (pos 4)) reset_of.rvad is neg_ℤ (pos 16777216))
    ∷ ((answer (pos 4) (pos 4)).pvad is_pair pair (neg_ℤ (pos 19)) (pos 16384))
    -- "2147483647 then -2147483648: refusal 3"
    ∷ (pos (answer (pos 2147483647) (neg_ℤ (pos 2147483648))).refusal is pos 3)
    -- "-4 << 30 is 0; -3 << 30 is 1073741824": the first two rows there
    ∷ take 2 operations.stated
    -- "Lag pairs counted: 40/40, 41/40, 79/40, 119/60; not: 42/40, 78/40, 120/61"
    ++ map beside lags.stated
    -- "From reset, raw 1 1 1 0 0 0 0 0 0 gives 1 eight times, then 0. Raw 1 1 0 gives 1 1 0. Raw 1 1 1 0 0 0 1 0 0 0 gives 1 eight times, then 0 0."
    ++ (1 ∷ 1 ∷ 1 ∷ 0 ∷ 0 ∷ 0 ∷ 0 ∷ 0 ∷ 0 ∷ [] gives replicate 8 1 ++ (0 ∷ []))
    ∷ (1 ∷ 1 ∷ 0 ∷ [] gives 1 ∷ 1 ∷ 0 ∷ [])
    ∷ (1 ∷ 1 ∷ 1 ∷ 0 ∷ 0 ∷ 0 ∷ 1 ∷ 0 ∷ 0 ∷ 0 ∷ [] gives replicate 8 1 ++ (0 ∷ 0 ∷ []))
    ∷ []

pub table : Holds starred
unfolding starred bit beside hung_of operations.stated lags.stated a_of p_of l_of answer_for samples_ok tone_read tone_kept accepted_of refused_of refusal_of frame_refusal_of lengths_ok scale_ok acf_ok lags_ok valid_of counts_ok pointer_ok sacf_ok sacf_within sav0_ok rvad_ok weight_of thvad_ok lag_ok within reset_of row all total IF◌THEN◌ELSE◌ energy_of acf0_of pvad_of filter_sum_of positive sacf_of l_sum add sub l_add l_mult norm count_leading_zeros shift_left shift_right clamp wrap residue eqZ counted_of smallag_of hangover_of started_of burst_of run_down_of
table = refl

-- ---- "Scale 4 and lags 40, 120 accepted; 5, 39, 121 refused": the refusal number of 1, 0.. from reset with the scale, and the lag as its last
abbrev number : ℤ → ℕ → ℤ
number scalvad lag = pos (step_of (acf (pos 1) (pos 0)) (40 ∷ 40 ∷ 40 ∷ lag ∷ []) scalvad reset_of).refusal

unfoldable pub ends : List Row
ends =
    (number (pos 4) 40 is pos 0)
    ∷ (number (pos 4) 120 is pos 0)
    ∷ (number (pos 5) 40 is pos 2)
    ∷ (number (pos 0) 39 is pos 4)
    ∷ (number (pos 0) 121 is pos 4)
    ∷ []

pub ends_table : Holds ends
unfolding ends answer_for samples_ok tone_read tone_kept accepted_of refused_of refusal_of frame_refusal_of lengths_ok scale_ok acf_ok lags_ok valid_of counts_ok pointer_ok sacf_ok sacf_within sav0_ok rvad_ok weight_of thvad_ok lag_ok within reset_of row all total IF◌THEN◌ELSE◌
ends_table = refl
