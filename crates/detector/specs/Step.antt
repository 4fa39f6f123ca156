-- One frame: clauses 6.1 to 6.9 in their order, 6.10 on the downlink, and the answer for every input. Assumes nothing.
use Rattle.std.specs.Prelude.{Bool, false, List, ℕ, eqb, ℤ, pos, get_or}
use Rattle.rows.specs.Choice.{IF◌THEN◌ELSE◌}
use Rattle.pairs.specs.Pairs.{pair, greater_of}
use Rattle.energy.specs.Energy.{energy_of}
use Rattle.energy.specs.declared.Energies.{Energies}
use Rattle.averages.specs.Averages.{average_of}
use Rattle.predictor.specs.Filter.{predicted_of}
use Rattle.spectrum.specs.Spectrum.{compare_of}
use Rattle.lags.specs.Lags.{ptch_of, lagcount_of}
use Rattle.threshold.specs.Threshold.{adapt_of}
use Rattle.threshold.specs.declared.Kept.{Kept}
use Rattle.hangover.specs.Hangover.{hangover_of}
use Rattle.tone.specs.Tone.{tone_of}
use Rattle.frames.specs.Frame.{Direction, up, down, samples_ok}
use Rattle.state.specs.declared.State.{State}
use Rattle.detector.specs.declared.Middle.{Middle}
use Rattle.detector.specs.Answer.{Answer}
use Rattle.detector.specs.Refusal.{refusal_of}

-- 6.2, 6.3 and 6.4, which run for every accepted frame: the exit of 6.1 at an all-zero frame goes on with them
unfoldable pub spectral_of : List ℤ → ℤ → State → Middle
spectral_of l_acf scalvad s =
    let a = average_of l_acf scalvad s.sacf s.ptsacf s.sav0 s.ptsav0 in
    let f = predicted_of a.av1 in
    let d = compare_of a.av0 f.rav1 f.normrav1 s.lastdm in
    record { sacf = a.sacf; ptsacf = a.ptsacf; sav0 = a.sav0; ptsav0 = a.ptsav0; lastdm = d.dm; stat = d.stat; rav1 = f.rav1; normrav1 = f.normrav1 }

-- 6.5 to 6.9 and the answer, from what 6.1 and 6.2 to 6.4 have found. `tone` is the flag that 6.6 reads, and `found` the one that is kept for the next
-- frame
abbrev pub answered_of : Bool → Bool → List ℕ → State → Energies → Middle → Answer
answered_of tone found lags s e m =
    let ptch = ptch_of s.oldlagcount s.veryoldlagcount in  -- 6.5, from the frames before
    let kept : Kept = record { thvad = s.thvad; adaptcount = s.adaptcount; rvad = s.rvad; normrvad = s.normrvad } in
    let k = adapt_of e.acf0 e.pvad ptch m.stat tone m.rav1 m.normrav1 kept in  -- 6.6
    let vvad = greater_of e.pvad k.thvad in  -- 6.7
    let h = hangover_of vvad s.burstcount s.hangcount in  -- 6.8
    record {
      refusal = 0;
      vad = h.vad;
      vvad = vvad;
      stat = m.stat;
      acf0 = e.acf0;
      pvad = e.pvad;
      next =
          record {
            rvad = k.rvad;
            normrvad = k.normrvad;
            sacf = m.sacf;
            ptsacf = m.ptsacf;
            sav0 = m.sav0;
            ptsav0 = m.ptsav0;
            lastdm = m.lastdm;
            thvad = k.thvad;
            adaptcount = k.adaptcount;
            burstcount = h.burstcount;
            hangcount = h.hangcount;
            oldlagcount = pos (lagcount_of s.oldlag lags);  -- 6.9
            veryoldlagcount = s.oldlagcount;
            oldlag = get_or lags 3 0;
            tone = found;
          };
    }

-- a frame that is accepted
unfoldable pub accepted_of : Bool → Bool → List ℤ → List ℕ → ℤ → State → Answer
accepted_of tone found l_acf lags scalvad s =
    let e = energy_of l_acf scalvad s.rvad s.normrvad in  -- 6.1
    let m = spectral_of l_acf scalvad s in  -- 6.2 to 6.4
    answered_of tone found lags s e m

-- a frame that is not: flags 0 and stat false, energies 0 in both parts, the state as given
unfoldable pub refused_of : ℕ → State → Answer
refused_of number s = record { refusal = number; vad = false; vvad = false; stat = false; acf0 = pair (pos 0) (pos 0); pvad = pair (pos 0) (pos 0); next = s }

-- ---- the two directions
-- the flag that 6.6 reads: on the uplink none, and on the downlink the one that was found in the frame before
unfoldable pub tone_read : Direction → State → Bool
tone_read up s = false
tone_read (down sof) s = s.tone

-- the flag that is kept for the next frame: on the downlink what 6.10 finds in this frame's samples
unfoldable pub tone_kept : Direction → Bool
tone_kept up = false
tone_kept (down sof) = tone_of sof

-- the answer for every input
unfoldable pub answer_for : Direction → List ℤ → List ℕ → ℤ → State → Answer
answer_for d l_acf lags scalvad s =
    let number = refusal_of (samples_ok d) l_acf lags scalvad s in
    IF eqb number 0 THEN accepted_of (tone_read d s) (tone_kept d) l_acf lags scalvad s ELSE refused_of number s

abbrev pub step_of : List ℤ → List ℕ → ℤ → State → Answer
step_of l_acf lags scalvad s = answer_for up l_acf lags scalvad s

abbrev pub downlink_of : List ℤ → List ℕ → ℤ → List ℤ → State → Answer
downlink_of l_acf lags scalvad sof s = answer_for (down sof) l_acf lags scalvad s
