-- An all-zero frame: L_ACF[0] is 0, and so are the eight others, since none of an accepted frame is larger. The exit of 6.1 goes on with 6.2: the frame
-- enters the histories, and 6.2 to 6.4 run as for any other. Its own flags come from the hangover alone, and nothing is learned in it.
-- `silent_frame`, `no_spectrum`, `silence_forgets` and `steady_next` in proofs/Silence.antt prove what stands here. Assumes nothing.
use Rattle.std.specs.Prelude.{◌≡◌, true, false, List, [], ◌∷◌, ℕ, ℤ, pos, length}
use Rattle.std.specs.Int.Signed.{le_z}
use Rattle.numbers.specs.Sum.{at}
use Rattle.rows.specs.Rows.{row}
use Rattle.pairs.specs.Pairs.{silent}
use Rattle.energy.specs.Energy.{energy_of}
use Rattle.averages.specs.Averages.{LAST_SACF, LAST_SAV0, l_av0_of, stored_of, l_av1_of, next_of}
use Rattle.predictor.specs.Schur.{vpar_of}
use Rattle.predictor.specs.Filter.{predicted_of}
use Rattle.predictor.specs.declared.Filter.{Filter}
use Rattle.spectrum.specs.Spectrum.{sav0_of, compare_of}
use Rattle.spectrum.specs.declared.Compared.{Compared}
use Rattle.threshold.specs.Threshold.{PLEV}
use Rattle.frames.specs.Frame.{Direction, Frame, samples_ok}
use Rattle.state.specs.declared.State.{State}
use Rattle.state.specs.Valid.{Shaped}
use Rattle.detector.specs.declared.Middle.{Middle}
use Rattle.detector.specs.Answer.{Answer}
use Rattle.detector.specs.Refusal.{refusal_of}
use Rattle.detector.specs.Step.{answered_of, tone_read, tone_kept, answer_for}
use Rattle.detector.specs.Run.{answer_to, state_from}

-- nine numbers that are all 0
abbrev pub zeros : List ℤ
zeros = row 9 (λ i. pos 0)

module _ (d : Direction) (l_acf : List ℤ) (lags : List ℕ) (scalvad : ℤ) (s : State) where
  abbrev answer : Answer
  answer = answer_for d l_acf lags scalvad s

  -- 6.2: the sum of the three stored frames, to which this one adds nothing; 6.3: the filter of the oldest average; 6.4: the one compared with the other
  abbrev av0 : List ℤ
  av0 = row 9 (l_av0_of s.sacf zeros)

  abbrev filter : Filter
  filter = predicted_of (row 9 (l_av1_of s.sav0 s.ptsav0))

  abbrev compared : Compared
  compared = compare_of av0 filter.rav1 filter.normrav1 s.lastdm

  -- the answer with anything in the place of what 6.2 to 6.4 find: where `spectral_of` stands in `accepted_of`
  abbrev answer_by : Middle → Answer
  answer_by = answered_of (tone_read d s) (tone_kept d) lags s (energy_of l_acf scalvad s.rvad s.normrvad)

  pub record SilentFrame : Type 0 where
    -- 6.1
    pub acf0 : answer.acf0 ≡ silent
    pub pvad : answer.pvad ≡ silent
    -- 6.2: nine zeros take the place of the oldest of the three frames, the sum that of the oldest average, and both pointers go on
    pub sacf : answer.next.sacf ≡ stored_of s.sacf s.ptsacf zeros
    pub sav0 : answer.next.sav0 ≡ stored_of s.sav0 s.ptsav0 av0
    pub ptsacf : answer.next.ptsacf ≡ next_of LAST_SACF s.ptsacf
    pub ptsav0 : answer.next.ptsav0 ≡ next_of LAST_SAV0 s.ptsav0
    -- 6.4
    pub lastdm : answer.next.lastdm ≡ compared.dm
    pub stat : answer.stat ≡ compared.stat
    -- 6.6 stops at the level: the threshold is the fixed one, and what is counted and learned stays
    pub thvad : answer.next.thvad ≡ PLEV
    pub adaptcount : answer.next.adaptcount ≡ s.adaptcount
    pub rvad : answer.next.rvad ≡ s.rvad
    pub normrvad : answer.next.normrvad ≡ s.normrvad
    -- 6.7 and 6.8: no raw speech, and sent exactly if the hangover is not over
    pub vvad : answer.vvad ≡ false
    pub vad : answer.vad ≡ le_z (pos 0) s.hangcount
    -- these flags do not depend on what 6.2 to 6.4 find: they are the same with anything in its place, and so by a reading that leaves silence out
    pub any_reading : (m : Middle) → (answer.vvad ≡ (answer_by m).vvad) × (answer.vad ≡ (answer_by m).vad)

-- every all-zero frame that is accepted, in either direction: its state is valid then, and may be any that is
abbrev pub SilentFrames : Type 0
SilentFrames = (d : Direction) (l_acf : List ℤ) (lags : List ℕ) (scalvad : ℤ) (s : State) → refusal_of (samples_ok d) l_acf lags scalvad s ≡ 0 → at l_acf 0 ≡ pos 0 → SilentFrame d l_acf lags scalvad s

-- ---- an average that begins with 0, as that of four all-zero frames does, and the filter of nothing, which is made of it
abbrev pub nothing : Filter
nothing = record { rav1 = pos 16384 ∷ pos 0 ∷ pos 0 ∷ pos 0 ∷ pos 0 ∷ pos 0 ∷ pos 0 ∷ pos 0 ∷ pos 0 ∷ []; normrav1 = pos 9 }

pub record NoSpectrum (l_av : List ℤ) : Type 0 where
  -- 6.3.1 finds no coefficient, and the filter of 6.3.3 takes nothing away
  pub vpar : vpar_of l_av ≡ zeros
  pub filter : predicted_of l_av ≡ nothing
  -- 6.4 compares nine numbers that are all alike
  pub sav0 : (i : ℕ) → sav0_of l_av i ≡ pos 4095

-- every such average has no spectrum
abbrev pub NoSpectrums : Type 0
NoSpectrums = (l_av : List ℤ) → at l_av 0 ≡ pos 0 → NoSpectrum l_av

-- ---- silence that lasts: frames one after the other, each accepted and all zero
unfoldable pub Silence : State → List Frame → Type 0
Silence s [] = Unit
Silence s (f ∷ fs) = ((answer_to s f).refusal ≡ 0) × (at f.l_acf 0 ≡ pos 0) × Silence (answer_to s f).next fs

-- what 6.2 to 6.4 keep of the frames before, where nothing of a sound is left in it; 65536 is what 6.4 measures by the filter of nothing. (The pointers go
-- on as ever)
pub record Forgotten (s : State) : Type 0 where
  pub sacf : s.sacf ≡ row 27 (λ i. pos 0)
  pub sav0 : s.sav0 ≡ row 36 (λ i. pos 0)
  pub lastdm : s.lastdm ≡ pos 65536

-- eight frames are enough, whatever was before; of more, the last eight
abbrev pub EightForget : Type 0
EightForget = (s : State) (fs : List Frame) → Shaped s → length fs ≡ 8 → Silence s fs → Forgotten (state_from s fs)

-- and the next accepted frame counts as steady, whatever it is, since it too is compared by the filter of nothing
abbrev pub SteadyNext : Type 0
SteadyNext = (s : State) (f : Frame) → Forgotten s → (answer_to s f).refusal ≡ 0 → ((answer_to s f).stat ≡ true) × ((answer_to s f).next.lastdm ≡ pos 65536)
