-- What the tone flag does in the two directions: it is found in a downlink frame, and acts in 6.6 of the next one, where that goes down too. What stands
-- here is proved in proofs/Flags.antt: `toneless_run`, `not_read`, `samples_later` and `nothing_learned`. Assumes nothing.
use Rattle.std.specs.Prelude.{◌≡◌, Bool, true, false, List, [], ◌∷◌, map, ◌⊎◌, ℕ, ℤ, length}
use Rattle.tone.specs.Tone.{tone_of}
use Rattle.threshold.specs.Threshold.{PLEV}
use Rattle.frames.specs.Frame.{up, Frame, samples_ok}
use Rattle.state.specs.declared.State.{State}
use Rattle.detector.specs.Answer.{Answer}
use Rattle.detector.specs.Step.{tone_kept, step_of, downlink_of}
use Rattle.detector.specs.Run.{answer_to}

-- the same state with another flag
unfoldable pub toned : Bool → State → State
toned b s =
    record {
      rvad = s.rvad;
      normrvad = s.normrvad;
      sacf = s.sacf;
      ptsacf = s.ptsacf;
      sav0 = s.sav0;
      ptsav0 = s.ptsav0;
      lastdm = s.lastdm;
      thvad = s.thvad;
      adaptcount = s.adaptcount;
      burstcount = s.burstcount;
      hangcount = s.hangcount;
      oldlagcount = s.oldlagcount;
      veryoldlagcount = s.veryoldlagcount;
      oldlag = s.oldlag;
      tone = b;
    }

-- ---- a downlink run whose samples never show a tone answers as the uplink run: frames of which each has its samples and no tone in them, and the same
-- frames on the uplink, from a state without the flag, as after a reset
unfoldable pub uplinked : Frame → Frame
uplinked f = record { direction = up; l_acf = f.l_acf; lags = f.lags; scalvad = f.scalvad }

abbrev pub Toneless : Frame → Type 0
Toneless f = (samples_ok f.direction ≡ true) × (tone_kept f.direction ≡ false)

unfoldable pub AllToneless : List Frame → Type 0
AllToneless [] = Unit
AllToneless (f ∷ fs) = Toneless f × AllToneless fs

-- the answers to all of them, with the state after each
unfoldable pub answers_from : State → List Frame → List Answer
answers_from s [] = []
answers_from s (f ∷ fs) = answer_to s f ∷ answers_from (answer_to s f).next fs

abbrev pub TonelessRun : Type 0
TonelessRun = (s : State) (fs : List Frame) → s.tone ≡ false → AllToneless fs → answers_from s fs ≡ answers_from s (map uplinked fs)

-- ---- an uplink step after a downlink one: the flag that this left is not read. With either flag the number is the same, an accepted frame has the same
-- answer, and leaves false
pub record NotRead (l_acf : List ℤ) (lags : List ℕ) (scalvad : ℤ) (s : State) (b : Bool) : Type 0 where
  pub number : (step_of l_acf lags scalvad (toned b s)).refusal ≡ (step_of l_acf lags scalvad s).refusal
  pub answer : (step_of l_acf lags scalvad s).refusal ≡ 0 → step_of l_acf lags scalvad (toned b s) ≡ step_of l_acf lags scalvad s
  pub stores : (step_of l_acf lags scalvad s).refusal ≡ 0 → (step_of l_acf lags scalvad s).next.tone ≡ false

abbrev pub FlagNotRead : Type 0
FlagNotRead = (l_acf : List ℤ) (lags : List ℕ) (scalvad : ℤ) (s : State) (b : Bool) → NotRead l_acf lags scalvad s b

-- ---- a frame's own samples change nothing in its answer but the flag that is kept for the next frame
pub record Alike (r q : Answer) : Type 0 where
  pub refusal : q.refusal ≡ r.refusal
  pub vad : q.vad ≡ r.vad
  pub vvad : q.vvad ≡ r.vvad
  pub stat : q.stat ≡ r.stat
  pub acf0 : q.acf0 ≡ r.acf0
  pub pvad : q.pvad ≡ r.pvad
  pub next : toned false q.next ≡ toned false r.next

pub record Later (l_acf : List ℤ) (lags : List ℕ) (scalvad : ℤ) (sof : List ℤ) (s : State) : Type 0 where
  pub kept : (downlink_of l_acf lags scalvad sof s).refusal ≡ 0 → (downlink_of l_acf lags scalvad sof s).next.tone ≡ tone_of sof
  pub alike : (other : List ℤ) → length other ≡ 160 → Alike (downlink_of l_acf lags scalvad sof s) (downlink_of l_acf lags scalvad other s)

abbrev pub SamplesLater : Type 0
SamplesLater = (l_acf : List ℤ) (lags : List ℕ) (scalvad : ℤ) (sof : List ℤ) (s : State) → length sof ≡ 160 → Later l_acf lags scalvad sof s

-- ---- after a frame with a tone nothing is learned: of an accepted downlink frame with the flag set, the filter stays, and the threshold stays or, below
-- the floor, is the fixed one
pub record Unlearned (s : State) (r : Answer) : Type 0 where
  pub rvad : r.next.rvad ≡ s.rvad
  pub normrvad : r.next.normrvad ≡ s.normrvad
  pub thvad : (r.next.thvad ≡ s.thvad) ⊎ (r.next.thvad ≡ PLEV)

abbrev pub NothingLearned : Type 0
NothingLearned = (l_acf : List ℤ) (lags : List ℕ) (scalvad : ℤ) (sof : List ℤ) (s : State) → s.tone ≡ true → (downlink_of l_acf lags scalvad sof s).refusal ≡ 0
    → Unlearned s (downlink_of l_acf lags scalvad sof s)
