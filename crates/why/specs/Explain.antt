-- What the explainer answers to a frame: the detector's own answer, and of an accepted frame its number, why its flag is what it is, and which way it
-- went through 6.6. What these reasons mean of a run is in `Fits.antt`. Assumes nothing.
use Rattle.std.specs.Prelude.{Bool, ◌&&◌, List, ℕ, ◌+◌, eqb, leb, ℤ}
use Rattle.std.specs.Int.Signed.{le_z}
use Rattle.rows.specs.Choice.{IF◌THEN◌ELSE◌}
use Rattle.pairs.specs.declared.Pair.{Pair}
use Rattle.lags.specs.Lags.{ptch_of}
use Rattle.hangover.specs.Hangover.{BURSTCONST}
use Rattle.threshold.specs.declared.Way.{Way}
use Rattle.threshold.specs.Ways.{way_taken}
use Rattle.frames.specs.Frame.{Direction}
use Rattle.state.specs.declared.State.{State}
use Rattle.state.specs.Valid.{reset_of}
use Rattle.detector.specs.Answer.{Answer}
use Rattle.detector.specs.Step.{refused_of, tone_read, answer_for}
use Rattle.why.specs.declared.Flag.{Flag}
use Rattle.why.specs.Why.{Why}
use Rattle.why.specs.declared.Explainer.{Explainer}
use Rattle.why.specs.Explained.{Explained}

-- the most frames that are numbered
abbrev pub limit : ℕ
limit = 4294967295

unfoldable pub start_of : Explainer
start_of = record { state = reset_of; number = 0; latest = 0 }

-- energy goes before hangover
unfoldable pub flag_reason : Bool → Bool → ℕ → Flag
flag_reason vvad vad latest =
    IF vvad THEN Flag.Energy ELSE
    IF vad THEN Flag.Hangover latest ELSE
    Flag.Quiet

-- the latest frame that completed a burst, after frame `number` has left `burstcount`: this one, if the count is full
unfoldable pub latest_after : ℤ → ℕ → ℕ → ℕ
latest_after burstcount number latest = IF le_z BURSTCONST burstcount THEN number ELSE latest

-- the threshold: ptch as the state at entry has it, and the tone flag that 6.6 read
unfoldable pub threshold_reason : Bool → State → Pair → Bool → Way
threshold_reason tone s acf0 stat = way_taken acf0 (ptch_of s.oldlagcount s.veryoldlagcount) stat tone s.adaptcount

-- an accepted frame
unfoldable pub accepted_of : Bool → Explainer → Answer → Explained
accepted_of tone e a =
    let number = e.number + 1 in
    let latest = latest_after a.next.burstcount number e.latest in
    record {
      answer = a;
      why = Why.Because (record { number = number; flag = flag_reason a.vvad a.vad latest; threshold = threshold_reason tone e.state a.acf0 a.stat });
      next = record { state = a.next; number = number; latest = latest };
    }

-- a refused one: its number only, and everything as it was
unfoldable pub denied_of : Explainer → Answer → Explained
denied_of e a = record { answer = a; why = Why.Refused a.refusal; next = e }

-- a frame that would be accepted, and for which there is no number, is refusal 7
unfoldable pub numbered_of : Explainer → Answer → Answer
numbered_of e a = IF eqb a.refusal 0 && leb limit e.number THEN refused_of 7 e.state ELSE a

-- the detector's answer to a frame, explained
unfoldable pub reasoned_of : Bool → Explainer → Answer → Explained
reasoned_of tone e answer =
    let a = numbered_of e answer in
    IF eqb a.refusal 0 THEN accepted_of tone e a ELSE denied_of e a

-- a frame in either direction
unfoldable pub explained_for : Direction → Explainer → List ℤ → List ℕ → ℤ → Explained
explained_for d e l_acf lags scalvad = reasoned_of (tone_read d e.state) e (answer_for d l_acf lags scalvad e.state)
