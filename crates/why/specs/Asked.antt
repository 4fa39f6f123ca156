-- What is asked of the explainer, of each frame of a run from reset, frames one after the other, of either direction, of which some may be refused. `asked` in
-- `proofs/Asked.antt` shows it of what `start` and `explain` promise. Assumes nothing.
use Rattle.std.specs.Prelude.{◌≡◌, List, [], ◌∷◌, ◌↔◌, ℕ, ◌+◌, ◌<◌, ◌≤◌, length}
use Rattle.frames.specs.Frame.{Frame}
use Rattle.state.specs.Valid.{reset_of}
use Rattle.detector.specs.Answer.{Answer}
use Rattle.detector.specs.Step.{refused_of, tone_read}
use Rattle.detector.specs.Run.{answer_to, state_from, accepted_from}
use Rattle.why.specs.declared.Flag.{Flag}
use Rattle.why.specs.declared.Reasons.{Reasons}
use Rattle.why.specs.Why.{Why}
use Rattle.why.specs.declared.Explainer.{Explainer}
use Rattle.why.specs.Explained.{Explained}
use Rattle.why.specs.Explain.{limit, start_of, explained_for}
use Rattle.why.specs.Fits.{Fitting}

-- by the promises: what a frame is answered, and the explainer that frames leave
unfoldable pub explained_to : Explainer → Frame → Explained
explained_to e f = explained_for f.direction e f.l_acf f.lags f.scalvad

unfoldable pub explainer_from : Explainer → List Frame → Explainer
explainer_from e [] = e
explainer_from e (f ∷ fs) = explainer_from (explained_to e f).next fs

-- after the frames `before`: the explainer, how many of them were accepted, and what the detector and the explainer answer to a frame f
abbrev pub explainer : List Frame → Explainer
explainer before = explainer_from start_of before

abbrev pub count : List Frame → ℕ
count before = length (accepted_from reset_of before)

abbrev pub answer : List Frame → Frame → Answer
answer before f = answer_to (state_from reset_of before) f

abbrev pub told : List Frame → Frame → Explained
told before f = explained_to (explainer before) f

abbrev pub FittingAt : List Frame → Frame → Reasons → Type 0
FittingAt before f r = Fitting (accepted_from reset_of before) (tone_read f.direction (state_from reset_of before)) (state_from reset_of before) (answer before f) r

-- the detector's own answer, with reasons: some fit, and they are answered exactly if they do; a frame that the hangover holds has completed its burst
-- at one of the five frames before
pub record Explains (before : List Frame) (f : Frame) : Type 0 where
  pub own : (told before f).answer ≡ answer before f
  pub some : (r : Reasons) × FittingAt before f r
  pub exactly : (r : Reasons) → ((told before f).why ≡ Why.Because r) ↔ FittingAt before f r
  pub near : (r : Reasons) (n : ℕ) → FittingAt before f r → r.flag ≡ Flag.Hangover n → (n < r.number) × (r.number ≤ n + 5)

-- a number only, and everything as it was
pub record Denies (before : List Frame) (f : Frame) (a : Answer) : Type 0 where
  pub own : (told before f).answer ≡ a
  pub number : (told before f).why ≡ Why.Refused a.refusal
  pub stays : (told before f).next ≡ explainer before

-- while no frame more than can be numbered was accepted: an accepted frame has reasons, or is refusal 7 where no number is left; another has its number
pub record Asked (before : List Frame) (f : Frame) : Type 0 where
  pub accepted : (answer before f).refusal ≡ 0 → count before < limit → Explains before f
  pub beyond : (answer before f).refusal ≡ 0 → count before ≡ limit → Denies before f (refused_of 7 (state_from reset_of before))
  pub refused : ((answer before f).refusal ≡ 0 → ⊥) → count before ≤ limit → Denies before f (answer before f)
