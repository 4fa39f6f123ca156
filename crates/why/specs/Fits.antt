-- When a reason fits a frame of a run from reset. Several may hold of one frame: the first in the order fits. The order is the number of each case;
-- energy goes before hangover, and for the threshold it is that of clause 6.6. Assumes nothing.
use Rattle.std.specs.Prelude.{◌≡◌, Bool, true, false, List, [], ◌∷◌, ◌++◌, ℕ, suc, ◌<◌, ℤ, pos, length, ◌≤ℤ◌, ◌<ℤ◌}
use Rattle.pairs.specs.Pairs.{greater_of}
use Rattle.lags.specs.Lags.{ptch_of}
use Rattle.hangover.specs.Bursts.{by_place, Latest}
use Rattle.threshold.specs.declared.Way.{Way}
use Rattle.threshold.specs.Threshold.{PTH}
use Rattle.threshold.specs.Ways.{risen_of}
use Rattle.state.specs.declared.State.{State}
use Rattle.detector.specs.Answer.{Answer}
use Rattle.detector.specs.Run.{raws_of}
use Rattle.why.specs.declared.Flag.{Flag}
use Rattle.why.specs.declared.Reasons.{Reasons}
use Rattle.why.specs.Why.{Why}

-- ---- the cases of the two enums: the number of each in its order, and the values that it carries
pub record Case : Type 0 where
  pub number : ℕ
  pub values : List ℤ

abbrev case : ℕ → List ℤ → Case
case n vs = record { number = n; values = vs }

unfoldable pub flag_case : Flag → Case
flag_case Flag.Energy = case 1 []
flag_case (Flag.Hangover n) = case 2 (pos n ∷ [])
flag_case Flag.Quiet = case 3 []

unfoldable pub way_case : Way → Case
way_case Way.Floor = case 1 []
way_case Way.Periodic = case 2 []
way_case Way.Unsteady = case 3 []
way_case Way.Tone = case 4 []
way_case (Way.Waiting k) = case 5 (k ∷ [])
way_case Way.Adapted = case 6 []

-- what a frame is told as a whole: document 01's number, which is 0 for an accepted frame, and the values: none for a refused one, and else the frame's
-- number, and the number and the values of both reasons
unfoldable pub shown : Case → List ℤ
shown c = pos c.number ∷ c.values

unfoldable pub why_case : Why → Case
why_case (Why.Refused n) = case n []
why_case (Why.Because r) = case 0 (pos r.number ∷ (shown (flag_case r.flag) ++ shown (way_case r.threshold)))

-- a reason fits if it holds and none with a lower number does
pub record Fits {R : Type 0} (case_of : R → Case) (Holds : R → Type 0) (reason : R) : Type 0 where
  pub holds : Holds reason
  pub first : (other : R) → (case_of other).number < (case_of reason).number → Holds other → ⊥

-- ---- when each holds

-- of the flag: a is the answer to an accepted frame, and `raws` are the raw flags of all accepted frames up to it
unfoldable pub FlagHolds : List Bool → Answer → Flag → Type 0
FlagHolds raws a Flag.Energy = a.vvad ≡ true
FlagHolds raws a (Flag.Hangover n) = (a.vad ≡ true) × (0 < n) × Latest 3 (by_place raws) (length raws) n
FlagHolds raws a Flag.Quiet = a.vad ≡ false

-- of the threshold: `tone` is the flag that 6.6 read, s the state at entry, and a the answer
unfoldable pub WayHolds : Bool → State → Answer → Way → Type 0
WayHolds tone s a Way.Floor = greater_of PTH a.acf0 ≡ true
WayHolds tone s a Way.Periodic = ptch_of s.oldlagcount s.veryoldlagcount ≡ true
WayHolds tone s a Way.Unsteady = a.stat ≡ false
WayHolds tone s a Way.Tone = tone ≡ true
WayHolds tone s a (Way.Waiting k) = (risen_of s.adaptcount ≡ k) × (k ≤ℤ pos 8)
WayHolds tone s a Way.Adapted = pos 8 <ℤ risen_of s.adaptcount

-- ---- both, and the frame's number: a is the answer to an accepted frame, s the state at entry, `tone` the flag that 6.6 read, and `before` are the
-- answers to the accepted frames before it
pub record Fitting (before : List Answer) (tone : Bool) (s : State) (a : Answer) (r : Reasons) : Type 0 where
  pub number : r.number ≡ suc (length before)
  pub flag : Fits flag_case (FlagHolds (raws_of (before ++ (a ∷ []))) a) r.flag
  pub threshold : Fits way_case (WayHolds tone s a) r.threshold
