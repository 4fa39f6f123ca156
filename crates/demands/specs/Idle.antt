-- Document 01, 'How strict the promises are': a promise that only one answer satisfies, and the idle programs. Each idle program is a class: every
-- program that behaves so, whatever else it does. Its statement names a frame and a state at which none of them answers what `step` promises.
-- proofs/Idle.antt proves them, and shows a program of each class. Assumes nothing.
use Rattle.std.specs.Prelude.{◌≡◌, Bool, true, false, List, ℕ, ℤ, pos}
use Rattle.threshold.specs.Threshold.{PLEV}
use Rattle.state.specs.declared.State.{State}
use Rattle.state.specs.Valid.{reset_of}
use Rattle.detector.specs.Answer.{Answer}
use Rattle.detector.specs.Step.{step_of}
use Rattle.demands.specs.Demands.{Demand3}
use Rattle.demands.specs.Worked.{acf, forty}

-- ---- no two different answers satisfy a promise. What a lent buffer holds afterwards is part of the answer: the pair of both
abbrev pub OnlyOne : {A : Type 0} → (A → Type 0) → Type 0
OnlyOne {A} promise = (r q : A) → promise r → promise q → r ≡ q

-- ---- what a function of the shape of `step` answers for nine numbers, four lags, the scale and the state; and the promise of `step`: the answer is
-- `step_of`, for every input (`ensures` of crates/detector/src/lib.rt)
abbrev pub Program : Type 0
Program = List ℤ → List ℕ → ℤ → State → Answer

abbrev pub Meets : Program → Type 0
Meets f = (l_acf : List ℤ) (lags : List ℕ) (scalvad : ℤ) (s : State) → f l_acf lags scalvad s ≡ step_of l_acf lags scalvad s

-- two frames below the level of 6.6, both with lags of 40 and scale 0: from reset 1, 0.. is answered 0 0 0, and 100000, 0.. is answered 0 1 1
abbrev pub quiet : List ℤ
quiet = acf (pos 1) (pos 0)

abbrev pub loud : List ℤ
loud = acf (pos 100000) (pos 0)

-- no program of the class answers this frame, from this state, as is promised
abbrev pub Stopped : (Program → Type 0) → List ℤ → State → Type 0
Stopped Idle l_acf s = (f : Program) → Idle f → f l_acf forty (pos 0) s ≡ step_of l_acf forty (pos 0) s → ⊥

-- ---- 1. "one that refuses every frame"
abbrev pub RefusesAll : Program → Type 0
RefusesAll f = (l_acf : List ℤ) (lags : List ℕ) (scalvad : ℤ) (s : State) → (f l_acf lags scalvad s).refusal ≡ 0 → ⊥

abbrev pub Refuser : Type 0
Refuser = Stopped RefusesAll quiet reset_of

-- ---- 2, 3. "one that always says speech, or always quiet": vad of every frame that it accepts
abbrev pub Says : Bool → Program → Type 0
Says t f = (l_acf : List ℤ) (lags : List ℕ) (scalvad : ℤ) (s : State) → (f l_acf lags scalvad s).refusal ≡ 0 → (f l_acf lags scalvad s).vad ≡ t

abbrev pub AlwaysSpeech : Type 0
AlwaysSpeech = Stopped (Says true) quiet reset_of

abbrev pub AlwaysQuiet : Type 0
AlwaysQuiet = Stopped (Says false) loud reset_of

-- the raw decision: demand 3 alone leaves no choice of vvad, where the threshold in force is that below the level of 6.6
abbrev pub Decides : List ℤ → Bool → Type 0
Decides l_acf t = (r : Answer) → r.next.thvad ≡ PLEV → Demand3 l_acf (pos 0) reset_of r → r.vvad ≡ t

abbrev pub DecidesQuiet : Type 0
DecidesQuiet = Decides quiet false

abbrev pub DecidesSpeech : Type 0
DecidesSpeech = Decides loud true

-- ---- 4. "one that returns the state it got". 6.2 stops it, which moves the histories' pointers, and 6.9 stops it, which counts the lags: a program
-- that keeps only the one, or only the other, is stopped as well
abbrev pub Keeps : {A : Type 0} → (State → A) → Program → Type 0
Keeps part f = (l_acf : List ℤ) (lags : List ℕ) (scalvad : ℤ) (s : State) → part (f l_acf lags scalvad s).next ≡ part s

abbrev pub HandsBack : Type 0
HandsBack = Stopped (Keeps (λ s. s)) quiet reset_of

abbrev pub KeepsPointer : Type 0
KeepsPointer = Stopped (Keeps (λ s. s.ptsacf)) quiet reset_of

abbrev pub KeepsLagcount : Type 0
KeepsLagcount = Stopped (Keeps (λ s. s.oldlagcount)) quiet reset_of

-- ---- 5. "one that handles the first frame and then repeats its answer": 100000, 0.. from reset is answered as promised, and every frame from the
-- state which that leaves is answered the same again
pub record Repeats (f : Program) : Type 0 where
  pub first : f loud forty (pos 0) reset_of ≡ step_of loud forty (pos 0) reset_of
  pub again : (l_acf : List ℤ) (lags : List ℕ) (scalvad : ℤ) → f l_acf lags scalvad (f loud forty (pos 0) reset_of).next ≡ f loud forty (pos 0) reset_of

abbrev pub Repeater : Type 0
Repeater = Stopped Repeats quiet (step_of loud forty (pos 0) reset_of).next
