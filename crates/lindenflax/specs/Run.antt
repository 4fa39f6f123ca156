-- A state and an answer as runs of numbers: 85 for a state, 6 for an answer. Then what the three functions of the interface that have a
-- state answer, and what they leave in each run that is lent to them, for every input. Assumes nothing.
use Rattle.std.specs.Prelude.{Bool, ◌&&◌, List, [], ◌∷◌, ◌++◌, ℕ, eqb, ℤ, nat_abs, pos, neg_ℤ, length, take, drop}
use Rattle.numbers.specs.Sum.{at}
use Rattle.rows.specs.Choice.{IF◌THEN◌ELSE◌, eqZ, within}
use Rattle.rows.specs.Rows.{all}
use Rattle.pairs.specs.declared.Pair.{Pair}
use Rattle.pairs.specs.Pairs.{pair}
use Rattle.frames.specs.Frame.{Direction, samples_ok}
use Rattle.state.specs.declared.State.{State}
use Rattle.state.specs.Valid.{reset_of}
use Rattle.detector.specs.Answer.{Answer}
use Rattle.detector.specs.Step.{answer_for}

-- the numbers of a state, and of an answer
abbrev pub RUN : ℕ
RUN = 85

abbrev pub ANSWER : ℕ
ANSWER = 6

-- ---- a flag as a number
unfoldable pub bit_of : Bool → ℤ
bit_of b = IF b THEN pos 1 ELSE pos 0

unfoldable pub flag_of : ℤ → Bool
flag_of z = eqZ z (pos 1)

-- ---- a state as a run
-- 0..8 rvad, 9 normrvad, 10..36 L_sacf, 37 pt_sacf, 38..73 L_sav0, 74 pt_sav0, 75 lastdm, 76 e_thvad, 77 m_thvad, 78 adaptcount,
-- 79 burstcount, 80 hangcount, 81 oldlagcount, 82 veryoldlagcount, 83 oldlag, 84 tone
unfoldable pub run_of : State → List ℤ
run_of s =
    s.rvad
    ++ ((s.normrvad ∷ [])
    ++ (s.sacf
    ++ ((pos s.ptsacf ∷ [])
    ++ (s.sav0
    ++ (pos s.ptsav0
    ∷ s.lastdm
    ∷ s.thvad.e
    ∷ s.thvad.m
    ∷ s.adaptcount
    ∷ s.burstcount
    ∷ s.hangcount
    ∷ s.oldlagcount
    ∷ s.veryoldlagcount
    ∷ pos s.oldlag
    ∷ bit_of s.tone
    ∷ [])))))

-- count numbers of a run, from `first` on
unfoldable pub part : ℕ → ℕ → List ℤ → List ℤ
part first count l = take count (drop first l)

-- the state in a run
unfoldable pub state_of : List ℤ → State
state_of l =
    record {
      rvad = part 0 9 l;
      normrvad = at l 9;
      sacf = part 10 27 l;
      ptsacf = nat_abs (at l 37);
      sav0 = part 38 36 l;
      ptsav0 = nat_abs (at l 74);
      lastdm = at l 75;
      thvad = pair (at l 76) (at l 77);
      adaptcount = at l 78;
      burstcount = at l 79;
      hangcount = at l 80;
      oldlagcount = at l 81;
      veryoldlagcount = at l 82;
      oldlag = nat_abs (at l 83);
      tone = flag_of (at l 84);
    }

-- each of some numbers is one of 16 bits
unfoldable pub shorts_of : List ℤ → Bool
shorts_of l = all (within (neg_ℤ (pos 32768)) (pos 32767)) l

-- each number fits its field: the filter and normrvad are of 16 bits, and the threshold and the counts; a pointer is one of 0..27, the last
-- lag one of 0..65535, and the tone 0 or 1. The others are any numbers of 32 bits
unfoldable pub narrow_of : List ℤ → Bool
narrow_of l =
    shorts_of (part 0 10 l)
    && (shorts_of (part 76 7 l) && (within (pos 0) (pos 27) (at l 37) && (within (pos 0) (pos 27) (at l 74) && (within (pos 0) (pos 65535) (at l 83) && within (pos 0) (pos 1) (at l 84)))))

-- ---- an answer as a run
-- 0 vad, 1 vvad, 2 e_acf0, 3 m_acf0, 4 e_pvad, 5 m_pvad
unfoldable pub answer_run : Bool → Bool → Pair → Pair → List ℤ
answer_run vad vvad acf0 pvad = bit_of vad ∷ bit_of vvad ∷ acf0.e ∷ acf0.m ∷ pvad.e ∷ pvad.m ∷ []

unfoldable pub answer_of : Answer → List ℤ
answer_of a = answer_run a.vad a.vvad a.acf0 a.pvad

-- ---- lindenflax_reset: the number it answers, and the run it leaves
unfoldable pub reset_number : List ℤ → ℕ
reset_number run = IF eqb (length run) RUN THEN 0 ELSE 1

unfoldable pub reset_run : List ℤ → List ℤ
reset_run run = IF eqb (length run) RUN THEN run_of reset_of ELSE run

-- ---- lindenflax_step, which is `up`, and lindenflax_downlink, which is `down` with the samples: the number it answers, and the two runs it leaves
unfoldable pub lengths_of : List ℤ → List ℕ → List ℤ → List ℤ → Bool
lengths_of acf lags run answer = eqb (length acf) 9 && (eqb (length lags) 4 && (eqb (length run) RUN && eqb (length answer) ANSWER))

-- what is lent: 1, 8 and 5, before the frame. `samples` says that the frame has the samples that its direction asks for
unfoldable pub lent_number : Bool → List ℤ → List ℕ → List ℤ → List ℤ → ℕ
lent_number samples acf lags run answer =
    IF lengths_of acf lags run answer THEN
    IF samples THEN
    IF narrow_of run THEN 0
    ELSE 5
    ELSE 8
    ELSE 1

unfoldable pub step_number : Direction → List ℤ → List ℕ → ℤ → List ℤ → List ℤ → ℕ
step_number d acf lags scale run answer =
    let number = lent_number (samples_ok d) acf lags run answer in
    IF eqb number 0 THEN (answer_for d acf lags scale (state_of run)).refusal ELSE number

-- number 0 leaves the next state and the answer, and any other what was lent
unfoldable pub run_after : ℕ → Answer → List ℤ → List ℤ
run_after number a run = IF eqb number 0 THEN run_of a.next ELSE run

unfoldable pub answer_after : ℕ → Answer → List ℤ → List ℤ
answer_after number a answer = IF eqb number 0 THEN answer_of a ELSE answer

unfoldable pub step_run : Direction → List ℤ → List ℕ → ℤ → List ℤ → List ℤ → List ℤ
step_run d acf lags scale run answer = run_after (step_number d acf lags scale run answer) (answer_for d acf lags scale (state_of run)) run

unfoldable pub step_answer : Direction → List ℤ → List ℕ → ℤ → List ℤ → List ℤ → List ℤ
step_answer d acf lags scale run answer = answer_after (step_number d acf lags scale run answer) (answer_for d acf lags scale (state_of run)) answer
