-- The steps of both directions meet the three demands of specs/Demands.antt on a frame; a reset state is one that they speak of; and a caller has them of
-- what the functions `detector::step` and `detector::downlink` answer. Those on lines are met in Lines.antt. Assumes nothing.
use mathlib.Core.Path.{◌≡◌, sym, ◌∙◌, subst}
use mathlib.Core.Bool.{true}
use mathlib.Core.List.{List}
use Prim.Native.Nat.{ℕ}
use lib.Dec.{eqb}
use borrow.Author.Tests.{eqb-true, eqb-false}
use lib.IntN.{ℤ, pos}
use lib.Signed.{◌≤ℤ◌}
use Rattle.numbers.specs.Sum.{at}
use Rattle.rows.proofs.Choice.{either}
use Rattle.frames.specs.Frame.{Direction, samples_ok}
use Rattle.state.specs.declared.State.{State}
use Rattle.state.specs.Valid.{valid_of, Shaped, reset_of}
use Rattle.state.proofs.Facts.{reset_valid, reset_shaped}
use Rattle.detector.specs.Answer.{Answer}
use Rattle.detector.specs.Refusal.{refusal_of}
use Rattle.detector.specs.Step.{answer_for}
use Rattle.detector.proofs.Table.{number_0, number_1, number_2, number_3, number_4, number_5, number_8, step_accepted, refused_answer, accepted_number}
use Rattle.detector.proofs.Keeps.{Numbers, step_keeps}
use Rattle.detector.proofs.Frames.{filter_unclipped}
use Rattle.demands.specs.Demands.{Demand1, Demand2, Demand3}
use Rattle.demands.proofs.Distance.{plain, not_positive}
use Rattle.demands.proofs.Reported.{frame, filter, exponent, from_below, from_above, speech, quiet}

module _ (d : Direction) (l_acf : List ℤ) (lags : List ℕ) (scalvad : ℤ) (s : State) where
  abbrev r : Answer
  r = answer_for d l_acf lags scalvad s

  abbrev number : ℕ
  number = refusal_of (samples_ok d) l_acf lags scalvad s

  -- the number that the answer has is the table's
  pub numbered : r.refusal ≡ number
  numbered =
      either (r.refusal ≡ number) (eqb number 0)
      (λ h. let n : number ≡ 0 = eqb-true number 0 h in accepted_number d l_acf lags scalvad s n ∙ sym n)
      (λ h. (refused_answer d l_acf lags scalvad s (eqb-false number 0 h)).numbered)

  pub demand_1 : Demand1 d l_acf lags scalvad s (answer_for d l_acf lags scalvad s)
  demand_1 =
      record {
        number_1 = rw numbered (number_1 (samples_ok d) l_acf lags scalvad s);
        number_8 = rw numbered (number_8 (samples_ok d) l_acf lags scalvad s);
        number_5 = rw numbered (number_5 (samples_ok d) l_acf lags scalvad s);
        number_2 = rw numbered (number_2 (samples_ok d) l_acf lags scalvad s);
        number_3 = rw numbered (number_3 (samples_ok d) l_acf lags scalvad s);
        number_4 = rw numbered (number_4 (samples_ok d) l_acf lags scalvad s);
        number_0 = rw numbered (number_0 (samples_ok d) l_acf lags scalvad s);
        no_flag = λ h. (refused_answer d l_acf lags scalvad s (λ e. h (numbered ∙ e))).no_flag;
        no_energy = λ h. (refused_answer d l_acf lags scalvad s (λ e. h (numbered ∙ e))).no_energy;
        as_given = λ h. (refused_answer d l_acf lags scalvad s (λ e. h (numbered ∙ e))).as_given;
      }

  module _ (fits : Numbers l_acf) (shape : Shaped s) where
    pub demand_2 : Demand2 d l_acf lags scalvad s (answer_for d l_acf lags scalvad s)
    demand_2 =
        record {
          clauses = λ e. step_accepted d l_acf lags scalvad s (sym numbered ∙ e);
          kept = λ t. (step_keeps l_acf lags scalvad s fits shape d t).0;
          shaped = λ t. (step_keeps l_acf lags scalvad s fits shape d t).1;
        }

    pub demand_3 : refusal_of (samples_ok d) l_acf lags scalvad s ≡ 0 → pos 1 ≤ℤ at l_acf 0 → Demand3 l_acf scalvad s (answer_for d l_acf lags scalvad s)
    demand_3 none some =
        let f = frame d l_acf lags scalvad s fits shape none some in
        let g = filter d l_acf lags scalvad s fits shape none some in
        record {
          partial_sums = filter_unclipped d l_acf lags scalvad s fits shape none f;
          plain_sum = plain l_acf f s.rvad g;
          not_below = from_below d l_acf lags scalvad s fits shape none some;
          not_above = from_above d l_acf lags scalvad s fits shape none some;
          exponent = exponent d l_acf lags scalvad s fits shape none some;
          small = not_positive l_acf f s.rvad g;
          speech = speech d l_acf lags scalvad s fits shape none some;
          quiet = quiet d l_acf lags scalvad s fits shape none some;
        }

pub reset_meets : (valid_of reset_of ≡ true) × Shaped reset_of
reset_meets = (reset_valid, reset_shaped)

-- ---- what a caller has: `r ≡ answer_for d ..` is what the function of the direction d ensures, `Numbers` and `Shaped` what the types of its arguments say by themselves
pub record Called (d : Direction) (l_acf : List ℤ) (lags : List ℕ) (scalvad : ℤ) (s : State) (r : Answer) : Type 0 where
  pub first : Demand1 d l_acf lags scalvad s r
  pub second : Demand2 d l_acf lags scalvad s r
  pub third : r.refusal ≡ 0 → pos 1 ≤ℤ at l_acf 0 → Demand3 l_acf scalvad s r

pub caller : (d : Direction) (l_acf : List ℤ) (lags : List ℕ) (scalvad : ℤ) (s : State) (r : Answer) → r ≡ answer_for d l_acf lags scalvad s → Numbers l_acf → Shaped s → Called d l_acf lags scalvad s r
caller d l_acf lags scalvad s r e fits shape =
    subst (Called d l_acf lags scalvad s) (sym e)
    (record {
      first = demand_1 d l_acf lags scalvad s;
      second = demand_2 d l_acf lags scalvad s fits shape;
      third = λ n. demand_3 d l_acf lags scalvad s fits shape (sym (numbered d l_acf lags scalvad s) ∙ n);
    })
