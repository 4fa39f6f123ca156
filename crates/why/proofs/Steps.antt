-- One frame: refused, beyond the last number, or accepted. What the proofs of `numbered`, `reasoned` and `explain`, and the theorems, cite. Assumes nothing.
use mathlib.Core.Bool.{Bool}
use mathlib.Core.Path.{◌≡◌, refl, sym, ap, subst, ◌∙◌}
use mathlib.Core.List.{List}
use Prim.Native.Nat.{ℕ, ◌<◌, ◌≤◌}
use native.Mathlib.Omega.{arith}
use borrow.Author.Tests.{eq-eqb, ne_eqb, le-leb, lt-leb, eqb-true, eqb-false, leb-true, leb-false}
use lib.Dec.{eqb, leb}
use lib.IntN.{ℤ}
use Rattle.rows.specs.Choice.{IF◌THEN◌ELSE◌}
use Rattle.rows.proofs.Choice.{by_yes, by_no, by_test, either}
use Rattle.frames.specs.Frame.{Direction}
use Rattle.detector.specs.Answer.{Answer}
use Rattle.detector.specs.Step.{refused_of, tone_read, answer_for}
use Rattle.why.specs.declared.Explainer.{Explainer}
use Rattle.why.specs.Explained.{Explained}
use Rattle.why.specs.Fits.{why_case}
use Rattle.why.specs.Explain.{limit, accepted_of, denied_of, numbered_of, reasoned_of, explained_for}

module _ (e : Explainer) (a : Answer) where
  -- refused already
  pub numbered_refused : (a.refusal ≡ 0 → ⊥) → numbered_of e a ≡ a
  unfolding numbered_of IF◌THEN◌ELSE◌
  numbered_refused h = rw (ne_eqb a.refusal 0 h)

  -- no number is left
  pub numbered_beyond : a.refusal ≡ 0 → limit ≤ e.number → numbered_of e a ≡ refused_of 7 e.state
  unfolding numbered_of IF◌THEN◌ELSE◌
  numbered_beyond h l = rw (eq-eqb a.refusal 0 h, le-leb limit e.number l)

  pub numbered_within : e.number < limit → numbered_of e a ≡ a
  unfolding numbered_of IF◌THEN◌ELSE◌
  numbered_within l = either (numbered_of e a ≡ a) (eqb a.refusal 0) (λ t. rw (t, lt-leb limit e.number l)) (λ t. rw t)

  -- so one that is accepted has a number
  pub numbered_left : (numbered_of e a).refusal ≡ 0 → e.number < limit
  unfolding refused_of
  numbered_left h =
      either (e.number < limit) (leb limit e.number)
      (λ t. absurd (either ⊥ (eqb a.refusal 0)
      (λ u. seven (sym (ap (λ (r : Answer). r.refusal) (numbered_beyond (eqb-true a.refusal 0 u) (leb-true limit e.number t))) ∙ h))
      (λ u. let n = eqb-false a.refusal 0 u in n (sym (ap (λ (r : Answer). r.refusal) (numbered_refused n)) ∙ h))))
      (λ t. leb-false limit e.number t)
    where
      seven : ◌≡◌ {A = ℕ} 7 0 → ⊥
      seven q = omega arith

-- what is explained of an answer of the detector
module _ (tone : Bool) (e : Explainer) (answer : Answer) where
  abbrev a : Answer
  a = numbered_of e answer

  pub explained_accepted : a.refusal ≡ 0 → reasoned_of tone e answer ≡ accepted_of tone e a
  unfolding reasoned_of
  explained_accepted h = by_yes _ _ (eq-eqb a.refusal 0 h)

  pub explained_denied : (a.refusal ≡ 0 → ⊥) → reasoned_of tone e answer ≡ denied_of e a
  unfolding reasoned_of
  explained_denied h = by_no _ _ (ne_eqb a.refusal 0 h)

  -- the number of what is told is that of the answer
  told_number : (why_case (reasoned_of tone e answer).why).number ≡ (reasoned_of tone e answer).answer.refusal
  unfolding reasoned_of accepted_of denied_of why_case
  told_number =
      by_test (λ (x : Explained). (why_case x.why).number ≡ x.answer.refusal) (eqb a.refusal 0) (accepted_of tone e a) (denied_of e a) (λ t. sym (eqb-true a.refusal 0 t)) (λ t. refl)

pub with_number : (d : Direction) (e : Explainer) (l_acf : List ℤ) (lags : List ℕ) (scalvad : ℤ) (x : Explained)
    → x ≡ reasoned_of (tone_read d e.state) e (answer_for d l_acf lags scalvad e.state) → (x ≡ explained_for d e l_acf lags scalvad) × ((why_case x.why).number ≡ x.answer.refusal)
unfolding explained_for
with_number d e l_acf lags scalvad x i =
    (i, subst (λ (y : Explained). (why_case y.why).number ≡ y.answer.refusal) (sym i) (told_number (tone_read d e.state) e (answer_for d l_acf lags scalvad e.state)))
