-- What the detector's results are explained as: a refusal, one beyond the last number, and an accepted frame. Assumes nothing.
use mathlib.Core.Bool.{Bool}
use mathlib.Core.Path.{◌≡◌, refl, sym, ap, ◌∙◌}
use mathlib.Core.List.{List}
use Prim.Native.Nat.{ℕ, ◌<◌, ◌≤◌}
use native.Mathlib.Omega.{arith}
use lib.IntN.{ℤ}
use Rattle.std.specs.Prelude.{Ok, Err}
use Rattle.refusals.specs.declared.Refusal.{Refusal}
use Rattle.refusals.specs.Refusal.{number_of}
use Rattle.refusals.proofs.Laws.{number_digit}
use Rattle.frames.specs.Frame.{Direction}
use Rattle.state.specs.declared.State.{State}
use Rattle.detector.specs.declared.Accepted.{Accepted}
use Rattle.detector.specs.declared.Refused.{Refused}
use Rattle.detector.specs.Answer.{Answer}
use Rattle.detector.specs.Step.{refused_of, answer_for}
use Rattle.detector.specs.Result.{accepted_in, answer_of}
use Rattle.detector.proofs.Table.{accepted_number, refused_answer}
use Rattle.why.specs.declared.Explainer.{Explainer}
use Rattle.why.specs.Explain.{limit, accepted_of, denied_of, reasoned_of}
use Rattle.why.specs.Result.{explained_in}
use Rattle.why.proofs.Steps.{numbered_refused, numbered_beyond, numbered_within, explained_accepted, explained_denied}

-- the number of a result
number_refused : (r : Refused) → (answer_of (Err r)).refusal ≡ number_of r.refusal
unfolding answer_of refused_of
number_refused r = refl

state_refused : (r : Refused) → (answer_of (Err r)).next ≡ r.state
unfolding answer_of refused_of
state_refused r = refl

number_accepted : (x : Accepted) → (answer_of (Ok x)).refusal ≡ 0
unfolding answer_of
number_accepted x = refl

module _ (tone : Bool) (d : Direction) (e : Explainer) (l_acf : List ℤ) (lags : List ℕ) (scalvad : ℤ) where
  abbrev a : Answer
  a = answer_for d l_acf lags scalvad e.state

  pub told_refused : (r : Refused) → answer_of (Err r) ≡ a → explained_in (Err (record { refusal = r.refusal; explainer = e })) ≡ reasoned_of tone e a
  unfolding explained_in answer_of
  told_refused r i =
      let n : number_of r.refusal ≡ a.refusal = sym (number_refused r) ∙ ap (λ (x : Answer). x.refusal) i in
      let k = number_digit r.refusal in
      let not_0 : a.refusal ≡ 0 → ⊥ = λ z. omega arith in
      let given = (refused_answer d l_acf lags scalvad e.state (λ z. not_0 (accepted_number d l_acf lags scalvad e.state z))).as_given in
      let s : r.state ≡ e.state = sym (state_refused r) ∙ ap (λ (x : Answer). x.next) i ∙ given in
      let by = numbered_refused e a not_0 in
      ap (λ (s : State). denied_of e (refused_of (number_of r.refusal) s)) (sym s)
      ∙ ap (denied_of e) i
      ∙ ap (denied_of e) (sym by)
      ∙ sym (explained_denied tone e a (λ z. not_0 (ap (λ (x : Answer). x.refusal) (sym by) ∙ z)))

  pub told_beyond : (x : Accepted) → answer_of (Ok x) ≡ a → limit ≤ e.number → explained_in (Err (record { refusal = Refusal.Limit; explainer = e })) ≡ reasoned_of tone e a
  unfolding explained_in number_of refused_of
  told_beyond x i l =
      let n : a.refusal ≡ 0 = ap (λ (r : Answer). r.refusal) (sym i) ∙ number_accepted x in
      let by = numbered_beyond e a n l in
      ap (denied_of e) (sym by) ∙ sym (explained_denied tone e a (λ z. seven e.state (ap (λ (r : Answer). r.refusal) (sym by) ∙ z)))
    where
      seven : (s : State) → (refused_of 7 s).refusal ≡ 0 → ⊥
      seven s q = omega arith

  pub told_accepted : (x : Accepted) → answer_of (Ok x) ≡ a → e.number < limit → accepted_of tone e (accepted_in x) ≡ reasoned_of tone e a
  unfolding answer_of
  told_accepted x i l =
      let n : a.refusal ≡ 0 = ap (λ (r : Answer). r.refusal) (sym i) ∙ number_accepted x in
      let by = numbered_within e a l in
      ap (accepted_of tone e) i
      ∙ ap (accepted_of tone e) (sym by)
      ∙ sym (explained_accepted tone e a (ap (λ (r : Answer). r.refusal) by ∙ n))
