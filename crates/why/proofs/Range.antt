-- A count that is waited for is one of 1..8: adaptcount of a valid state is not negative, and it rose by one. Assumes nothing.
use mathlib.Core.Path.{◌≡◌, sym, ap, ◌∙◌}
use mathlib.Core.Bool.{Bool, not}
use mathlib.Core.List.{List}
use Prim.Native.Nat.{ℕ}
use lib.Dec.{eqb}
use borrow.Author.Tests.{eqb-true}
use lib.IntN.{ℤ, pos}
use lib.Signed.{le_z, ◌≤ℤ◌}
use Rattle.numbers.proofs.Parts.{zarith, of, plus, same}
use Rattle.operations.specs.Operations.{add}
use Rattle.operations.proofs.Laws.{add_exact}
use Rattle.rows.proofs.Choice.{by_test}
use Rattle.pairs.specs.declared.Pair.{Pair}
use Rattle.pairs.specs.Pairs.{greater_of}
use Rattle.threshold.specs.declared.Way.{Way}
use Rattle.threshold.specs.Threshold.{PTH}
use Rattle.threshold.specs.Ways.{risen_of, way_taken}
use Rattle.frames.specs.Frame.{Direction, samples_ok}
use Rattle.detector.specs.Answer.{Answer}
use Rattle.detector.specs.Step.{answer_for}
use Rattle.detector.proofs.Table.{accepted_0}
use Rattle.detector.proofs.Keeps.{accepted}
use Rattle.why.specs.Why.{Why}
use Rattle.why.specs.declared.Explainer.{Explainer}
use Rattle.why.specs.Explained.{Explained}
use Rattle.why.specs.Explain.{threshold_reason, accepted_of, denied_of, numbered_of, reasoned_of, explained_for}
use Rattle.why.proofs.Steps.{numbered_within, numbered_left}

abbrev pub WaitingIn : Way → Type 0
WaitingIn Way.Floor = Unit
WaitingIn Way.Periodic = Unit
WaitingIn Way.Unsteady = Unit
WaitingIn Way.Tone = Unit
WaitingIn (Way.Waiting k) = (pos 1 ≤ℤ k) × (k ≤ℤ pos 8)
WaitingIn Way.Adapted = Unit

abbrev pub WhyIn : Why → Type 0
WhyIn (Why.Refused n) = Unit
WhyIn (Why.Because r) = WaitingIn r.threshold

pub waiting_in : (acf0 : Pair) (ptch stat tone : Bool) (n : ℤ) → pos 0 ≤ℤ n → n ≤ℤ pos 9 → WaitingIn (way_taken acf0 ptch stat tone n)
unfolding way_taken risen_of
waiting_in acf0 ptch stat tone n low high =
    by_test WaitingIn (greater_of PTH acf0) _ _ (λ t. tt)
    (λ t. by_test WaitingIn ptch _ _ (λ u. tt)
    (λ u. by_test WaitingIn (not stat) _ _ (λ v. tt)
    (λ v. by_test WaitingIn tone _ _ (λ x. tt)
    (λ x. by_test WaitingIn (le_z (add n (pos 1)) (pos 8)) _ _
    (λ w.
    let e = same (add_exact n (pos 1) (omega (zarith, low, high, plus n (pos 1), of n))) in
    (omega (zarith, low, plus n (pos 1)), omega zarith))
    (λ w. tt)))))

-- of whatever is explained
module _ (d : Direction) (e : Explainer) (l_acf : List ℤ) (lags : List ℕ) (scalvad : ℤ) where
  abbrev r : Answer
  r = answer_for d l_acf lags scalvad e.state

  abbrev a : Answer
  a = numbered_of e r

  reason_in : (tone : Bool) → a.refusal ≡ 0 → WaitingIn (threshold_reason tone e.state a.acf0 a.stat)
  unfolding threshold_reason
  reason_in tone h =
      let l = numbered_left e r h in
      let n = numbered_within e r l in
      let v = (accepted (samples_ok d) l_acf lags scalvad e.state (accepted_0 d l_acf lags scalvad e.state (ap (λ (x : Answer). x.refusal) (sym n) ∙ h))).state in
      waiting_in a.acf0 _ a.stat tone e.state.adaptcount v.adaptcount.from v.adaptcount.to

  pub explained_in : WhyIn (explained_for d e l_acf lags scalvad).why
  unfolding explained_for reasoned_of accepted_of denied_of
  explained_in = by_test (λ (x : Explained). WhyIn x.why) (eqb a.refusal 0) _ _ (λ t. reason_in _ (eqb-true a.refusal 0 t)) (λ t. tt)
