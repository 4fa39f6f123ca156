-- What a frame is told stands for one result only. Assumes nothing.
use mathlib.Core.Path.{◌≡◌, sym, ap, subst}
use Prim.Native.Nat.{ℕ}
use Rattle.std.specs.Prelude.{Result, Ok, Err}
use Rattle.refusals.specs.declared.Refusal.{Refusal}
use Rattle.refusals.proofs.Laws.{same_number}
use Rattle.why.specs.declared.Reasons.{Reasons}
use Rattle.why.specs.Why.{Why, why_in}

-- the two cases have nothing in common
abbrev Refuses : Why → Type 0
Refuses (Why.Refused n) = Unit
Refuses (Why.Because r) = ⊥

number : ℕ → Why → ℕ
number k (Why.Refused n) = n
number k (Why.Because r) = k

reasons : Reasons → Why → Reasons
reasons q (Why.Refused n) = q
reasons q (Why.Because r) = r

pub same_why : (x y : Result Reasons Refusal) → why_in x ≡ why_in y → x ≡ y
unfolding why_in number reasons
same_why (Ok r) (Ok q) e = ap (λ (t : Reasons). Ok t) (ap (reasons r) e)
same_why (Ok r) (Err f) e = absurd (subst Refuses (sym e) tt)
same_why (Err f) (Ok r) e = absurd (subst Refuses e tt)
same_why (Err f) (Err g) e = ap (λ (t : Refusal). Err t) (same_number f g (ap (number 0) e))
