-- Refusals with the same number are the same, and the answer of what may be refused says whether it is. Assumes nothing.
use Rattle.std.proofs.Common.{◌≡◌, ℕ, ◌≤◌, [], ◌∷◌, get_or, refl, sym, ap, ◌∙◌, arith}
use Rattle.std.specs.Prelude.{Result, Ok, Err}
use Rattle.refusals.specs.Refusal.{number_of, number_in}
use Rattle.refusals.specs.declared.Refusal.{Refusal}
use Rattle.refusals.specs.declared.Refusal.TheVariants.{Length, Scale, Numbers, Lag, State, Malformed, Limit, Samples, Channel}

-- the refusal of a number, to go back by
back : ℕ → Refusal
back n = get_or (Channel ∷ Length ∷ Scale ∷ Numbers ∷ Lag ∷ State ∷ Malformed ∷ Limit ∷ Samples ∷ []) n Channel

back_is : (r : Refusal) → back (number_of r) ≡ r
unfolding number_of back
back_is Length = refl
back_is Scale = refl
back_is Numbers = refl
back_is Lag = refl
back_is State = refl
back_is Malformed = refl
back_is Limit = refl
back_is Samples = refl
back_is Channel = refl

pub number_digit : (r : Refusal) → (1 ≤ number_of r) × (number_of r ≤ 9)
unfolding number_of
number_digit Length = (omega arith, omega arith)
number_digit Scale = (omega arith, omega arith)
number_digit Numbers = (omega arith, omega arith)
number_digit Lag = (omega arith, omega arith)
number_digit State = (omega arith, omega arith)
number_digit Malformed = (omega arith, omega arith)
number_digit Limit = (omega arith, omega arith)
number_digit Samples = (omega arith, omega arith)
number_digit Channel = (omega arith, omega arith)

pub same_number : (r q : Refusal) → number_of r ≡ number_of q → r ≡ q
same_number r q e = sym (back_is r) ∙ ap back e ∙ back_is q

-- and of two checks that find the same
pub same_number_in : (r q : Result Unit Refusal) → number_in r ≡ number_in q → r ≡ q
unfolding number_in
same_number_in (Ok x) (Ok y) e = refl
same_number_in (Ok x) (Err q) e = let d = number_digit q in absurd (omega arith)
same_number_in (Err r) (Ok y) e = let d = number_digit r in absurd (omega arith)
same_number_in (Err r) (Err q) e = ap Err (same_number r q e)
