-- The number of each refusal, and of what may be refused. Assumes nothing.
use Rattle.std.specs.Prelude.{ℕ, Result, Ok, Err}
use Rattle.refusals.specs.declared.Refusal.{Refusal}
use Rattle.refusals.specs.declared.Refusal.TheVariants.{Length, Scale, Numbers, Lag, State, Malformed, Limit, Samples, Channel}

-- the table of refusals
unfoldable pub number_of : Refusal → ℕ
number_of Length = 1
number_of Scale = 2
number_of Numbers = 3
number_of Lag = 4
number_of State = 5
number_of Malformed = 6
number_of Limit = 7
number_of Samples = 8
number_of Channel = 9

-- the number of an answer that may be a refusal: 0 for one that is none
unfoldable pub number_in : {A : Type 0} → Result A Refusal → ℕ
number_in (Ok value) = 0
number_in (Err refusal) = number_of refusal
