-- What an order is answered: refusal number, flags and energies, as of a step. The next state is in the bank. Assumes nothing.
use Rattle.std.specs.Prelude.{Bool, ℕ}
use Rattle.pairs.specs.declared.Pair.{Pair}

pub record Called : Type 0 where
  pub refusal : ℕ
  pub vad : Bool
  pub vvad : Bool
  pub stat : Bool
  pub acf0 : Pair
  pub pvad : Pair
