-- The answer to a frame: document 01's number, 0 for an accepted one, the flags, what 6.4 finds, the energies, and the state after it. Assumes nothing.
use Rattle.std.specs.Prelude.{Bool, ℕ}
use Rattle.pairs.specs.declared.Pair.{Pair}
use Rattle.state.specs.declared.State.{State}

pub record Answer : Type 0 where
  pub refusal : ℕ
  pub vad : Bool
  pub vvad : Bool
  pub stat : Bool
  pub acf0 : Pair
  pub pvad : Pair
  pub next : State
