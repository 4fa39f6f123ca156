-- What the totals make of lines that they hear is what they make of the lines one after the other. Assumes nothing.
use mathlib.Core.Path.{◌≡◌, refl}
use mathlib.Core.List.{List, []}
use Prim.Native.Nat.{ℕ}
use Rattle.samples.specs.Beside.{Beside, next_beside, text_beside}
use Rattle.player.specs.Played.{beside_of, heard_of}
use Rattle.player.proofs.Calls.{state_as}
use Rattle.pieces.proofs.Folds.{silent}
use Rattle.totals.specs.declared.Tally.{Tally}
use Rattle.totals.specs.Fed.{tallied_of, ran_of}
use Rattle.totals.specs.Hears.{next_of, text_of}

pub heard_ran : (t : Tally) (ls : List (List ℕ)) → (heard_of next_of (beside_of t []) ls).state ≡ ran_of t ls
unfolding heard_of ran_of next_beside
heard_ran t ls = state_as (next_beside next_of) (text_beside text_of) tallied_of silent (λ (b : Beside Tally). b.state) (λ b l. refl) (beside_of t []) ls
