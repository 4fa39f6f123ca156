-- `listener::flag` is 1 or 0 as a character. Assumes nothing.
use mathlib.Core.Path.{◌≡◌, refl, ap, ◌∙◌}
use mathlib.Core.Bool.{Bool, true, false}
use Prim.Native.Nat.{◌+◌}
use mir.Val.{bool_byte}
use Rattle.rows.specs.Choice.{IF◌THEN◌ELSE◌}
use Rattle.listener.specs.Said.{flag_of}
use Rattle.listener.proofs.flag.Goals as goal

byte_is : (b : Bool) → 48 + bool_byte b ≡ flag_of b
unfolding flag_of IF◌THEN◌ELSE◌
byte_is true = refl
byte_is false = refl

pub returns : goal.returns
returns c = ap (λ n. 48 + n) c.from.ensures ∙ byte_is c.args.b
