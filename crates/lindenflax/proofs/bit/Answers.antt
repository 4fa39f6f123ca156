-- `lindenflax::bit` gives a flag as a number. Assumes nothing.
use mathlib.Core.Path.{◌≡◌, refl, ◌∙◌}
use mathlib.Core.Bool.{Bool, true, false}
use lib.IntN.{pos}
use mir.Syntax.{w32}
use mir.Val.{bool_byte}
use Rattle.rows.specs.Choice.{IF◌THEN◌ELSE◌}
use Rattle.numbers.proofs.Read.{back}
use Rattle.lindenflax.specs.Run.{bit_of}
use Rattle.lindenflax.proofs.bit.Goals as goal

byte_is : (b : Bool) → pos (bool_byte b) ≡ bit_of b
unfolding bit_of IF◌THEN◌ELSE◌
byte_is true = refl
byte_is false = refl

pub returns : goal.returns
returns c = back w32 {z = c.from.result} c.from.type_inv ∙ (c.from.ensures ∙ byte_is c.args.flag)
