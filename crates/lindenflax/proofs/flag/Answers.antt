-- `lindenflax::flag` is set for 1. Assumes nothing.
use mathlib.Core.Path.{◌≡◌, sym, ◌∙◌}
use native.Mathlib.Omega.{arith}
use borrow.Author.Tests.{eqb-true, eqb-false}
use lib.Dec.{eqb}
use lib.IntN.{pos}
use mir.Syntax.{w32}
use mir.Val.{of_z}
use Rattle.numbers.proofs.Magnitude.{abs_fits}
use Rattle.numbers.proofs.Read.{same_bits, other_bits}
use Rattle.rows.proofs.Choice.{either, eqZ_yes, eqZ_no}
use Rattle.lindenflax.specs.Run.{flag_of}
use Rattle.lindenflax.proofs.flag.Goals as goal

pub returns : goal.returns
unfolding flag_of
returns c =
    let bits = of_z w32 c.args.x in
    either (eqb bits 1 ≡ flag_of c.args.x) (eqb bits 1) (λ t. t ∙ sym (eqZ_yes (same_bits w32 c.ranges.x (abs_fits w32 (pos 1) (omega arith)) (eqb-true bits 1 t))))
    (λ t. t ∙ sym (eqZ_no (other_bits w32 (eqb-false bits 1 t))))
