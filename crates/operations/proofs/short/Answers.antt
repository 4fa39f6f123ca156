-- `operations::short` gives the low 16 bits: what is above them is shifted out, and the rest shifted back. Assumes nothing.
use mathlib.Core.Path.{ap, ◌∙◌}
use lib.IntN.{ℤ}
use lib.Signed.{shr_z}
use mir.Syntax.{w16, w32}
use mir.Val.{to_z, of_z}
use mir.Facts.{to_z-of_z}
use Rattle.numbers.proofs.Read.{back16_32}
use Rattle.numbers.proofs.Wrap.{shl_is}
use Rattle.operations.specs.Operations.{short}
use Rattle.operations.proofs.Shift.{low_fits, low_is}
use Rattle.operations.proofs.short.Goals as goal

pub returns : goal.returns
unfolding short
returns c =
    let x = c.args.x in
    ap (λ (z : ℤ). to_z w16 (of_z w16 (to_z w32 (of_z w32 (shr_z z 65536))))) (shl_is w32 16 c.ranges.x)
    ∙ ap (λ (z : ℤ). to_z w16 (of_z w16 z)) (back16_32 (low_fits x))
    ∙ to_z-of_z (low_fits x)
    ∙ low_is x
