-- The shift to the right of a number of 32 bits, by any amount. Assumes nothing.
use mathlib.Core.Path.{◌∙◌}
use mir.Syntax.{w32}
use Rattle.numbers.proofs.Read.{back, zreads}
use Rattle.operations.proofs.Shift.{down_is}
use Rattle.operations.proofs.I32Word.down.Goals as goal

pub returns : goal.returns
returns c = let f = c.ranges.self in back w32 c.unbounded_shr.type_inv ∙ (simp zreads at c.unbounded_shr.ensures) ∙ down_is w32 c.args.self c.args.k f
