-- The shift to the right of a number of 16 bits, by any amount. Assumes nothing.
use mathlib.Core.Path.{◌∙◌}
use mir.Syntax.{w16}
use Rattle.numbers.proofs.Read.{back, zreads}
use Rattle.operations.proofs.Shift.{down_is}
use Rattle.operations.proofs.I16Word.down.Goals as goal

pub returns : goal.returns
returns c = let f = c.ranges.self in back w16 c.unbounded_shr.type_inv ∙ (simp zreads at c.unbounded_shr.ensures) ∙ down_is w16 c.args.self c.args.k f
