-- The shift to the left of a number of 16 bits, by any amount. Assumes nothing.
use mathlib.Core.Path.{◌∙◌}
use mir.Syntax.{w16}
use Rattle.numbers.proofs.Read.{back, zreads}
use Rattle.operations.proofs.Shift.{up_is}
use Rattle.operations.proofs.I16Word.up.Goals as goal

pub returns : goal.returns
returns c = let f = c.ranges.self in back w16 c.unbounded_shl.type_inv ∙ (simp zreads at c.unbounded_shl.ensures) ∙ up_is w16 c.args.self c.args.k f
