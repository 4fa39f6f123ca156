-- `pairs::greater` compares as 6.7 does: the derived order is that of the fields, one after the other. Assumes nothing.
use mathlib.Core.Path.{◌∙◌}
use Rattle.pairs.proofs.Order.{derived}
use Rattle.pairs.proofs.greater.Goals as goal

pub returns : goal.returns
returns c = c.gt.ensures ∙ derived c.args.a c.args.b
