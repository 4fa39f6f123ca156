-- `pieces::held` looks for a line feed in what is carried. Assumes nothing.
use Rattle.std.proofs.Common.{◌∙◌, rules}
use Rattle.pieces.proofs.Carried.{held_some}
use Rattle.pieces.proofs.held.Goals as goal

pub returns : goal.returns
returns c = c.find.ensures ∙ held_some c.args.f c.min.result (search rules) c.min.ensures
