-- `energy::scaled` gives one autocorrelation in 13 bits: the top half, and three bits less. Assumes nothing.
use Rattle.std.proofs.Common.{rules}
use mir.Facts.{to_z-of_z}
use mir.Syntax.{w16, w32}
use Rattle.operations.specs.Operations.{◌<<◌}
use Rattle.operations.proofs.Laws.{right_again}
use Rattle.energy.proofs.scaled.Goals as goal

pub returns : goal.returns
returns c = let e = right_again w32 w16 (c.args.x << c.args.normacf) 16 3 in search (rules, to_z-of_z)
