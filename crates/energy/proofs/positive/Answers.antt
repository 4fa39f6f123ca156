-- `energy::positive` puts 1 in place of a number that is not positive. Assumes nothing.
use Rattle.std.proofs.Common.{arith}
use Rattle.std.proofs.lemmas.Int.{ints}
use Rattle.rows.specs.Choice.{IF◌THEN◌ELSE◌}
use Rattle.energy.specs.Energy.{positive}
use Rattle.energy.proofs.positive.Goals as goal

pub returns : goal.returns
unfolding positive IF◌THEN◌ELSE◌
returns c = grind (arith, ints)
