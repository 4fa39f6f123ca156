-- `averages::next` gives the pointer of the next frame. Assumes nothing.
use Rattle.std.proofs.Common.{arith}
use Rattle.std.proofs.lemmas.Grind.{common_steps}
use Rattle.rows.specs.Choice.{IF◌THEN◌ELSE◌}
use Rattle.averages.specs.Averages.{next_of}
use Rattle.averages.proofs.next.Goals as goal

pub returns-then-pt-last : goal.returns-then-pt-last
unfolding next_of IF◌THEN◌ELSE◌
returns-then-pt-last c = grind (arith, common_steps)

pub returns-else-pt-last : goal.returns-else-pt-last
unfolding next_of IF◌THEN◌ELSE◌
returns-else-pt-last c = grind (arith, common_steps)
