-- `averages::inside` gives the pointer, or 0 for one past the last frame. Assumes nothing.
use Rattle.std.proofs.Common.{arith}
use Rattle.std.proofs.lemmas.Grind.{common_steps}
use Rattle.rows.specs.Choice.{IF◌THEN◌ELSE◌}
use Rattle.averages.specs.Averages.{inside}
use Rattle.averages.proofs.inside.Goals as goal

pub returns-then-pt-last-clause-value : goal.returns-then-pt-last-clause-value
unfolding inside IF◌THEN◌ELSE◌
returns-then-pt-last-clause-value c = grind (arith, common_steps)

pub returns-else-pt-last-clause-value : goal.returns-else-pt-last-clause-value
unfolding inside IF◌THEN◌ELSE◌
returns-else-pt-last-clause-value c = grind (arith, common_steps)
