-- `averages::of_quarters` tests the range of each number. Assumes nothing.
use Rattle.averages.specs.Quarters.{quarter}
use Rattle.averages.proofs.of_quarters.Goals as goal

pub returns : goal.returns
unfolding quarter
returns c = c.all_within.ensures
