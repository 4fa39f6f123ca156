-- `runner::numeral` is a number below 10 as a character. Assumes nothing.
use borrow.Author.Tests.{lt-ltb, le-ltb}
use Rattle.rows.specs.Choice.{IF◌THEN◌ELSE◌}
use Rattle.runner.specs.Said.{numeral_of}
use Rattle.runner.proofs.numeral.Goals as goal

pub returns-then-n-lt10 : goal.returns-then-n-lt10
unfolding numeral_of IF◌THEN◌ELSE◌
returns-then-n-lt10 c = rw (lt-ltb _ 10 c.if-n-lt10.true)

pub returns-else-n-lt10 : goal.returns-else-n-lt10
unfolding numeral_of IF◌THEN◌ELSE◌
returns-else-n-lt10 c = rw (le-ltb _ 10 c.if-n-lt10.false)
