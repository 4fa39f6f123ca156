-- `lines::digit` adds to the code of 0, or to that of A less ten. Assumes nothing.
use Rattle.std.proofs.Common.{arith, le-ltb, lt-ltb}
use Rattle.rows.specs.Choice.{IF◌THEN◌ELSE◌}
use Rattle.lines.specs.Hex.{digit_of}
use Rattle.lines.proofs.digit.Goals as goal

pub returns-then-n-lt10 : goal.returns-then-n-lt10
unfolding digit_of IF◌THEN◌ELSE◌
returns-then-n-lt10 c = rw (lt-ltb c.args.n 10 c.if-n-lt10.true)

pub returns-else-n-lt10 : goal.returns-else-n-lt10
unfolding digit_of IF◌THEN◌ELSE◌
returns-else-n-lt10 c = rw (le-ltb c.args.n 10 (omega arith)) (omega arith)
