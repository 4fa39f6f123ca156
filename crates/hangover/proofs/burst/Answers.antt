-- `hangover::burst` counts the raw speech in a row. Assumes nothing.
use mathlib.Core.Path.{◌∙◌}
use mir.Syntax.{w16}
use Rattle.numbers.proofs.Read.{back, zreads}
use Rattle.rows.specs.Choice.{IF◌THEN◌ELSE◌}
use Rattle.hangover.specs.Hangover.{burst_of}
use Rattle.hangover.proofs.burst.Goals as goal

pub returns-then-vvad : goal.returns-then-vvad
unfolding burst_of IF◌THEN◌ELSE◌
returns-then-vvad c = let f = c.ranges.burstcount in rw c.if-vvad.true (back w16 c.add.type_inv ∙ (simp zreads at c.add.ensures))

pub returns-else-vvad : goal.returns-else-vvad
unfolding burst_of IF◌THEN◌ELSE◌
returns-else-vvad c = rw c.if-vvad.false
