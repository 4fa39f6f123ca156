-- `why::flag_reason` asks for energy first. Assumes nothing.
use Rattle.rows.specs.Choice.{IF◌THEN◌ELSE◌}
use Rattle.why.specs.Explain.{flag_reason}
use Rattle.why.proofs.flag_reason.Goals as goal

pub returns-then-vvad : goal.returns-then-vvad
unfolding flag_reason IF◌THEN◌ELSE◌
returns-then-vvad c = rw c.if-vvad.true

pub returns-then-vad : goal.returns-then-vad
unfolding flag_reason IF◌THEN◌ELSE◌
returns-then-vad c = rw (c.if-vvad.false, c.if-vad.true)

pub returns : goal.returns
unfolding flag_reason IF◌THEN◌ELSE◌
returns c = rw (c.if-vvad.false, c.if-vad.false)
