-- `why::latest_after` is this frame, where the burst is full. Assumes nothing.
use mathlib.Core.Path.{◌≡◌}
use mathlib.Core.Bool.{true, false}
use lib.Signed.{le_z}
use Rattle.numbers.proofs.Read.{zreads}
use Rattle.rows.specs.Choice.{IF◌THEN◌ELSE◌}
use Rattle.hangover.specs.Hangover.{BURSTCONST}
use Rattle.why.specs.Explain.{latest_after}
use Rattle.why.proofs.latest_after.Goals as goal

pub returns-then-burstcount-ge-BURSTCONST : goal.returns-then-burstcount-ge-BURSTCONST
unfolding latest_after IF◌THEN◌ELSE◌
returns-then-burstcount-ge-BURSTCONST c =
    let f = c.ranges.burstcount in
    let t : le_z BURSTCONST c.args.burstcount ≡ true = simp zreads at c.if-burstcount-ge-BURSTCONST.true in
    rw t

pub returns : goal.returns
unfolding latest_after IF◌THEN◌ELSE◌
returns c =
    let f = c.ranges.burstcount in
    let t : le_z BURSTCONST c.args.burstcount ≡ false = simp zreads at c.if-burstcount-ge-BURSTCONST.false in
    rw t
