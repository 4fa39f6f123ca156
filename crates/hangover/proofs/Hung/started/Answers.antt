-- `Hung::started` starts the hangover anew after a long burst. Assumes nothing.
use borrow.Author.Rules.{rules}
use mathlib.Core.Path.{◌≡◌}
use mathlib.Core.Bool.{true, false}
use lib.Signed.{le_z}
use mir.Syntax.{w16}
use mir.Val.{SFits}
use Rattle.numbers.proofs.Read.{zreads}
use Rattle.rows.specs.Choice.{IF◌THEN◌ELSE◌}
use Rattle.hangover.specs.Hangover.{BURSTCONST, started_of}
use Rattle.hangover.proofs.Hung.started.Goals as goal

pub returns-then-self-ge-BURSTCONST : goal.returns-then-self-ge-BURSTCONST
unfolding started_of IF◌THEN◌ELSE◌
returns-then-self-ge-BURSTCONST c =
    let f : SFits w16 c.args.self.burstcount = search rules in
    let t : le_z BURSTCONST c.args.self.burstcount ≡ true = simp zreads at c.if-self-ge-BURSTCONST.true in
    rw t c.run_down.ensures

pub returns-else-self-ge-BURSTCONST : goal.returns-else-self-ge-BURSTCONST
unfolding started_of IF◌THEN◌ELSE◌
returns-else-self-ge-BURSTCONST c =
    let f : SFits w16 c.args.self.burstcount = search rules in
    let t : le_z BURSTCONST c.args.self.burstcount ≡ false = simp zreads at c.if-self-ge-BURSTCONST.false in
    rw t c.run_down-else-self-ge-BURSTCONST.ensures
