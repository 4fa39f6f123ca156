-- `Hung::run_down` takes one frame off a running hangover. Assumes nothing.
use borrow.Author.Rules.{rules}
use mathlib.Core.Path.{◌≡◌}
use mathlib.Core.Bool.{true, false}
use lib.IntN.{pos}
use lib.Signed.{le_z}
use mir.Syntax.{w16}
use mir.Val.{SFits}
use Rattle.numbers.proofs.Parts.{zarith}
use Rattle.numbers.proofs.Read.{ranged, zreads}
use Rattle.operations.specs.Operations.{sub}
use Rattle.rows.specs.Choice.{IF◌THEN◌ELSE◌}
use Rattle.hangover.specs.Hangover.{run_down_of}
use Rattle.hangover.proofs.Hung.run_down.Goals as goal

pub returns-then-self-ge0 : goal.returns-then-self-ge0
unfolding run_down_of IF◌THEN◌ELSE◌
returns-then-self-ge0 c =
    let f : SFits w16 c.args.self.burstcount = search rules in
    let g : SFits w16 c.args.self.hangcount = search rules in
    let k = ranged w16 c.sub.result c.sub.type_inv in
    let h = simp zreads at c.if-self-ge0.true in
    let t : le_z (pos 0) c.args.self.hangcount ≡ true = omega zarith in
    let e : c.sub.result ≡ sub c.args.self.hangcount (pos 1) = simp zreads at c.sub.ensures in
    simp zreads (rw (t, e))

pub returns-else-self-ge0 : goal.returns-else-self-ge0
unfolding run_down_of IF◌THEN◌ELSE◌
returns-else-self-ge0 c =
    let g : SFits w16 c.args.self.hangcount = search rules in
    let h = simp zreads at c.if-self-ge0.false in
    let t : le_z (pos 0) c.args.self.hangcount ≡ false = omega zarith in
    rw t
