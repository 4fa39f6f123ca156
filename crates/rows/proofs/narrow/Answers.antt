-- `rows::narrow` tests each entry: what was found and a test of the rest are the test of all. Assumes nothing.
use borrow.Author.Rules.{rules}
use mathlib.Core.Path.{◌≡◌, ap, ◌∙◌}
use native.Mathlib.Omega.{arith}
use lib.IntN.{pos, negsuc}
use mir.Syntax.{w16}
use mir.Val.{SFits}
use mir.Facts.{to_z-of_z}
use Rattle.numbers.specs.Sum.{at}
use Rattle.rows.specs.Choice.{within}
use Rattle.rows.specs.Rows.{thirteen}
use Rattle.rows.proofs.All.{all_more, all_found}
use Rattle.rows.proofs.narrow.Goals as goal

pub loop-x-preserved : goal.loop-x-preserved
unfolding thirteen
loop-x-preserved c =
    let a = c.args.a.now in
    let i = c.loop-x.x-index in
    let f : SFits w16 (at a i) = search rules in
    let e : c.short_within-ok.result ≡ thirteen (at a i) = c.short_within-ok.ensures ∙ ap (within (negsuc 4095) (pos 4095)) (to_z-of_z f) in
    all_more thirteen a i (pos 0) c.loop-x.ok _ (omega arith) e ∙ c.loop-x.invariant

pub returns : goal.returns
returns c = all_found thirteen c.args.a.now c.loop-x.x-index c.loop-x.ok (omega arith) c.loop-x.invariant
