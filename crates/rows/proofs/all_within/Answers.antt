-- `rows::all_within` tests each entry: what was found and a test of the rest are the test of all. Assumes nothing.
use borrow.Author.Rules.{rules}
use mathlib.Core.Path.{◌≡◌, ap, ◌∙◌}
use mathlib.Core.Bool.{Bool}
use native.Mathlib.Omega.{arith}
use lib.IntN.{ℤ, pos}
use mir.Syntax.{w32}
use mir.Val.{SFits, to_z, of_z}
use mir.Facts.{to_z-of_z}
use Rattle.numbers.specs.Sum.{at}
use Rattle.numbers.proofs.Read.{zreads}
use Rattle.rows.specs.Choice.{within}
use Rattle.rows.proofs.All.{all_more, all_found}
use Rattle.rows.proofs.all_within.Goals as goal

pub loop-z-preserved : goal.loop-z-preserved
loop-z-preserved c =
    let a = c.args.a.now in
    let i = c.loop-z.z-index in
    -- the test, with the ends as the loop holds them
    let t : ℤ → Bool = within (to_z w32 (of_z w32 c.args.lo)) (to_z w32 (of_z w32 c.args.hi)) in
    let f : SFits w32 (at a i) = search rules in
    let e : c.within-ok.result ≡ t (at a i) = c.within-ok.ensures ∙ ap t (to_z-of_z f) in
    all_more t a i (pos 0) c.loop-z.ok _ (omega arith) e ∙ c.loop-z.invariant

pub returns : goal.returns
returns c =
    let f = c.ranges.lo in
    let g = c.ranges.hi in
    let t : ℤ → Bool = within (to_z w32 (of_z w32 c.args.lo)) (to_z w32 (of_z w32 c.args.hi)) in
    simp zreads at (all_found t c.args.a.now c.loop-z.z-index c.loop-z.ok (omega arith) c.loop-z.invariant)
