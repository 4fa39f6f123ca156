-- `lindenflax::narrow` tests each number. Assumes nothing.
use borrow.Author.Rules.{rules}
use mir.Syntax.{w32}
use mir.Val.{SFits}
use Rattle.std.proofs.Math.Bool.{and_assoc}
use Rattle.numbers.specs.Sum.{at}
use Rattle.numbers.proofs.Read.{zreads}
use Rattle.lindenflax.specs.Run.{narrow_of}
use Rattle.lindenflax.proofs.narrow.Goals as goal

pub returns : goal.returns
unfolding narrow_of
returns c =
    let f37 : SFits w32 (at c.args.run.now 37) = search rules in
    let f74 : SFits w32 (at c.args.run.now 74) = search rules in
    let f83 : SFits w32 (at c.args.run.now 83) = search rules in
    let f84 : SFits w32 (at c.args.run.now 84) = search rules in
    simp (c.shorts.ensures, c.shorts-2.ensures, c.within.ensures, c.within-2.ensures, c.within-3.ensures, c.within-4.ensures, and_assoc, zreads)
