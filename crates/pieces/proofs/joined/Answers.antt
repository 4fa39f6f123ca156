-- `pieces::joined` stores what is carried, and then the part. Assumes nothing.
use borrow.Author.Rules.{rules}
use mathlib.Core.Path.{◌≡◌}
use Prim.Native.Nat.{◌≤◌}
use native.Mathlib.Omega.{arith}
use lib.ListN.{length, length-take}
use Rattle.pieces.specs.Lines.{kept}
use Rattle.pieces.proofs.Carried.{held_le, joined_is}
use Rattle.pieces.proofs.joined.Goals as goal
use Rattle.pieces.proofs.joined.Goals.{After-held-fill}

line_kept : (c : After-held-fill) → length c.args.f.line ≡ kept
line_kept c = search rules

most : (c : After-held-fill) → c.held-fill.result ≤ kept
most c = omega (arith, held_le c.args.f (line_kept c), c.held-fill.ensures)

fits : (c : After-held-fill) → c.held-fill.result ≤ length c.args.f.line
fits c = let n = line_kept c in let m = most c in omega arith

pub stored-kept-requires : goal.stored-kept-requires
stored-kept-requires c =
    let m = most (goal.at.stored-kept-requires c).After-held-fill in
    let n = length-take c.held-fill.result c.args.f.line in
    omega arith

pub stored-line-requires : goal.stored-line-requires
stored-line-requires c =
    let m = most (goal.at.stored-line-requires c).After-held-fill in
    let n = length-take c.min-k.result c.args.part.now in
    omega (arith, c.min-k.ensures)

pub returns : goal.returns
returns c =
    joined_is c.args.f c.args.part.now c.stored-kept.result c.stored-line.result c.held-fill.result c.min-k.result (line_kept (goal.at.returns c).After-held-fill) c.held-fill.ensures c.min-k.ensures c.stored-kept.ensures c.stored-line.ensures

pub shared_ref_as_front-stored : goal.shared_ref_as_front-stored
shared_ref_as_front-stored c = most (goal.at.shared_ref_as_front-stored c).After-held-fill
