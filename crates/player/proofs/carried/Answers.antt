-- `player::carried` is so much of the buffer as is carried. Assumes nothing.
use borrow.Author.Rules.{rules}
use mathlib.Core.Path.{◌≡◌}
use native.Mathlib.Omega.{arith}
use lib.ListN.{length}
use Rattle.pieces.specs.Lines.{kept}
use Rattle.pieces.proofs.Carried.{held_le, held_take}
use Rattle.player.proofs.carried.Goals as goal

pub shared_ref_as_front-result : goal.shared_ref_as_front-result
shared_ref_as_front-result c =
    let n : length c.args.finder.now.line ≡ kept = search rules in
    let h = held_le c.args.finder.now n in
    let e = c.held.ensures in
    omega arith

pub returns : goal.returns
returns c = held_take c.args.finder.now c.held.result c.held.ensures
