-- `Player::room` compares a product that is exact up to the largest number. Assumes nothing.
use borrow.Author.Rules.{rules}
use Prim.Native.Nat.{◌<◌}
use lib.ListN.{length}
use Rattle.player.proofs.Room.{room_is}
use Rattle.player.proofs.Player.room.Goals as goal

pub returns : goal.returns
returns g c =
    let s : length c.args.out.now < 18446744073709551615 = search rules in
    room_is g.H.Hearer.MOST _ _ _ _ c.MOST.ensures c.saturating_mul.ensures s
