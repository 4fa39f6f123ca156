-- `Player::feed` plays the piece where enough output is lent, and else refuses it. Assumes nothing.
use mathlib.Core.Path.{sym, ap, ◌∙◌}
use Prim.Native.Nat.{ℕ}
use borrow.Author.Tests.{leb-true}
use Rattle.std.specs.Prelude.{Ok}
use Rattle.rows.specs.Choice.{IF◌THEN◌ELSE◌}
use Rattle.player.specs.Played.{fed_of, player_after, out_after}
use Rattle.player.proofs.Player.feed.Goals as goal

pub play-requires : goal.play-requires
play-requires g c = leb-true _ _ (sym c.room.ensures ∙ c.if-not-room.false)

pub returns-then-not-room : goal.returns-then-not-room
unfolding fed_of player_after out_after IF◌THEN◌ELSE◌
returns-then-not-room g c = let h = sym c.room.ensures ∙ c.if-not-room.true in record { value = rw h; player_after = rw h; out_after = rw h }

pub returns : goal.returns
unfolding fed_of player_after out_after IF◌THEN◌ELSE◌
returns g c =
    let h = sym c.room.ensures ∙ c.if-not-room.false in
    record { value = rw h (ap (λ (n : ℕ). Ok n) c.play.ensures.value); player_after = rw h c.play.ensures.player_after; out_after = rw h c.play.ensures.out_after }
