-- `Player::finish` plays what is carried as a line, if anything is, where enough output is lent, and else refuses it. Assumes nothing.
use mathlib.Core.Path.{◌≡◌, sym, ap, ap₂, ◌∙◌}
use mathlib.Core.Bool.{Bool, true, false}
use mathlib.Core.List.{List, []}
use Prim.Native.Nat.{ℕ, ◌*◌, min}
use native.Mathlib.Omega.{arith}
use borrow.Author.Tests.{leb-true}
use lib.Dec.{leb}
use lib.ListN.{length}
use Rattle.std.specs.Prelude.{Ok}
use Rattle.rows.specs.Choice.{IF◌THEN◌ELSE◌}
use Rattle.pieces.specs.declared.Finder.{Finder}
use Rattle.pieces.specs.Lines.{lines_of}
use Rattle.pieces.specs.Cut.{finder_of, held_of}
use Rattle.pieces.specs.Put.{put_of}
use Rattle.player.specs.declared.Player.{Player}
use Rattle.player.specs.declared.Ran.{Ran}
use Rattle.player.specs.Played.{beside_of, heard_of, texts_of, ran_of, start_of, carried_of, last_written, last_player, finish_of, ended_of, out_ended}
use Rattle.player.proofs.Room.{carried_count}
use Rattle.player.proofs.Player.finish.Goals as goal

-- whether there is room, by how many lines are carried
room_as : {H : Type 0} (p : Player H) (k m n : ℕ) (t u : Bool) → m ≡ min (length (held_of p.finder)) 1 → t ≡ leb (k * m) n → t ≡ u → leb (k * length (carried_of p)) n ≡ u
room_as p k m n t u e q r = ap (λ (x : ℕ). leb (k * x) n) (carried_count p ∙ sym e) ∙ (sym q ∙ r)

module _ {H : Type 0} (next : H → List ℕ → List ℕ → H) (text : H → List ℕ → List ℕ → List ℕ) (k : ℕ) (p : Player H) (o l : List ℕ) (e : l ≡ held_of p.finder) (t : leb (k * length (carried_of p)) (length o) ≡ true) where
  count : (r : Ran) → r ≡ ran_of next text p.hearer [] l 0 → r.wrote ≡ length (last_written next text p)
  unfolding last_written carried_of ran_of
  count r q =
      let a = ap (λ (x : Ran). x.wrote) q in
      let b = ap (λ (x : List ℕ). length (texts_of next text (beside_of p.hearer []) (lines_of x))) e in
      omega arith

  played_value : (r : Ran) → r ≡ ran_of next text p.hearer [] l 0 → Ok r.wrote ≡ finish_of next text k p (length o)
  unfolding finish_of IF◌THEN◌ELSE◌
  played_value r q = rw t (ap (λ (n : ℕ). Ok n) (count r q))

  played_next : (h : H) (f : Finder) → h ≡ (heard_of next (beside_of p.hearer []) (lines_of l)).state → f ≡ finder_of [] → record { hearer = h; finder = f } ≡ ended_of next k p (length o)
  unfolding ended_of IF◌THEN◌ELSE◌ last_player carried_of start_of
  played_next h f q s = rw t (ap₂ (λ (x : H) (y : Finder). record { hearer = x; finder = y }) (q ∙ ap (λ (x : List ℕ). (heard_of next (beside_of p.hearer []) (lines_of x)).state) e) s)

  played_out : (o' : List ℕ) → o' ≡ put_of o 0 (texts_of next text (beside_of p.hearer []) (lines_of l)) → o' ≡ out_ended next text k p o
  unfolding out_ended IF◌THEN◌ELSE◌ last_written carried_of
  played_out o' q = rw t (q ∙ ap (λ (x : List ℕ). put_of o 0 (texts_of next text (beside_of p.hearer []) (lines_of x))) e)

pub run-last-requires : goal.run-last-requires
unfolding carried_of
run-last-requires g c =
    let a = c.args in
    let e = c.carried-line.ensures in
    let t = room_as a.self.now g.H.Hearer.MOST _ (length a.out.now) _ true (c.min.ensures ∙ ap (λ (l : List ℕ). min (length l) 1) e) c.room.ensures c.if-not-room.false in
    let h = leb-true _ _ t in
    let f = ap (λ (l : List ℕ). g.H.Hearer.MOST * length (lines_of l)) e in
    omega arith

pub returns-then-not-room : goal.returns-then-not-room
unfolding finish_of ended_of out_ended IF◌THEN◌ELSE◌
returns-then-not-room g c =
    let t = room_as c.args.self.now g.H.Hearer.MOST _ (length c.args.out.now) _ false (c.min.ensures ∙ ap (λ (l : List ℕ). min (length l) 1) c.carried-line.ensures) c.room.ensures c.if-not-room.true in
    record { value = rw t; player_after = rw t; out_after = rw t }

pub returns : goal.returns
returns g c =
    let h = g.H.Hearer in
    let p = c.args.self.now in
    let o = c.args.out.now in
    let e = c.carried-line.ensures in
    let t = room_as p h.MOST _ (length o) _ true (c.min.ensures ∙ ap (λ (l : List ℕ). min (length l) 1) e) c.room.ensures c.if-not-room.false in
    record {
      value = played_value h.next h.text h.MOST p o _ e t c.run-last.result c.run-last.ensures.value;
      player_after = played_next h.next h.text h.MOST p o _ e t c.run-last.new.hearer c.start-self.result c.run-last.ensures.hearer_after c.start-self.ensures;
      out_after = played_out h.next h.text h.MOST p o _ e t c.run-last.new.out c.run-last.ensures.out_after;
    }
