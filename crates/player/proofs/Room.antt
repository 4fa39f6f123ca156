-- Whether the lent output has k bytes for each of so many: the product is exact up to the largest number, and no output is as long as that. Assumes nothing.
use mathlib.Core.Path.{◌≡◌, sym, ap, ◌∙◌}
use mathlib.Core.List.{[], ◌∷◌}
use Prim.Native.Nat.{ℕ, ◌*◌, ◌<◌, ◌≤◌, min}
use native.Mathlib.Omega.{arith}
use native.Mathlib.Nat.{mul-le-mul_left}
use borrow.Author.Tests.{lt-leb, le-leb, leb-true, leb-false, eqb-true, eqb-false}
use lib.Dec.{eqb, leb}
use lib.ListN.{length}
use Rattle.rows.proofs.Choice.{either}
use Rattle.pieces.specs.Cut.{held_of}
use Rattle.pieces.proofs.Found.{no_line, one_line}
use Rattle.pieces.proofs.Carried.{held_plain}
use Rattle.player.specs.declared.Player.{Player}
use Rattle.player.specs.Played.{carried_of}

exact : (x w n : ℕ) → w ≡ min x 18446744073709551615 → n < 18446744073709551615 → w ≤ n → x ≤ n
exact x w n e s h = omega arith

beyond : (x w n : ℕ) → w ≡ min x 18446744073709551615 → n < w → n < x
beyond x w n e h = omega arith

pub room_is : (k m p w n : ℕ) → m ≡ k → w ≡ min (m * p) 18446744073709551615 → n < 18446744073709551615 → leb w n ≡ leb (k * p) n
room_is k m p w n e q s =
    let h = q ∙ ap (λ (x : ℕ). min (x * p) 18446744073709551615) e in
    either (leb w n ≡ leb (k * p) n) (leb w n)
    (λ t. t ∙ sym (le-leb (k * p) n (exact (k * p) w n h s (leb-true w n t))))
    (λ t. t ∙ sym (lt-leb (k * p) n (beyond (k * p) w n h (leb-false w n t))))

-- ---- the end: what is carried is one line, or none
the_one : (n h : ℕ) → n ≡ min h 1 → n ≤ 1
the_one n h e = omega arith

module _ {H : Type 0} (p : Player H) where
  pub none_carried : length (held_of p.finder) ≡ 0 → carried_of p ≡ []
  unfolding carried_of
  none_carried h = no_line (held_of p.finder) h

  pub one_carried : 0 < length (held_of p.finder) → carried_of p ≡ held_of p.finder ∷ []
  unfolding carried_of
  one_carried h = let q = held_plain p.finder in one_line (held_of p.finder) h (omega arith)

  pub carried_count : length (carried_of p) ≡ min (length (held_of p.finder)) 1
  carried_count =
      either (length (carried_of p) ≡ min (length (held_of p.finder)) 1) (eqb (length (held_of p.finder)) 0)
      (λ t. let z = eqb-true (length (held_of p.finder)) 0 t in ap length (none_carried z) ∙ omega arith)
      (λ t. let z = eqb-false (length (held_of p.finder)) 0 t in ap length (one_carried (omega (arith, z))) ∙ omega (arith, z))

  pub end_room : (k n : ℕ) → k ≤ n → k * length (carried_of p) ≤ n
  end_room k n h =
      let c = carried_count in
      let m = mul-le-mul_left k (the_one (length (carried_of p)) (length (held_of p.finder)) c) in
      omega arith
