-- Operations whose exact result is in the range, in parts for `omega`: bind one by `let` for each operation, and go on as if it were plain.
-- Assumes nothing.
use mathlib.Core.Path.{◌≡◌}
use Prim.Native.Nat.{ℕ, ◌+◌, ◌*◌, ◌^◌, ◌<◌}
use native.Mathlib.Omega.{arith}
use lib.IntN.{ℤ, pos, ◌+ℤ◌, ◌-ℤ◌, ◌*ℤ◌}
use lib.Pow.{pow_pos}
use mir.Syntax.{Width, w16, w32}
use mir.Val.{SFits}
use Rattle.numbers.specs.Floor.{residue}
use Rattle.numbers.proofs.Parts.{up, down, same, plus, minus, times}
use Rattle.numbers.proofs.Floor.{parts, residue_lt}
use Rattle.operations.specs.Operations.{add, sub, l_add, shift_left, shift_right, short}
use Rattle.operations.proofs.Laws.{add_exact, sub_exact, l_add_exact, left_exact, short_exact}

pub add_parts : (x y : ℤ) → SFits w16 (x +ℤ y) → up (add x y) + down x + down y ≡ down (add x y) + up x + up y
add_parts x y f = omega (arith, same (add_exact x y f), plus x y)

pub sub_parts : (x y : ℤ) → SFits w16 (x -ℤ y) → up (sub x y) + down x + up y ≡ down (sub x y) + up x + down y
sub_parts x y f = omega (arith, same (sub_exact x y f), minus x y)

pub l_add_parts : (x y : ℤ) → SFits w32 (x +ℤ y) → up (l_add x y) + down x + down y ≡ down (l_add x y) + up x + up y
l_add_parts x y f = omega (arith, same (l_add_exact x y f), plus x y)

pub short_parts : {x : ℤ} → SFits w16 x → (up (short x) ≡ up x) × (down (short x) ≡ down x)
short_parts f = same (short_exact f)

module _ (w : Width) (x : ℤ) (n : ℕ) where
  pub left_parts : SFits w (x *ℤ pos (2 ^ n)) → (up (shift_left w x (pos n)) ≡ up x * 2 ^ n) × (down (shift_left w x (pos n)) ≡ down x * 2 ^ n)
  left_parts f =
      let e = same (left_exact w x n f) in
      let t = times x (pos (2 ^ n)) in
      (omega arith, omega arith)

  pub right_parts : (up x + 2 ^ n * down (shift_right w x (pos n)) ≡ 2 ^ n * up (shift_right w x (pos n)) + down x + residue x (2 ^ n)) × (residue x (2 ^ n) < 2 ^ n)
  unfolding shift_right
  right_parts = (parts x (2 ^ n) (pow_pos n), residue_lt x (2 ^ n) (pow_pos n))
