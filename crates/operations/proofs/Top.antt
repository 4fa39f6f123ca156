-- The top half of a long variable fits a short one, and is read back from it: `( .. >> n ) as i16`, with n from 16 on. Assumes nothing.
use mathlib.Core.Path.{◌≡◌, sym, ◌∙◌, subst}
use Prim.Native.Nat.{ℕ, ◌^◌, ◌≤◌}
use native.Mathlib.Nat.{div-lt_iff_lt-mul, mul-le-mul_left}
use native.Mathlib.Omega.{arith}
use lib.IntN.{ℤ, pos}
use lib.Pow.{pow_mono, pow_pos}
use mir.Syntax.{w16, w32}
use mir.Val.{SFits, to_z, of_z}
use mir.Facts.{to_z-of_z}
use Rattle.numbers.proofs.Read.{wider}
use Rattle.numbers.proofs.Floor.{floor_mag}
use Rattle.operations.specs.Operations.{◌>>◌, shift_right}

pub top_short : (x : ℤ) (n : ℕ) → 16 ≤ n → SFits w32 x → SFits w16 (x >> pos n)
unfolding shift_right
top_short x n h f =
    record { sfits = rw (floor_mag x (2 ^ n)) ((div-lt_iff_lt-mul (pow_pos n)).1 (omega (arith, f.sfits, mul-le-mul_left (2 ^ 15) (pow_mono h)))) }

-- of a call's result
module _ {r : ℤ} (x : ℤ) (n : ℕ) (h : 16 ≤ n) (f : SFits w32 x) (e : r ≡ x >> pos n) where
  pub top_fits : SFits w16 r
  top_fits = subst (SFits w16) (sym e) (top_short x n h f)

  read : to_z w32 (of_z w32 r) ≡ r
  read = to_z-of_z (wider w16 w32 tt top_fits)

  pub top_need : SFits w16 (to_z w32 (of_z w32 r))
  top_need = subst (SFits w16) (sym read) top_fits

  pub top_back : to_z w16 (of_z w16 (to_z w32 (of_z w32 r))) ≡ (x >> pos n)
  top_back = to_z-of_z top_need ∙ read ∙ e
