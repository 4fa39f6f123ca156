-- What a caller may use of the operations, each a law about the definitions: the range of an answer, where it is exact, and the sentences of
-- document 01, 'Arithmetic', one by one. Those on norm stand in `Normal`. Assumes nothing.
use mathlib.Core.Path.{◌≡◌, refl, sym, ap, ◌∙◌}
use Prim.Native.Nat.{ℕ, zero, suc, ◌+◌, ◌*◌, ◌/◌, ◌^◌, ◌<◌, min}
use native.Mathlib.Nat.{div-lt_iff_lt-mul, mul-div_cancel_left, mul-lt-mul_of_pos_right, zero-div, zero-mul}
use native.Mathlib.Omega.{arith}
use lib.IntN.{ℤ, nat_abs, pos, negsuc, neg_ℤ, ◌+ℤ◌, ◌-ℤ◌, ◌*ℤ◌}
use lib.Signed.{shr_z}
use lib.Pow.{pow_pos, shr-shr}
use mir.Syntax.{Width, w16, w32}
use mir.Val.{SFits, bits, hbits}
use Rattle.numbers.specs.Floor.{residue}
use Rattle.numbers.specs.Clamp.{clamp}
use Rattle.numbers.specs.Wrap.{wrap}
use Rattle.numbers.proofs.Parts.{zarith, times}
use Rattle.numbers.proofs.Poly.{v, ◌⊗◌, ring}
use Rattle.numbers.proofs.Magnitude.{abs-*, abs_fits}
use Rattle.numbers.proofs.Floor.{Division, shift, floor_fits}
use Rattle.numbers.proofs.Clamp.{clamp_fits, clamp_in}
use Rattle.numbers.proofs.Wrap.{Congruent, wrap_fits, wrap_congruent, wrap_only, wrap_in}
use Rattle.operations.specs.Operations.{add, sub, l_add, l_sub, mult, mult_r, l_mult, abs, shift_left, shift_right, short, over, div}

-- ---- "Sums and differences saturate at 16 or 32 bits": in the range, and exact where the exact number is in it
pub add_fits : (x y : ℤ) → SFits w16 (add x y)
unfolding add
add_fits x y = clamp_fits w16 (x +ℤ y)

pub add_exact : (x y : ℤ) → SFits w16 (x +ℤ y) → add x y ≡ x +ℤ y
unfolding add
add_exact x y = clamp_in w16 (x +ℤ y)

pub sub_fits : (x y : ℤ) → SFits w16 (sub x y)
unfolding sub
sub_fits x y = clamp_fits w16 (x -ℤ y)

pub sub_exact : (x y : ℤ) → SFits w16 (x -ℤ y) → sub x y ≡ x -ℤ y
unfolding sub
sub_exact x y = clamp_in w16 (x -ℤ y)

pub l_add_fits : (x y : ℤ) → SFits w32 (l_add x y)
unfolding l_add
l_add_fits x y = clamp_fits w32 (x +ℤ y)

pub l_add_exact : (x y : ℤ) → SFits w32 (x +ℤ y) → l_add x y ≡ x +ℤ y
unfolding l_add
l_add_exact x y = clamp_in w32 (x +ℤ y)

pub l_sub_fits : (x y : ℤ) → SFits w32 (l_sub x y)
unfolding l_sub
l_sub_fits x y = clamp_fits w32 (x -ℤ y)

pub l_sub_exact : (x y : ℤ) → SFits w32 (x -ℤ y) → l_sub x y ≡ x -ℤ y
unfolding l_sub
l_sub_exact x y = clamp_in w32 (x -ℤ y)

-- ---- products and magnitudes: only those of -32768 are at the end of the range
pub mult_fits : (x y : ℤ) → SFits w16 (mult x y)
unfolding mult
mult_fits x y = clamp_fits w16 (shr_z (x *ℤ y) (2 ^ 15))

pub mult_r_fits : (x y : ℤ) → SFits w16 (mult_r x y)
unfolding mult_r
mult_r_fits x y = clamp_fits w16 (shr_z (x *ℤ y +ℤ pos 16384) (2 ^ 15))

pub l_mult_fits : (x y : ℤ) → SFits w32 (l_mult x y)
unfolding l_mult
l_mult_fits x y = clamp_fits w32 (x *ℤ y *ℤ pos 2)

pub l_mult_exact : (x y : ℤ) → nat_abs x * nat_abs y < 2 ^ 30 → l_mult x y ≡ x *ℤ y *ℤ pos 2
unfolding l_mult
l_mult_exact x y h = clamp_in w32 (x *ℤ y *ℤ pos 2) (abs_fits w32 (x *ℤ y *ℤ pos 2) (omega (arith, abs-* (x *ℤ y) (pos 2), abs-* x y)))

pub l_mult_nothing : (y : ℤ) → l_mult (pos 0) y ≡ pos 0
l_mult_nothing y = l_mult_exact (pos 0) y (omega (arith, zero-mul (nat_abs y))) ∙ ring (v (pos 0) ⊗ v y ⊗ v (pos 2)) (v (pos 0)) (omega arith)

pub l_mult_comm : (x y : ℤ) → l_mult x y ≡ l_mult y x
unfolding l_mult
l_mult_comm x y = ap (λ (z : ℤ). clamp w32 (z *ℤ pos 2)) (ring (v x ⊗ v y) (v y ⊗ v x) (omega arith))

pub abs_range : (x : ℤ) → SFits w16 (abs x)
unfolding abs
abs_range x = clamp_fits w16 (pos (nat_abs x))

pub abs_exact : (x : ℤ) → nat_abs x < 2 ^ 15 → abs x ≡ pos (nat_abs x)
unfolding abs
abs_exact x h = clamp_in w16 (pos (nat_abs x)) (record { sfits = h })

-- ---- shifts of a number of the width w
module _ (w : Width) where
  -- "Right shift rounds towards minus infinity"
  pub right_floor : (x : ℤ) (n : ℕ) → Division x (2 ^ n) (shift_right w x (pos n)) (residue x (2 ^ n))
  unfolding shift_right
  right_floor x n = shift x n

  -- "A left shift drops the bits pushed out and reads the low ones as two's complement": the remainder that lies in the range
  pub left_congruent : (x : ℤ) (n : ℕ) → Congruent (2 ^ bits w) (x *ℤ pos (2 ^ n)) (shift_left w x (pos n))
  unfolding shift_left
  left_congruent x n = wrap_congruent w (x *ℤ pos (2 ^ n))

  pub left_only : (x y : ℤ) (n : ℕ) → SFits w y → Congruent (2 ^ bits w) (x *ℤ pos (2 ^ n)) y → y ≡ shift_left w x (pos n)
  unfolding shift_left
  left_only x y n f h = wrap_only w f h

  pub left_exact : (x : ℤ) (n : ℕ) → SFits w (x *ℤ pos (2 ^ n)) → shift_left w x (pos n) ≡ x *ℤ pos (2 ^ n)
  unfolding shift_left
  left_exact x n f = wrap_in w f

  pub left_fits : (x n : ℤ) → SFits w x → SFits w (shift_left w x n)
  unfolding shift_left
  left_fits x (pos n) f = wrap_fits w (x *ℤ pos (2 ^ n))
  left_fits x (negsuc n) f = floor_fits (2 ^ suc n) f

  pub right_fits : (x n : ℤ) → SFits w x → SFits w (shift_right w x n)
  unfolding shift_right
  right_fits x (pos n) f = floor_fits (2 ^ n) f
  right_fits x (negsuc n) f = wrap_fits w (x *ℤ pos (2 ^ suc n))

  -- 0 shifted is 0
  pub right_nothing : (n : ℤ) → shift_right w (pos 0) n ≡ pos 0
  unfolding shift_right
  right_nothing (pos n) = ap pos (zero-div (2 ^ n))
  right_nothing (negsuc n) = ap (wrap w) (omega (zarith, times (pos 0) (pos (2 ^ suc n)))) ∙ wrap_in w (record { sfits = pow_pos (hbits w) })

  -- "A shift by a negative amount is the opposite shift"
  once : (z : ℤ) → z *ℤ pos 1 ≡ z
  once z = omega (zarith, times z (pos 1))

  by_one : (z : ℤ) → shr_z z 1 ≡ z
  by_one (pos n) = ap pos (omega arith)
  by_one (negsuc n) = ap negsuc (omega arith)

  pub opposite : (x n : ℤ) → SFits w x → shift_left w x (neg_ℤ n) ≡ shift_right w x n
  unfolding shift_left shift_right
  opposite x (pos zero) f = ap (wrap w) (once x) ∙ wrap_in w f ∙ sym (by_one x)
  opposite x (pos (suc n)) f = refl
  opposite x (negsuc n) f = refl

-- two shifts to the right are one
pub right_again : (u w : Width) (x : ℤ) (m n : ℕ) → shift_right w (shift_right u x (pos m)) (pos n) ≡ shift_right u x (pos (m + n))
unfolding shift_right
right_again u w (pos a) m n = ap pos (shr-shr a m n)
right_again u w (negsuc a) m n = ap negsuc (shr-shr a m n)

-- ---- the low 16 bits
pub short_fits : (x : ℤ) → SFits w16 (short x)
unfolding short
short_fits x = wrap_fits w16 x

pub short_exact : {x : ℤ} → SFits w16 x → short x ≡ x
unfolding short
short_exact f = wrap_in w16 f

-- ---- "Division of 0 by anything, 0 included, is 0; of equal positive numbers, 32767; of a smaller by a larger, 32768 times the first over
-- the second, rounded down"
pub div_fits : (x y : ℤ) → SFits w16 (div x y)
unfolding div
div_fits x y = clamp_fits w16 (over (x *ℤ pos 32768) y)

pub div_zero : (y : ℤ) → div (pos 0) y ≡ pos 0
unfolding div over clamp
div_zero (pos zero) = refl
div_zero (pos (suc n)) = ap (λ (k : ℕ). pos (min k 32767)) (zero-div (suc n))
div_zero (negsuc n) = ap (λ (k : ℕ). pos (min k 32767)) (zero-div (suc n))

pub div_equal : (n : ℕ) → 0 < n → div (pos n) (pos n) ≡ pos 32767
unfolding div over clamp
div_equal zero h = absurd (omega arith)
div_equal (suc n) h = ap (λ (k : ℕ). pos (min k 32767)) (mul-div_cancel_left 32768 h)

pub div_smaller : (m n : ℕ) → m < n → div (pos m) (pos n) ≡ pos (m * 32768 / n)
unfolding div over
div_smaller m zero h = absurd (omega arith)
div_smaller m (suc n) h =
    clamp_in w16 (pos (m * 32768 / suc n)) (record { sfits = (div-lt_iff_lt-mul (omega arith)).1 (omega (arith, mul-lt-mul_of_pos_right h (pow_pos 15))) })
