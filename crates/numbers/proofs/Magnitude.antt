-- Magnitudes of sums and products, and the ranges that follow from them. Assumes nothing.
use mathlib.Core.Path.{◌≡◌, refl}
use Prim.Native.Nat.{ℕ, suc, ◌+◌, ◌*◌, ◌^◌, ◌<◌, ◌≤◌}
use native.Mathlib.Nat.{mul-le-mul, mul-le-mul_right}
use native.Mathlib.Omega.{arith}
use lib.IntN.{ℤ, nat_abs, pos, negsuc, neg_ℤ, ◌+ℤ◌, ◌-ℤ◌, ◌*ℤ◌}
use lib.Signed.{◌≤ℤ◌}
use mir.Syntax.{Width}
use mir.Val.{SFits, hbits}
use Rattle.numbers.proofs.Parts.{up, down, zarith, neg, plus, minus, times, of, sign}

-- ---- of a negation, a sum, a difference, a product
pub abs_neg : (a : ℤ) → nat_abs (neg_ℤ a) ≡ nat_abs a
abs_neg a = omega (arith, of a, of (neg_ℤ a), neg a)

pub abs-+ : (a b : ℤ) → nat_abs (a +ℤ b) ≤ nat_abs a + nat_abs b
abs-+ a b = omega (arith, of (a +ℤ b), sign (a +ℤ b), of a, of b, plus a b)

pub abs-- : (a b : ℤ) → nat_abs (a -ℤ b) ≤ nat_abs a + nat_abs b
abs-- a b = omega (arith, of (a -ℤ b), sign (a -ℤ b), of a, of b, minus a b)

pub abs-* : (a b : ℤ) → nat_abs (a *ℤ b) ≡ nat_abs a * nat_abs b
abs-* (pos a) (pos b) = refl
abs-* (pos a) (negsuc b) = abs_neg (pos (a * suc b))
abs-* (negsuc a) (pos b) = abs_neg (pos (suc a * b))
abs-* (negsuc a) (negsuc b) = refl

pub abs-*-le : (a b : ℤ) (A B : ℕ) → nat_abs a ≤ A → nat_abs b ≤ B → nat_abs (a *ℤ b) ≤ A * B
abs-*-le a b A B h k = omega (arith, abs-* a b, mul-le-mul {n₁ = nat_abs a} {m₁ = nat_abs b} {n₂ = A} {m₂ = B} h k)

-- ---- a range says that the magnitude is at most 2 ^ hbits w, and a magnitude below that is in the range
pub fits_abs : (w : Width) (z : ℤ) → SFits w z → nat_abs z ≤ 2 ^ hbits w
fits_abs w (pos n) f = omega (arith, f.sfits)
fits_abs w (negsuc n) f = omega (arith, f.sfits)

pub abs_fits : (w : Width) (z : ℤ) → nat_abs z < 2 ^ hbits w → SFits w z
abs_fits w (pos n) h = record { sfits = omega arith }
abs_fits w (negsuc n) h = record { sfits = omega arith }

-- ---- a product by a number that is not negative keeps the order
pub times_mono : (a b : ℤ) (k : ℕ) → a ≤ℤ b → (a *ℤ pos k) ≤ℤ (b *ℤ pos k)
times_mono a b k h =
    let i : up a + down b ≤ up b + down a = omega zarith in
    omega (zarith, times a (pos k), times b (pos k), mul-le-mul_right k i)
