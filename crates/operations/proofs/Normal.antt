-- The norm: a shift by it brings the magnitude into 2^30..2^31-1, and by no other amount. It is 0 for 0, and for -2^31, whose magnitude
-- is beyond. The larger a magnitude, the smaller its norm. Assumes nothing.
use mathlib.Core.Path.{◌≡◌, refl, sym, ap, ◌∙◌}
use Prim.Native.Nat.{ℕ, zero, suc, ◌+◌, ◌-◌, ◌*◌, ◌^◌, ◌<◌, ◌≤◌}
use native.Mathlib.Nat.{mul-le-mul_right, mul-lt-mul_of_pos_right}
use native.Mathlib.Omega.{arith}
use lib.Count.{count_leading_zeros, leading_top, leading_unique}
use lib.IntN.{ℤ, nat_abs, pos, negsuc}
use lib.Pow.{pow_mono, pow-add, pow_pos}
use Rattle.operations.specs.Operations.{norm}

-- what a shift of the magnitude a by n brings about
pub record Normal (a n : ℕ) : Type 0 where
  pub low : 2 ^ 30 ≤ a * 2 ^ n
  pub high : a * 2 ^ n < 2 ^ 31

pub pow_anti : (i j : ℕ) → 2 ^ i < 2 ^ j → i < j
pow_anti i j h = let no : j ≤ i → ⊥ = λ k. omega (arith, pow_mono k) in omega arith

-- ---- the larger the magnitude, the smaller the shift
module _ (a n : ℕ) (h : Normal a n) where
  pub shift_high : (i : ℕ) → 2 ^ i ≤ a → i + n ≤ 30
  shift_high i l = let k = pow_anti (i + n) 31 (omega (arith, h.high, mul-le-mul_right (2 ^ n) l, pow-add 2 i n)) in omega arith

  pub shift_low : (j : ℕ) → a < 2 ^ j → 31 ≤ j + n
  shift_low j l = pow_anti 30 (j + n) (omega (arith, h.low, mul-lt-mul_of_pos_right l (pow_pos n), pow-add 2 j n))

  some : 1 ≤ a
  some = let no : a ≡ 0 → ⊥ = λ e. omega (arith, h.low, ap (λ (x : ℕ). x * 2 ^ n) e) in omega arith

  -- so a has 31 - n digits
  digits : (a < 2 ^ (31 - n)) × (2 ^ (31 - n) ≤ 2 * a + 1)
  digits =
      let small : n ≤ 30 = omega (arith, shift_high 0 some) in
      let all : 31 - n + n ≡ 31 = omega arith in
      let full : 2 ^ (31 - n) * 2 ^ n ≡ 2 ^ 31 = sym (pow-add 2 (31 - n) n) ∙ ap (λ (k : ℕ). 2 ^ k) all in
      let over : 2 ^ (31 - n) ≤ a → ⊥ = λ l. omega (arith, h.high, full, mul-le-mul_right (2 ^ n) l) in
      let under : 2 * a + 2 ≤ 2 ^ (31 - n) → ⊥ = λ l. omega (arith, h.low, full, mul-le-mul_right (2 ^ n) l, pow_pos n) in
      (omega arith, omega arith)

  pub shift_only : n ≡ count_leading_zeros 31 a
  shift_only = leading_unique 31 a n (31 - n) (let small : n ≤ 30 = omega (arith, shift_high 0 some) in omega arith) digits.0 digits.1

pub shift_brings : (a : ℕ) → 0 < a → a < 2 ^ 31 → Normal a (count_leading_zeros 31 a)
shift_brings a z l =
    let t = leading_top 31 a z l in
    let j = t.0 in
    let n = count_leading_zeros 31 a in
    record {
      low = omega (arith, mul-le-mul_right (2 ^ n) t.2, pow-add 2 j n, ap (λ (k : ℕ). 2 ^ k) (top j n t.1));
      high = omega (arith, mul-lt-mul_of_pos_right t.3 (pow_pos n), pow-add 2 (suc j) n, ap (λ (k : ℕ). 2 ^ k) (all j n t.1));
    }
  where
    top : (j n : ℕ) → n + suc j ≡ 31 → j + n ≡ 30
    top j n e = omega arith

    all : (j n : ℕ) → n + suc j ≡ 31 → suc j + n ≡ 31
    all j n e = omega arith

-- ---- of a number
pub norm_brings : (z : ℤ) → 0 < nat_abs z → nat_abs z < 2 ^ 31 → Normal (nat_abs z) (nat_abs (norm z))
unfolding norm
norm_brings (pos zero) h l = absurd (omega arith)
norm_brings (pos (suc n)) h l = shift_brings (suc n) h l
norm_brings (negsuc n) h l = shift_brings (suc n) h l

pub norm_only : (z : ℤ) (n : ℕ) → Normal (nat_abs z) n → norm z ≡ pos n
unfolding norm
norm_only (pos zero) n h = absurd (omega (arith, some 0 n h))
norm_only (pos (suc a)) n h = ap pos (sym (shift_only (suc a) n h))
norm_only (negsuc a) n h = ap pos (sym (shift_only (suc a) n h))

pub norm_zero : norm (pos 0) ≡ pos 0
unfolding norm
norm_zero = refl

-- -2^31, the one number whose magnitude is beyond
pub norm_least : norm (negsuc 2147483647) ≡ pos 0
unfolding norm count_leading_zeros
norm_least = refl
