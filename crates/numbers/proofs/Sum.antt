-- Sums: the magnitude of a sum is at most the sum of the magnitudes, and the square of a sum of n magnitudes at most n times the sum of
-- their squares; for terms counted from 0, and for the entries of a list. Assumes nothing.
use mathlib.Core.Path.{◌≡◌, refl, sym, subst}
use mathlib.Core.Bool.{Bool, true, false}
use mathlib.Core.List.{List}
use Prim.Native.Nat.{ℕ, zero, suc, ◌+◌, ◌-◌, ◌*◌, ◌<◌, ◌≤◌}
use native.Mathlib.Nat.{le_refl}
use native.Mathlib.Omega.{arith}
use lib.Dec.{ltb}
use borrow.Author.Tests.{ltb-true, ltb-false}
use lib.IntN.{ℤ, nat_abs}
use lib.ListN.{length}
use Rattle.numbers.specs.Sum.{sum, total, at, sum_of, magnitudes_of, squares_of}
use Rattle.numbers.proofs.Magnitude.{abs-+}

-- terms that are each at most their bounds
pub total_le : (n : ℕ) (a b : ℕ → ℕ) → ((k : ℕ) → k < n → a k ≤ b k) → total n a ≤ total n b
unfolding total
total_le zero a b h = omega arith
total_le (suc n) a b h = omega (arith, total_le n a b (λ k l. h k (omega arith)), h n (omega arith))

pub sum_le : (n : ℕ) (t : ℕ → ℤ) (b : ℕ → ℕ) → ((k : ℕ) → k < n → nat_abs (t k) ≤ b k) → nat_abs (sum n t) ≤ total n b
unfolding sum total
sum_le zero t b h = omega arith
sum_le (suc n) t b h = omega (arith, sum_le n t b (λ k l. h k (omega arith)), h n (omega arith), abs-+ (sum n t) (t n))

-- ---- the square of a sum
-- 2 a c ≤ a² + c², since it is (a - c)² short of it
under : (a d : ℕ) → 2 * (a * (a + d)) ≤ a * a + (a + d) * (a + d)
under a d = omega arith

pub two_products : (a c : ℕ) → 2 * (a * c) ≤ a * a + c * c
two_products a c = by (ltb a c) refl
  where
    by : (t : Bool) → ltb a c ≡ t → 2 * (a * c) ≤ a * a + c * c
    by true e = let d : c ≡ a + (c - a) = omega (arith, ltb-true a c e) in subst (λ (x : ℕ). 2 * (a * x) ≤ a * a + x * x) (sym d) (under a (c - a))
    by false e =
        let d : a ≡ c + (a - c) = omega (arith, ltb-false a c e) in
        subst (λ (x : ℕ). 2 * (x * c) ≤ x * x + c * c) (sym d) (omega (arith, under c (a - c)))

module _ (b : ℕ → ℕ) where
  abbrev pub squares : ℕ → ℕ
  squares n = total n (λ k. b k * b k)

  each_with : (n c : ℕ) → 2 * (total n b * c) ≤ squares n + n * (c * c)
  unfolding total
  each_with zero c = omega arith
  each_with (suc n) c = omega (arith, each_with n c, two_products (b n) c)

  pub square_le : (n : ℕ) → total n b * total n b ≤ n * squares n
  unfolding total
  square_le zero = omega arith
  square_le (suc n) = omega (arith, square_le n, each_with n (b n))

-- ---- the same, of a list
pub sum_of_le : (l : List ℤ) → nat_abs (sum_of l) ≤ magnitudes_of l
unfolding sum_of magnitudes_of
sum_of_le l = sum_le (length l) (at l) (λ k. nat_abs (at l k)) (λ k h. le_refl (nat_abs (at l k)))

pub magnitudes_square : (l : List ℤ) → magnitudes_of l * magnitudes_of l ≤ length l * squares_of l
unfolding magnitudes_of squares_of
magnitudes_square l = square_le (λ k. nat_abs (at l k)) (length l)
