-- Clause 6.3.3, of a predictor whose first entry is 1024 and whose entries are within 4096 of 0: no sum clips, the first entry of L_work lies in
-- 2^21..2^29 and is the largest, and the others' magnitudes sum to at most four times it. Assumes nothing.
use mathlib.Core.Path.{◌≡◌, refl, ap, ap₂, ◌∙◌}
use mathlib.Core.List.{List}
use Prim.Native.Nat.{ℕ, zero, suc, ◌+◌, ◌-◌, ◌*◌, ◌^◌, ◌<◌, ◌≤◌}
use native.Mathlib.Nat.{mul-le-mul, zero-add, add-zero, suc-add}
use native.Mathlib.Omega.{arith}
use lib.IntN.{ℤ, nat_abs, pos, negsuc, ◌+ℤ◌, ◌*ℤ◌}
use lib.Signed.{◌≤ℤ◌}
use Rattle.numbers.specs.Sum.{sum, total, at}
use Rattle.numbers.proofs.Parts.{zarith, same}
use Rattle.numbers.proofs.Magnitude.{abs-*}
use Rattle.numbers.proofs.Sum.{sum_le, two_products, squares}
use Rattle.numbers.proofs.Scale.{total_mono, total_8}
use Rattle.operations.specs.Operations.{l_mult, norm}
use Rattle.operations.proofs.Laws.{l_mult_exact}
use Rattle.operations.proofs.Normal.{Normal, norm_brings, norm_only, shift_high, shift_low}
use Rattle.rows.proofs.Sum.{l_sum_exact, l_sum_ext}
use Rattle.predictor.specs.Filter.{l_work_of}

-- the doubled products at the lag i
module _ (f : ℕ → ℕ) where
  abbrev lagged : ℕ → ℕ → ℕ
  lagged i n = total n (λ k. 2 * (f k * f (k + i)))

  -- each is at most the two squares
  lag : (i n : ℕ) → lagged i n + squares f i ≤ squares f n + squares f (n + i)
  unfolding total
  lag i zero = omega (arith, ap (squares f) (zero-add i))
  lag i (suc n) = omega (arith, lag i n, two_products (f n) (f (n + i)), ap (squares f) (suc-add n i))

twice_abs : (x y : ℤ) → nat_abs (x *ℤ y *ℤ pos 2) ≡ 2 * (nat_abs x * nat_abs y)
twice_abs x y = omega (arith, abs-* (x *ℤ y) (pos 2), abs-* x y)

square_is : (x : ℤ) → x *ℤ x *ℤ pos 2 ≡ pos (2 * (nat_abs x * nat_abs x))
square_is (pos n) = ap pos (omega arith)
square_is (negsuc n) = ap pos (omega arith)

-- ---- L_work
module _ (a : List ℤ) (first : at a 0 ≡ pos 1024) (small : (k : ℕ) → nat_abs (at a k) ≤ 4096) where
  abbrev f : ℕ → ℕ
  f k = nat_abs (at a k)

  -- a term that is not clipped
  abbrev pub exact : ℕ → ℕ → ℤ
  exact i k = at a k *ℤ at a (k + i) *ℤ pos 2

  pub term_exact : (i k : ℕ) → l_mult (at a k) (at a (k + i)) ≡ exact i k
  term_exact i k = l_mult_exact (at a k) (at a (k + i)) (omega (arith, mul-le-mul {n₁ = f k} {m₁ = f (k + i)} {n₂ = 4096} {m₂ = 4096} (small k) (small (k + i))))

  term_le : (i k : ℕ) → nat_abs (exact i k) ≤ 2 * (f k * f (k + i))
  term_le i k = omega (arith, twice_abs (at a k) (at a (k + i)))

  -- 1024 squared, and at most 2 ^ 24 for each other
  squares_in : (n : ℕ) → (2 ^ 20 ≤ squares f (suc n)) × (squares f (suc n) ≤ 2 ^ 20 + n * 2 ^ 24)
  unfolding total
  squares_in zero = let e : f 0 ≡ 1024 = ap nat_abs first in omega (arith, ap₂ ◌*◌ e e)
  squares_in (suc n) = omega (arith, squares_in n, mul-le-mul {n₁ = f (suc n)} {m₁ = f (suc n)} {n₂ = 4096} {m₂ = 4096} (small (suc n)) (small (suc n)))

  abbrev pub S : ℕ
  S = squares f 9

  pub S_in : (2 ^ 20 ≤ S) × (S ≤ 2 ^ 20 + 2 ^ 27)
  S_in = omega (arith, squares_in 8)

  lagged_le : (i : ℕ) → i ≤ 9 → lagged f i (9 - i) ≤ 2 * S
  lagged_le i h =
      let e : 9 - i + i ≡ 9 = omega arith in
      omega (arith, lag f i (9 - i), total_mono (λ k. f k * f k) (9 - i) 9 (omega arith), ap (squares f) e)

  -- no product and no sum clips
  pub work_exact : (i : ℕ) → i ≤ 9 → l_work_of a i ≡ sum (9 - i) (exact i)
  unfolding l_work_of
  work_exact i h =
      l_sum_ext (9 - i) _ (exact i) (λ k l. term_exact i k)
      ∙ l_sum_exact (exact i) (λ k. 2 * (f k * f (k + i))) (9 - i) (λ k l. term_le i k) (omega (arith, lagged_le i h, S_in))

  work_lagged : (i : ℕ) → i ≤ 9 → nat_abs (l_work_of a i) ≤ lagged f i (9 - i)
  work_lagged i h = rw (work_exact i h) (sum_le (9 - i) (exact i) (λ k. 2 * (f k * f (k + i))) (λ k l. term_le i k))

  square_sum : (n : ℕ) → sum n (exact 0) ≡ pos (2 * squares f n)
  unfolding sum total
  square_sum zero = refl
  square_sum (suc n) =
      let e : exact 0 n ≡ pos (2 * (f n * f n)) = rw (add-zero n) (square_is (at a n)) in
      ap₂ ◌+ℤ◌ (square_sum n) e ∙ ap pos (omega arith)

  -- the first is twice the sum of the squares
  pub work_first : l_work_of a 0 ≡ pos (2 * S)
  work_first = work_exact 0 (omega arith) ∙ square_sum 9

  pub work_first_in : (pos (2 ^ 21) ≤ℤ l_work_of a 0) × (l_work_of a 0 ≤ℤ pos (2 ^ 29))
  work_first_in = (omega (zarith, S_in, same work_first), omega (zarith, S_in, same work_first))

  pub work_le : (i : ℕ) → i ≤ 9 → nat_abs (l_work_of a i) ≤ 2 * S
  work_le i h = omega (arith, work_lagged i h, lagged_le i h)

  pub work_largest : (i : ℕ) → i ≤ 9 → nat_abs (l_work_of a i) ≤ nat_abs (l_work_of a 0)
  work_largest i h = omega (arith, work_le i h, ap nat_abs work_first)

  -- each square is in eight pairs at most
  pub work_rest : total 8 (λ k. nat_abs (l_work_of a (suc k))) ≤ 4 * (2 * S)
  work_rest =
      omega (
        arith,
        total_8 (λ k. nat_abs (l_work_of a (suc k))),
        lag f 1 8,
        lag f 2 7,
        lag f 3 6,
        lag f 4 5,
        lag f 5 4,
        lag f 6 3,
        lag f 7 2,
        lag f 8 1,
        work_lagged 1 (omega arith),
        work_lagged 2 (omega arith),
        work_lagged 3 (omega arith),
        work_lagged 4 (omega arith),
        work_lagged 5 (omega arith),
        work_lagged 6 (omega arith),
        work_lagged 7 (omega arith),
        work_lagged 8 (omega arith),
      )

  -- ---- the norm
  abbrev pub r : ℕ
  r = nat_abs (norm (l_work_of a 0))

  magnitude : nat_abs (l_work_of a 0) ≡ 2 * S
  magnitude = ap nat_abs work_first

  normal : Normal (nat_abs (l_work_of a 0)) r
  normal = norm_brings (l_work_of a 0) (omega (arith, magnitude, S_in)) (omega (arith, magnitude, S_in))

  pub norm_is : norm (l_work_of a 0) ≡ pos r
  norm_is = norm_only (l_work_of a 0) r normal

  pub norm_in : (2 ≤ r) × (r ≤ 9)
  norm_in =
      omega (
        arith,
        shift_high (nat_abs (l_work_of a 0)) r normal 21 (omega (arith, magnitude, S_in)),
        shift_low (nat_abs (l_work_of a 0)) r normal 29 (omega (arith, magnitude, S_in)),
      )

  pub first_scaled : (2 ^ 30 ≤ 2 * S * 2 ^ r) × (2 * S * 2 ^ r < 2 ^ 31)
  first_scaled = (rw magnitude at normal.low, rw magnitude at normal.high)
