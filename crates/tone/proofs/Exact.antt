-- Samples of at most 2048 in magnitude: no sum of 6.10.2 clips, so that each autocorrelation is twice the exact sum of products, and what is
-- summed on the way has room in 32 bits. Assumes nothing.
use mathlib.Core.Path.{◌≡◌}
use mathlib.Core.List.{List}
use Prim.Native.Nat.{ℕ, ◌+◌, ◌-◌, ◌*◌, ◌≤◌}
use native.Mathlib.Omega.{arith}
use lib.IntN.{ℤ, nat_abs, pos, ◌*ℤ◌}
use mir.Syntax.{w32}
use mir.Val.{SFits}
use Rattle.numbers.specs.Sum.{at, sum}
use Rattle.numbers.proofs.Magnitude.{abs-*, abs-*-le, abs_fits}
use Rattle.numbers.proofs.Sum.{sum_le}
use Rattle.rows.proofs.Plain.{total_same, plain}
use Rattle.tone.specs.Autocorrelation.{l_acfh_of, Small}

-- a product of 6.10.2, neither doubled nor clipped
abbrev pub term : List ℤ → ℕ → ℕ → ℤ
term sofh k j = at sofh (j + k) *ℤ at sofh j

module _ (sofh : List ℤ) (small : Small sofh) (k : ℕ) where
  term_le : (j : ℕ) → nat_abs (term sofh k j) ≤ 2048 * 2048
  term_le j = abs-*-le (at sofh (j + k)) (at sofh j) 2048 2048 (small (j + k)) (small j)

  sum_small : (n : ℕ) → nat_abs (sum n (term sofh k)) ≤ n * (2048 * 2048)
  sum_small n = omega (arith, sum_le n (term sofh k) (λ j. 2048 * 2048) (λ j h. term_le j), total_same n (2048 * 2048))

  -- the sum on the way, and its double
  pub sum_fits : (n : ℕ) → n ≤ 160 → SFits w32 (sum n (term sofh k))
  sum_fits n h = abs_fits w32 (sum n (term sofh k)) (omega (arith, sum_small n))

  pub double_fits : (n : ℕ) → n ≤ 160 → SFits w32 (sum n (term sofh k) *ℤ pos 2)
  double_fits n h = abs_fits w32 (sum n (term sofh k) *ℤ pos 2) (omega (arith, sum_small n, abs-* (sum n (term sofh k)) (pos 2)))

  pub acfh_exact : l_acfh_of sofh k ≡ sum (160 - k) (term sofh k) *ℤ pos 2
  unfolding l_acfh_of
  acfh_exact = plain (λ j. at sofh (j + k)) (at sofh) (2048 * 2048) (omega arith) (160 - k) (λ j h. term_le j) (omega arith)
