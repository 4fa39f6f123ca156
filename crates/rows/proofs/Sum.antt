-- A running sum that no step clips: with a bound for each term, and bounds whose total is below 2^31, it is the exact sum. Assumes nothing.
use mathlib.Core.Path.{◌≡◌, refl, ap, ap₂, ◌∙◌}
use mathlib.Core.List.{List}
use Prim.Native.Nat.{ℕ, zero, suc, ◌^◌, ◌<◌, ◌≤◌, min}
use native.Mathlib.Omega.{arith}
use lib.IntN.{ℤ, nat_abs, pos, ◌+ℤ◌}
use lib.ListN.{length}
use mir.Syntax.{w32}
use mir.Val.{SFits}
use Rattle.numbers.specs.Sum.{sum, total}
use Rattle.numbers.proofs.Magnitude.{abs-+, abs_fits}
use Rattle.numbers.proofs.Sum.{sum_le}
use Rattle.operations.specs.Operations.{l_add}
use Rattle.operations.proofs.Laws.{l_add_exact, l_add_fits}
use Rattle.rows.specs.Rows.{l_sum, l_products}

module _ (t : ℕ → ℤ) (b : ℕ → ℕ) where
  pub l_sum_exact : (n : ℕ) → ((k : ℕ) → k < n → nat_abs (t k) ≤ b k) → total n b < 2 ^ 31 → l_sum n t ≡ sum n t
  unfolding l_sum sum total
  l_sum_exact zero h r = refl
  l_sum_exact (suc n) h r =
      let less : (k : ℕ) → k < n → nat_abs (t k) ≤ b k = λ k l. h k (omega arith) in
      ap (λ (z : ℤ). l_add z (t n)) (l_sum_exact n less (omega (arith, r)))
      ∙ l_add_exact (sum n t) (t n) (abs_fits w32 (sum n t +ℤ t n) (omega (arith, r, sum_le n t b less, h n (omega arith), abs-+ (sum n t) (t n))))

-- equal terms, equal sums
pub l_sum_ext : (n : ℕ) (t u : ℕ → ℤ) → ((k : ℕ) → k < n → t k ≡ u k) → l_sum n t ≡ l_sum n u
unfolding l_sum
l_sum_ext zero t u e = refl
l_sum_ext (suc n) t u e = ap₂ l_add (l_sum_ext n t u (λ k l. e k (omega arith))) (e n (omega arith))

pub l_sum_fits : (n : ℕ) (t : ℕ → ℤ) → SFits w32 (l_sum n t)
unfolding l_sum
l_sum_fits zero t = abs_fits w32 (pos 0) (omega arith)
l_sum_fits (suc n) t = l_add_fits (l_sum n t) (t n)

pub l_products_fits : (a b : List ℤ) → SFits w32 (l_products a b)
unfolding l_products
l_products_fits a b = l_sum_fits (min (length a) (length b)) _
