-- Sums: one term is at most the sum, more terms have no smaller a sum, and a factor common to all terms is one of the sum. Assumes nothing.
use mathlib.Core.Path.{◌≡◌, ap, ◌∙◌}
use Prim.Native.Nat.{ℕ, zero, suc, ◌+◌, ◌-◌, ◌*◌, ◌<◌, ◌≤◌}
use native.Mathlib.Nat.{add-zero, add-suc}
use native.Mathlib.Omega.{arith}
use lib.IntN.{ℤ, pos, ◌+ℤ◌, ◌*ℤ◌}
use Rattle.numbers.specs.Sum.{sum, total}
use Rattle.numbers.proofs.Poly.{v, ◌⊕◌, ◌⊗◌, ring}

module _ (b : ℕ → ℕ) where
  total_more : (n k : ℕ) → total n b ≤ total (n + k) b
  unfolding total
  total_more n zero = omega (arith, ap (λ (i : ℕ). total i b) (add-zero n))
  total_more n (suc k) = omega (arith, total_more n k, ap (λ (i : ℕ). total i b) (add-suc n k))

  -- more terms, no smaller a sum
  pub total_mono : (n m : ℕ) → n ≤ m → total n b ≤ total m b
  total_mono n m h = let e : n + (m - n) ≡ m = omega arith in omega (arith, total_more n (m - n), ap (λ (i : ℕ). total i b) e)

  pub total_has : (n k : ℕ) → k < n → b k ≤ total n b
  total_has n k h = let q : total k b + b k ≤ total n b = unfold total in total_mono (suc k) n h in omega (arith, q)

  pub total_scale : (c n : ℕ) → total n (λ k. c * b k) ≡ c * total n b
  unfolding total
  total_scale c zero = omega arith
  total_scale c (suc n) = omega (arith, total_scale c n)

pub sum_scale : (c : ℤ) (t : ℕ → ℤ) (n : ℕ) → sum n (λ k. t k *ℤ c) ≡ sum n t *ℤ c
unfolding sum
sum_scale c t zero = ring (v (pos 0)) (v (pos 0) ⊗ v c) (omega arith)
sum_scale c t (suc n) =
    ap (λ (z : ℤ). z +ℤ t n *ℤ c) (sum_scale c t n) ∙ ring (v (sum n t) ⊗ v c ⊕ v (t n) ⊗ v c) ((v (sum n t) ⊕ v (t n)) ⊗ v c) (omega arith)

pub total_8 : (b : ℕ → ℕ) → total 8 b ≡ b 0 + b 1 + b 2 + b 3 + b 4 + b 5 + b 6 + b 7
unfolding total
total_8 b = omega arith
