-- A filter is linear, and passes numbers of magnitude at most M to at most M times its weight; and what a shift to the right leaves over.
-- Assumes nothing.
use mathlib.Core.Path.{◌≡◌, ap, ap₂, ◌∙◌}
use Prim.Native.Nat.{ℕ, zero, suc, ◌+◌, ◌*◌, ◌≤◌}
use native.Mathlib.Nat.{mul-le-mul_left, zero-lt-suc}
use native.Mathlib.Omega.{arith}
use lib.IntN.{ℤ, nat_abs, pos, ◌+ℤ◌, ◌-ℤ◌, ◌*ℤ◌}
use lib.Signed.{shr_z}
use Rattle.numbers.specs.Sum.{sum, total}
use Rattle.numbers.proofs.Parts.{of, sign}
use Rattle.numbers.proofs.Poly.{v, ◌⊕◌, ◌⊖◌, ◌⊗◌, poly, ring}
use Rattle.numbers.proofs.Magnitude.{abs-+, abs-*}
use Rattle.numbers.proofs.Floor.{parts, residue_lt}
use Rattle.numbers.proofs.Sum.{sum_le}
use Rattle.numbers.proofs.Scale.{total_scale}
use Rattle.energy.specs.Exact.{exact_of}

-- ---- linear: three small equations in place of one that is past `omega`'s bound
mul_lin : (q u w A D : ℤ) → q *ℤ (u *ℤ A -ℤ D *ℤ w) ≡ q *ℤ u *ℤ A -ℤ D *ℤ (q *ℤ w)
mul_lin q u w A D =
    let U = u *ℤ A in
    let W = D *ℤ w in
    ring (v q ⊗ (v U ⊖ v W)) (v q ⊗ v U ⊖ v q ⊗ v W) (omega arith)
    ∙ ap₂ ◌-ℤ◌ (ring (v q ⊗ (v u ⊗ v A)) (v q ⊗ v u ⊗ v A) (omega arith)) (ring (v q ⊗ (v D ⊗ v w)) (v D ⊗ (v q ⊗ v w)) (omega arith))

add_lin : (X Y a b A D : ℤ) → (X *ℤ A -ℤ D *ℤ Y) +ℤ (a *ℤ A -ℤ D *ℤ b) ≡ (X +ℤ a) *ℤ A -ℤ D *ℤ (Y +ℤ b)
add_lin X Y a b A D = ring ((v X ⊗ v A ⊖ v D ⊗ v Y) ⊕ (v a ⊗ v A ⊖ v D ⊗ v b)) ((v X ⊕ v a) ⊗ v A ⊖ v D ⊗ (v Y ⊕ v b)) (omega arith)

two_lin : (X Y A D : ℤ) → (X *ℤ A -ℤ D *ℤ Y) *ℤ pos 2 ≡ X *ℤ pos 2 *ℤ A -ℤ D *ℤ (Y *ℤ pos 2)
two_lin X Y A D = ring ((v X ⊗ v A ⊖ v D ⊗ v Y) ⊗ v (pos 2)) (v X ⊗ v (pos 2) ⊗ v A ⊖ v D ⊗ (v Y ⊗ v (pos 2))) (omega arith)

module _ (r x y : ℕ → ℤ) (A D : ℤ) where
  abbrev pub d : ℕ → ℤ
  d k = x k *ℤ A -ℤ D *ℤ y k

  abbrev rx : ℕ → ℤ
  rx k = r (suc k) *ℤ x (suc k)

  abbrev ry : ℕ → ℤ
  ry k = r (suc k) *ℤ y (suc k)

  sum_linear : (n : ℕ) → sum n (λ k. r (suc k) *ℤ d (suc k)) ≡ sum n rx *ℤ A -ℤ D *ℤ sum n ry
  unfolding sum
  sum_linear zero = ring (v (pos 0)) (v (pos 0) ⊗ v A ⊖ v D ⊗ v (pos 0)) (omega arith)
  sum_linear (suc n) = ap₂ ◌+ℤ◌ (sum_linear n) (mul_lin (r (suc n)) (x (suc n)) (y (suc n)) A D) ∙ add_lin (sum n rx) (sum n ry) (rx n) (ry n) A D

  pub exact_linear : exact_of r d ≡ exact_of r x *ℤ A -ℤ D *ℤ exact_of r y
  unfolding exact_of
  exact_linear =
      ap₂ (λ (z w : ℤ). z +ℤ w *ℤ pos 2) (mul_lin (r 0) (x 0) (y 0) A D) (sum_linear 8)
      ∙ ap (λ (w : ℤ). (r 0 *ℤ x 0 *ℤ A -ℤ D *ℤ (r 0 *ℤ y 0)) +ℤ w) (two_lin (sum 8 rx) (sum 8 ry) A D)
      ∙ add_lin (r 0 *ℤ x 0) (r 0 *ℤ y 0) (sum 8 rx *ℤ pos 2) (sum 8 ry *ℤ pos 2) A D

-- ---- bounded
pub exact_bound : (r x : ℕ → ℤ) (M : ℕ) → ((k : ℕ) → nat_abs (x k) ≤ M) → nat_abs (exact_of r x) ≤ M * (nat_abs (r 0) + 2 * total 8 (λ k. nat_abs (r (suc k))))
unfolding exact_of
exact_bound r x M h =
    let t : ℕ → ℤ = λ k. r (suc k) *ℤ x (suc k) in
    omega (
      arith,
      abs-+ (r 0 *ℤ x 0) (sum 8 t *ℤ pos 2),
      abs-* (sum 8 t) (pos 2),
      abs-* (r 0) (x 0),
      mul-le-mul_left (nat_abs (r 0)) (h 0),
      sum_le 8 t (λ k. M * nat_abs (r (suc k))) (λ k l. omega (arith, abs-* (r (suc k)) (x (suc k)), mul-le-mul_left (nat_abs (r (suc k))) (h (suc k)))),
      total_scale (λ k. nat_abs (r (suc k))) M 8,
    )

-- ---- what a shift to the right leaves over
pub left_over : (z : ℤ) (M : ℕ) → nat_abs (z -ℤ pos (suc M) *ℤ shr_z z (suc M)) ≤ M
left_over z M =
    let q = shr_z z (suc M) in
    let e = z -ℤ pos (suc M) *ℤ q in
    omega (arith, parts z (suc M) (zero-lt-suc M), residue_lt z (suc M) (zero-lt-suc M), poly (v z ⊖ v (pos (suc M)) ⊗ v q), of e, sign e)
