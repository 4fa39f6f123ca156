-- Running sums of doubled products that no step clips, or none but the last: they are twice the exact sum. Then what numbers of 13 bits give.
-- Assumes nothing.
use mathlib.Core.Path.{◌≡◌, refl, sym, ap, ap₂, ◌∙◌, subst}
use mathlib.Core.Bool.{true}
use mathlib.Core.List.{List}
use Prim.Native.Nat.{ℕ, zero, suc, ◌*◌, ◌^◌, ◌<◌, ◌≤◌, min}
use native.Mathlib.Omega.{arith}
use lib.Dec.{ltb}
use borrow.Author.Tests.{ltb-true, ltb-false}
use lib.IntN.{ℤ, nat_abs, pos, ◌+ℤ◌, ◌*ℤ◌}
use lib.ListN.{length, get_or-eq_default}
use mir.Syntax.{w32}
use Rattle.numbers.specs.Clamp.{clamp}
use Rattle.numbers.specs.Sum.{sum, total, at}
use Rattle.numbers.proofs.Parts.{zarith, of, sign}
use Rattle.numbers.proofs.Poly.{v, ◌⊕◌, ◌⊗◌, ring}
use Rattle.numbers.proofs.Magnitude.{abs-*, abs-*-le}
use Rattle.numbers.proofs.Scale.{sum_scale}
use Rattle.operations.specs.Operations.{l_add, l_mult}
use Rattle.operations.proofs.Laws.{l_mult_exact}
use Rattle.rows.specs.Rows.{all, l_sum, l_products, product_sum, thirteen}
use Rattle.rows.proofs.Choice.{either, within_ends}
use Rattle.rows.proofs.All.{all_at}
use Rattle.rows.proofs.Sum.{l_sum_exact, l_sum_ext}

pub total_same : (n c : ℕ) → total n (λ k. c) ≡ n * c
unfolding total
total_same zero c = omega arith
total_same (suc n) c = omega (arith, total_same n c)

-- ---- products of which each is at most B, less than 2 ^ 30
module _ (x y : ℕ → ℤ) (B : ℕ) (fits : B < 2 ^ 30) where
  abbrev exact : ℕ → ℤ
  exact k = x k *ℤ y k

  term_is : (k : ℕ) → nat_abs (exact k) ≤ B → l_mult (x k) (y k) ≡ exact k *ℤ pos 2
  term_is k h = l_mult_exact (x k) (y k) (omega (arith, abs-* (x k) (y k)))

  term_le : (k : ℕ) → nat_abs (exact k) ≤ B → nat_abs (exact k *ℤ pos 2) ≤ 2 * B
  term_le k h = omega (arith, abs-* (exact k) (pos 2))

  -- no step clips
  pub plain : (n : ℕ) → ((k : ℕ) → k < n → nat_abs (x k *ℤ y k) ≤ B) → n * (2 * B) < 2 ^ 31 → l_sum n (λ k. l_mult (x k) (y k)) ≡ sum n (λ k. x k *ℤ y k) *ℤ pos 2
  plain n h r =
      l_sum_ext n _ (λ k. exact k *ℤ pos 2) (λ k l. term_is k (h k l))
      ∙ l_sum_exact (λ k. exact k *ℤ pos 2) (λ k. 2 * B) n (λ k l. term_le k (h k l)) (omega (arith, r, total_same n (2 * B)))
      ∙ sum_scale (pos 2) exact n

  -- no step but the last, the step n, clips: the sum is the exact one, doubled by L_add
  pub plain_last : (n : ℕ) → ((k : ℕ) → k < suc n → nat_abs (x k *ℤ y k) ≤ B) → n * (2 * B) < 2 ^ 31
      → l_sum (suc n) (λ k. l_mult (x k) (y k)) ≡ l_add (sum (suc n) (λ k. x k *ℤ y k)) (sum (suc n) (λ k. x k *ℤ y k))
  unfolding l_sum l_add sum
  plain_last n h r =
      let s = sum n exact in
      let e : s *ℤ pos 2 +ℤ exact n *ℤ pos 2 ≡ s +ℤ exact n +ℤ (s +ℤ exact n) = ring (v s ⊗ v (pos 2) ⊕ v (exact n) ⊗ v (pos 2)) (v s ⊕ v (exact n) ⊕ (v s ⊕ v (exact n))) (omega arith) in
      ap₂ l_add (plain n (λ k l. h k (omega arith)) r) (term_is n (h n (omega arith))) ∙ ap (λ (z : ℤ). clamp w32 z) e

-- ---- numbers of 13 bits
thirteen_abs : (z : ℤ) → thirteen z ≡ true → nat_abs z ≤ 4096
unfolding thirteen
thirteen_abs z e = let r = within_ends _ _ z e in omega (zarith, of z, sign z, r.0, r.1)

pub narrow_at : (l : List ℤ) → all thirteen l ≡ true → (k : ℕ) → nat_abs (at l k) ≤ 4096
narrow_at l e k =
    either (nat_abs (at l k) ≤ 4096) (ltb k (length l))
    (λ t. thirteen_abs (at l k) (all_at thirteen l k (pos 0) e (ltb-true k (length l) t)))
    (λ t. subst (λ (z : ℤ). nat_abs z ≤ 4096) (sym (get_or-eq_default l (pos 0) (ltb-false k (length l) t))) (omega arith))

-- a row and one of at most eight numbers of 13 bits
pub narrow_products : (a b : List ℤ) → length b ≤ 8 → all thirteen b ≡ true → ((k : ℕ) → k < min (length a) (length b) → nat_abs (at a k) ≤ 2 ^ 15)
    → l_products a b ≡ l_add (product_sum a b) (product_sum a b)
unfolding l_products product_sum l_sum l_add sum clamp
narrow_products a b n e h = upto (min (length a) (length b)) (omega arith) (λ k l. abs-*-le (at a k) (at b k) (2 ^ 15) 4096 (h k l) (narrow_at b e k))
  where
    upto : (n : ℕ) → n ≤ 8 → ((k : ℕ) → k < n → nat_abs (at a k *ℤ at b k) ≤ 2 ^ 27)
        → l_sum n (λ k. l_mult (at a k) (at b k)) ≡ l_add (sum n (λ k. at a k *ℤ at b k)) (sum n (λ k. at a k *ℤ at b k))
    upto zero l h = refl
    upto (suc n) l h = plain_last (at a) (at b) (2 ^ 27) (omega arith) n h (omega arith)

-- two rows of 13 bits, the second of at most nine numbers
pub narrow_both : (a b : List ℤ) → length b ≤ 9 → all thirteen a ≡ true → all thirteen b ≡ true → l_products a b ≡ product_sum a b *ℤ pos 2
unfolding l_products product_sum
narrow_both a b n d e =
    plain (at a) (at b) (2 ^ 24) (omega arith) (min (length a) (length b)) (λ k l. abs-*-le (at a k) (at b k) 4096 4096 (narrow_at a d k) (narrow_at b e k)) (omega arith)
