-- For lags in 40..120 the clause's three subtractions are the remainder: the larger lag is at most three times the smaller. Assumes nothing.
use mathlib.Core.Path.{◌≡◌, sym, ap, ◌∙◌}
use Prim.Native.Nat.{ℕ, suc, ◌+◌, ◌-◌, ◌*◌, ◌%◌, ◌<◌, ◌≤◌, max, min}
use native.Mathlib.Omega.{arith}
use lib.Arith.{digits_mod}
use lib.Dec.{leb}
use borrow.Author.Tests.{leb-true, leb-false}
use Rattle.rows.proofs.Choice.{by_test}
use Rattle.lags.specs.Lags.{smallag_of, taken, subtracted}

-- what is left of l when s was taken off some times
pub record Left (s l x : ℕ) : Type 0 where
  pub times : ℕ
  pub is : l ≡ times * s + x

module _ (s l : ℕ) where
  keeps : (x : ℕ) → Left s l x → Left s l (taken s x)
  keeps x h =
      by_test (Left s l) (leb s x) (x - s) x
      (λ t. record { times = suc h.times; is = omega (arith, h.is, leb-true s x t) })
      (λ t. h)

  -- so many times s at the most, and one less after each turn
  less : (k x : ℕ) → x ≤ suc (suc k) * s → taken s x ≤ suc k * s
  less k x h = by_test (λ (y : ℕ). y ≤ suc k * s) (leb s x) (x - s) x (λ t. omega arith) (λ t. omega (arith, leb-false s x t))

  last : (x : ℕ) → 0 < s → x ≤ 1 * s → taken s x < s
  last x z h = by_test (λ (y : ℕ). y < s) (leb s x) (x - s) x (λ t. omega (arith, leb-true s x t)) (λ t. leb-false s x t)

  pub three : 0 < s → l ≤ 3 * s → taken s (taken s (taken s l)) ≡ l % s
  three z h =
      let a = taken s l in
      let b = taken s a in
      let r = taken s b in
      let k = keeps b (keeps a (keeps l (record { times = 0; is = omega arith }))) in
      let small : r < s = last b z (less 0 a (less 1 l h)) in
      sym (ap (λ (n : ℕ). n % s) k.is ∙ digits_mod k.times small)

pub subtracted_is : (a b : ℕ) → 40 ≤ a → a ≤ 120 → 40 ≤ b → b ≤ 120 → subtracted a b ≡ smallag_of a b
unfolding subtracted smallag_of
subtracted_is a b ha ka hb kb = three (min a b) (max a b) (omega arith) (omega arith)
