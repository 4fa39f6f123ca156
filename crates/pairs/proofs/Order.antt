-- The comparison of two pairs by its three ways: the exponents' two orders, and their equality. Then that it is the derived order, and what it says
-- of the exponents. Assumes nothing.
use mathlib.Core.Path.{◌≡◌, sym, ◌∙◌, subst}
use mathlib.Core.Bool.{true, false}
use lib.Dec.{T}
use lib.IntN.{ℤ}
use lib.Signed.{lt_z, ◌≤ℤ◌}
use Rattle.std.specs.Prelude.{Some}
use Rattle.std.specs.Ordering.{is_some_and, is_gt, int_cmp, partial_ordering_then}
use Rattle.numbers.proofs.Parts.{zarith, same, lt_yes, lt_false}
use Rattle.rows.proofs.Choice.{either, eqZ_yes, eqZ_no}
use Rattle.pairs.specs.declared.Pair.{Pair}
use Rattle.pairs.specs.Pairs.{greater_of}

above_only : (m n : ℤ) → is_some_and is_gt (Some (int_cmp m n)) ≡ lt_z n m
above_only m n =
    either (is_some_and is_gt (Some (int_cmp m n)) ≡ lt_z n m) (lt_z m n)
    (λ t. rw (t, lt_false n m (omega (zarith, lt_yes m n t))))
    (λ t. either (is_some_and is_gt (Some (int_cmp m n)) ≡ lt_z n m) (lt_z n m) (λ s. rw (t, s)) (λ s. rw (t, s)))

module _ (a b : Pair) where
  pub above : lt_z b.e a.e ≡ true → true ≡ greater_of a b
  unfolding greater_of
  above s = rw s

  pub below : lt_z a.e b.e ≡ true → false ≡ greater_of a b
  unfolding greater_of
  below s = rw (lt_false b.e a.e (omega (zarith, lt_yes a.e b.e s)), eqZ_no {x = a.e} {y = b.e} (λ e. omega (zarith, lt_yes a.e b.e s, same e)))

  pub level : lt_z b.e a.e ≡ false → lt_z a.e b.e ≡ false → lt_z b.m a.m ≡ greater_of a b
  unfolding greater_of
  level s t = let e : a.e ≡ b.e = omega zarith in rw (s, eqZ_yes e)

  -- the order that a derive gives: the first fields' answer, and the second's where that is `Equal`
  pub derived : is_some_and is_gt (partial_ordering_then (Some (int_cmp a.e b.e)) (Some (int_cmp a.m b.m))) ≡ greater_of a b
  derived =
      either (is_some_and is_gt (partial_ordering_then (Some (int_cmp a.e b.e)) (Some (int_cmp a.m b.m))) ≡ greater_of a b) (lt_z a.e b.e)
      (λ t. rw t (below t))
      (λ t.
      either (is_some_and is_gt (partial_ordering_then (Some (int_cmp a.e b.e)) (Some (int_cmp a.m b.m))) ≡ greater_of a b) (lt_z b.e a.e)
      (λ s. rw (t, s) (above s))
      (λ s. rw (t, s) (above_only a.m b.m ∙ level s t)))

  pub greater_e : greater_of a b ≡ true → b.e ≤ℤ a.e
  greater_e g =
      either (b.e ≤ℤ a.e) (lt_z a.e b.e)
      (λ t. absurd (subst T (sym (below t ∙ g)) tt))
      (λ t. omega zarith)

  pub not_greater_e : greater_of a b ≡ false → a.e ≤ℤ b.e
  not_greater_e g =
      either (a.e ≤ℤ b.e) (lt_z b.e a.e)
      (λ t. absurd (subst T (above t ∙ g) tt))
      (λ t. omega zarith)
