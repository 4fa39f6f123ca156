-- A choice by its test, the test of equality, and the test of a range. Assumes nothing.
use mathlib.Core.Path.{◌≡◌, refl, sym, subst}
use mathlib.Core.Bool.{Bool, true, false, not, ◌&&◌, ◌||◌}
use native.Mathlib.Omega.{arith}
use lib.Dec.{T}
use lib.IntN.{ℤ}
use lib.Signed.{lt_z, le_z, ◌≤ℤ◌}
use Rattle.std.specs.Prelude.{Some}
use Rattle.std.specs.Ordering.{is_some_and, is_le, int_cmp}
use Rattle.rows.specs.Choice.{IF◌THEN◌ELSE◌, eqZ, within}
use Rattle.numbers.proofs.Parts.{zarith, same, lt_yes, lt_no, le_true, le_false, le_yes}

-- ---- both of two tests
pub and_left : (a b : Bool) → a && b ≡ true → a ≡ true
and_left true b e = refl
and_left false b e = e

pub and_right : (a b : Bool) → a && b ≡ true → b ≡ true
and_right true b e = e
and_right false b e = absurd (subst T (sym e) tt)

pub both : {a b : Bool} → a ≡ true → b ≡ true → a && b ≡ true
both p q = rw p q

-- ---- one of two tests
pub or_left : (a b : Bool) → (a || b) ≡ false → a ≡ false
or_left true b e = e
or_left false b e = refl

pub or_right : (a b : Bool) → (a || b) ≡ false → b ≡ false
or_right true b e = absurd (subst T e tt)
or_right false b e = e

-- the second adds nothing where it implies the first
pub or_same : (a b : Bool) → (b ≡ true → a ≡ true) → (a || b) ≡ a
or_same true b h = refl
or_same false true h = sym (h refl)
or_same false false h = refl

-- ---- a test turned round
pub not_true : {a : Bool} → not a ≡ true → a ≡ false
not_true {a = true} e = sym e
not_true {a = false} e = refl

pub not_false : {a : Bool} → not a ≡ false → a ≡ true
not_false {a = true} e = refl
not_false {a = false} e = sym e

-- ---- a choice
pub by_yes {ℓ} : {A : Type ℓ} {t : Bool} (x y : A) → t ≡ true → (IF t THEN x ELSE y) ≡ x
unfolding IF◌THEN◌ELSE◌
by_yes x y e = rw e

pub by_no {ℓ} : {A : Type ℓ} {t : Bool} (x y : A) → t ≡ false → (IF t THEN x ELSE y) ≡ y
unfolding IF◌THEN◌ELSE◌
by_no x y e = rw e

-- what holds of both arms, each under its test, holds of the choice
pub by_test {ℓ} : {A : Type ℓ} (P : A → Type 0) (t : Bool) (x y : A) → (t ≡ true → P x) → (t ≡ false → P y) → P (IF t THEN x ELSE y)
unfolding IF◌THEN◌ELSE◌
by_test P true x y f g = f refl
by_test P false x y f g = g refl

pub either {ℓ} : (X : Type ℓ) (t : Bool) → (t ≡ true → X) → (t ≡ false → X) → X
either X true f g = f refl
either X false f g = g refl

-- ---- the test of equality
pub eqZ_yes : {x y : ℤ} → x ≡ y → eqZ x y ≡ true
unfolding eqZ
eqZ_yes {x} {y} e = let h = same e in rw (le_true x y (omega arith), le_true y x (omega arith))

pub eqZ_is : (x y : ℤ) → eqZ x y ≡ true → x ≡ y
unfolding eqZ
eqZ_is x y h = omega (zarith, le_yes x y (and_left (le_z x y) (le_z y x) h), le_yes y x (and_right (le_z x y) (le_z y x) h))

pub eqZ_no : {x y : ℤ} → (x ≡ y → ⊥) → eqZ x y ≡ false
eqZ_no {x} {y} h = either (eqZ x y ≡ false) (eqZ x y) (λ t. absurd (h (eqZ_is x y t))) (λ t. t)

-- ---- the test of a range
pub within_ends : (lo hi z : ℤ) → within lo hi z ≡ true → (lo ≤ℤ z) × (z ≤ℤ hi)
unfolding within
within_ends lo hi z h =
    let a = and_left (le_z lo z) (le_z z hi) h in
    let b = and_right (le_z lo z) (le_z z hi) h in
    (omega zarith, omega zarith)

-- the order that the library's comparisons compute, and its test of a range
ordered : (x y : ℤ) → is_some_and is_le (Some (int_cmp x y)) ≡ le_z x y
ordered x y =
    either (is_some_and is_le (Some (int_cmp x y)) ≡ le_z x y) (lt_z x y)
    (λ t. rw (t, le_true x y (omega (zarith, lt_yes x y t))))
    (λ t.
    either (is_some_and is_le (Some (int_cmp x y)) ≡ le_z x y) (lt_z y x)
    (λ s. rw (t, s, le_false x y (omega (zarith, lt_yes y x s))))
    (λ s. rw (t, s, le_true x y (omega (zarith, lt_no y x s)))))

pub contained : (lo hi z : ℤ) → is_some_and is_le (Some (int_cmp lo z)) && is_some_and is_le (Some (int_cmp z hi)) ≡ within lo hi z
unfolding within
contained lo hi z = rw (ordered lo z, ordered z hi)
