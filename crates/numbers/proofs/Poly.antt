-- An equation solver for polynomials over ℤ. An expression's value has the parts that two polynomials over ℕ have, so an equation of
-- two expressions is one over ℕ, which `omega` multiplies out: `ring e f (omega arith)`. `poly e` is one fact for `omega` in place of
-- one for each operation of e. Assumes nothing.
use mathlib.Core.Path.{◌≡◌, ap}
use Prim.Native.Nat.{ℕ, ◌+◌, ◌*◌, ◌≤◌}
use native.Mathlib.Omega.{arith}
use lib.IntN.{ℤ, ◌+ℤ◌, ◌-ℤ◌, ◌*ℤ◌}
use lib.Signed.{◌≤ℤ◌}
use Rattle.numbers.proofs.Parts.{up, down, plus, minus, times, eq, le}

infixl 6 ◌⊕◌ ◌⊖◌
infixl 7 ◌⊗◌
pub data Ex : Type 0 where
  v : ℤ → Ex
  ◌⊕◌ : Ex → Ex → Ex
  ◌⊖◌ : Ex → Ex → Ex
  ◌⊗◌ : Ex → Ex → Ex

abbrev pub val : Ex → ℤ
val (v z) = z
val (a ⊕ b) = val a +ℤ val b
val (a ⊖ b) = val a -ℤ val b
val (a ⊗ b) = val a *ℤ val b

abbrev mutual
  pub Up : Ex → ℕ
  Up (v z) = up z
  Up (a ⊕ b) = Up a + Up b
  Up (a ⊖ b) = Up a + Down b
  Up (a ⊗ b) = Up a * Up b + Down a * Down b

  pub Down : Ex → ℕ
  Down (v z) = down z
  Down (a ⊕ b) = Down a + Down b
  Down (a ⊖ b) = Down a + Up b
  Down (a ⊗ b) = Up a * Down b + Down a * Up b

pub poly : (e : Ex) → up (val e) + Down e ≡ down (val e) + Up e
poly (v z) = omega arith
poly (a ⊕ b) = omega (arith, poly a, poly b, plus (val a) (val b))
poly (a ⊖ b) = omega (arith, poly a, poly b, minus (val a) (val b))
poly (a ⊗ b) =
    omega (
      arith,
      times (val a) (val b),
      ap (λ (n : ℕ). n * up (val b)) (poly a),
      ap (λ (n : ℕ). n * down (val b)) (poly a),
      ap (λ (n : ℕ). Up a * n) (poly b),
      ap (λ (n : ℕ). Down a * n) (poly b),
    )

pub ring : (e f : Ex) → Up e + Down f ≡ Up f + Down e → val e ≡ val f
ring e f h = eq (val e) (val f) (omega (arith, poly e, poly f))

pub ring≤ : (e f : Ex) → Up e + Down f ≤ Up f + Down e → val e ≤ℤ val f
ring≤ e f h = le (val e) (val f) (omega (arith, poly e, poly f))
