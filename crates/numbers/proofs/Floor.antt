-- Division with a rest: for every k above 0, z is k times the quotient rounded down and a rest from 0 to k - 1, and no other two numbers
-- are so. A shift to the right by n is the quotient by 2 ^ n. Assumes nothing.
use mathlib.Core.Path.{◌≡◌, refl, ap}
use Prim.Native.Nat.{ℕ, suc, ◌+◌, ◌*◌, ◌/◌, ◌^◌, ◌<◌, ◌≤◌}
use native.Mathlib.Nat.{mul-le-mul_left, div-add-mod', mod-lt, lt_of_le_of_lt}
use native.Mathlib.Omega.{arith}
use lib.IntN.{ℤ, nat_abs, pos, negsuc, ◌+ℤ◌, ◌*ℤ◌}
use lib.Signed.{mag, shr_z, mag_shr, ◌≤ℤ◌}
use lib.Pow.{pow_pos}
use mir.Syntax.{Width}
use mir.Val.{SFits}
use Rattle.numbers.specs.Floor.{residue}
use Rattle.numbers.proofs.Parts.{up, down, zarith, same}
use Rattle.numbers.proofs.Poly.{v, ◌⊕◌, ◌⊗◌, poly}

-- z = k q + r with 0 ≤ r < k
pub record Division (z : ℤ) (k : ℕ) (q : ℤ) (r : ℕ) : Type 0 where
  pub is : z ≡ pos k *ℤ q +ℤ pos r
  pub small : r < k

-- the same in parts, for `omega`
pub parts : (z : ℤ) (k : ℕ) → 0 < k → up z + k * down (shr_z z k) ≡ k * up (shr_z z k) + down z + residue z k
unfolding residue
parts (pos a) k h = omega (arith, div-add-mod' a k)
parts (negsuc a) k h = omega (arith, div-add-mod' a k, mod-lt a h)

pub residue_lt : (z : ℤ) (k : ℕ) → 0 < k → residue z k < k
unfolding residue
residue_lt (pos a) k h = mod-lt a h
residue_lt (negsuc a) k h = omega arith

pub floor : (z : ℤ) (k : ℕ) → 0 < k → Division z k (shr_z z k) (residue z k)
floor z k h = record { is = omega (zarith, parts z k h, poly (v (pos k) ⊗ v (shr_z z k) ⊕ v (pos (residue z k)))); small = residue_lt z k h }

module _ (z : ℤ) (k : ℕ) where
  product : (q : ℤ) (r : ℕ) → Division z k q r → up z + k * down q ≡ k * up q + down z + r
  product q r f = omega (arith, same f.is, poly (v (pos k) ⊗ v q ⊕ v (pos r)))

  -- of two divisions neither quotient is above the other
  quotient_le : (q s : ℤ) (r t : ℕ) → Division z k q r → Division z k s t → up q + down s ≤ up s + down q
  quotient_le q s r t f g =
      let no : up s + down q < up q + down s → ⊥ = λ h. omega (arith, f.small, product q r f, product s t g, mul-le-mul_left k h) in
      omega arith

  pub division_only : (q s : ℤ) (r t : ℕ) → Division z k q r → Division z k s t → (q ≡ s) × (r ≡ t)
  division_only q s r t f g =
      let e : q ≡ s = omega (zarith, quotient_le q s r t f g, quotient_le s q t r g f) in
      (e, omega (arith, product q r f, product s t g, ap (λ (x : ℤ). k * up x) e, ap (λ (x : ℤ). k * down x) e))

  pub floor_only : (q : ℤ) (r : ℕ) → 0 < k → Division z k q r → (q ≡ shr_z z k) × (r ≡ residue z k)
  floor_only q r h f = division_only q (shr_z z k) r (residue z k) f (floor z k h)

-- a shift to the right: z = 2^n q + r
pub shift : (z : ℤ) (n : ℕ) → Division z (2 ^ n) (shr_z z (2 ^ n)) (residue z (2 ^ n))
shift z n = floor z (2 ^ n) (pow_pos n)

-- ---- what else a caller asks: the range is kept, the magnitude falls, the order is kept
pub floor_fits : {w : Width} (k : ℕ) {z : ℤ} → SFits w z → SFits w (shr_z z k)
floor_fits k {z} f = record { sfits = lt_of_le_of_lt (mag_shr z k) f.sfits }

pub floor_mag : (z : ℤ) (k : ℕ) → mag (shr_z z k) ≡ mag z / k
floor_mag (pos a) k = refl
floor_mag (negsuc a) k = refl

pub floor_abs : (z : ℤ) (M : ℕ) → suc M * nat_abs (shr_z z (suc M)) ≤ nat_abs z + M
floor_abs (pos n) M = omega (arith, div-add-mod' n (suc M))
floor_abs (negsuc n) M = omega (arith, div-add-mod' n (suc M))

pub floor_mono : (a b : ℤ) (k : ℕ) → 0 < k → a ≤ℤ b → shr_z a k ≤ℤ shr_z b k
floor_mono a b k h l =
    let q = shr_z a k in
    let s = shr_z b k in
    let no : up s + down q < up q + down s → ⊥ = λ n. omega (zarith, parts a k h, parts b k h, residue_lt b k h, mul-le-mul_left k n) in
    omega zarith
