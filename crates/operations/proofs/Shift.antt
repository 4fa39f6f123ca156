-- Shifts by any amount, at every width: what is shifted out altogether, and the opposite shift of a negative amount. Assumes nothing.
use mathlib.Core.Path.{◌≡◌, refl, sym, ap, ◌∙◌}
use mathlib.Core.Bool.{Bool, true, false, cond}
use Prim.Native.Nat.{ℕ, ◌-◌, ◌*◌, ◌/◌, ◌^◌, ◌<◌, ◌≤◌, min}
use native.Mathlib.Nat.{div-eq_of_lt, lt_of_lt_of_le}
use native.Mathlib.Omega.{arith}
use lib.Dec.{ltb}
use borrow.Author.Tests.{ltb-true, ltb-false}
use lib.IntN.{ℤ, nat_abs, pos, negsuc, ◌+ℤ◌, ◌-ℤ◌, ◌*ℤ◌}
use lib.Signed.{lt_z, shr_z}
use lib.Pow.{pow_mono, pow-add, pow_pos}
use mir.Syntax.{Width, w16, w32}
use mir.Val.{SFits, bits, hbits, to_z, of_z}
use mir.Facts.{to_z-of_z}
use Rattle.std.specs.Int.{int_shl}
use Rattle.numbers.specs.Wrap.{wrap}
use Rattle.operations.specs.Operations.{shift_left, shift_right}
use Rattle.numbers.proofs.Parts.{zarith, same, lt_yes, lt_no}
use Rattle.numbers.proofs.Poly.{v, ◌⊕◌, ◌⊖◌, ◌⊗◌, poly, ring}
use Rattle.numbers.proofs.Floor.{floor_fits, floor_mag, floor_only}
use Rattle.numbers.proofs.Wrap.{wrap_fits, wrap_congruent, wrap_only, shl_is}

module _ (w : Width) (x : ℤ) where
  -- by the width or more to the left, nothing is left
  pub left_far : (k : ℕ) → bits w ≤ k → pos 0 ≡ wrap w (x *ℤ pos (2 ^ k))
  left_far k h =
      let e : 2 ^ k ≡ 2 ^ bits w * 2 ^ (k - bits w) = ap (λ (n : ℕ). 2 ^ n) (omega arith) ∙ pow-add 2 (bits w) (k - bits w) in
      let full = pos (2 ^ bits w) in
      let more = pos (2 ^ (k - bits w)) in
      wrap_only w (record { sfits = pow_pos (hbits w) })
      (record { turns = x *ℤ more; is = ap (λ (n : ℕ). x *ℤ pos n) e ∙ ring (v x ⊗ (v full ⊗ v more)) (v (pos 0) ⊕ v full ⊗ (v x ⊗ v more)) (omega arith) })

  -- to the right, the sign is left
  pub right_far : (k : ℕ) → hbits w ≤ k → SFits w x → shr_z x (2 ^ hbits w) ≡ shr_z x (2 ^ k)
  right_far k h f = by x f
    where
      gone : (n : ℕ) → n < 2 ^ hbits w → n / 2 ^ hbits w ≡ n / 2 ^ k
      gone n l = div-eq_of_lt l ∙ sym (div-eq_of_lt (lt_of_lt_of_le l (pow_mono h)))

      by : (z : ℤ) → SFits w z → shr_z z (2 ^ hbits w) ≡ shr_z z (2 ^ k)
      by (pos n) g = ap pos (gone n g.sfits)
      by (negsuc n) g = ap negsuc (gone n g.sfits)

  -- the library's shifts, by any amount
  pub up_is : (k : ℕ) → SFits w x → cond (ltb k (bits w)) (int_shl w x k) (pos 0) ≡ wrap w (x *ℤ pos (2 ^ k))
  up_is k f = by (ltb k (bits w)) refl
    where
      by : (t : Bool) → ltb k (bits w) ≡ t → cond t (int_shl w x k) (pos 0) ≡ wrap w (x *ℤ pos (2 ^ k))
      by true e = shl_is w k f
      by false e = left_far k (ltb-false k (bits w) e)

  pub down_is : (k : ℕ) → SFits w x → shr_z x (2 ^ min k (hbits w)) ≡ shr_z x (2 ^ k)
  down_is k f = by (ltb k (hbits w)) refl
    where
      by : (t : Bool) → ltb k (hbits w) ≡ t → shr_z x (2 ^ min k (hbits w)) ≡ shr_z x (2 ^ k)
      by true e = ap (λ (j : ℕ). shr_z x (2 ^ j)) (omega (arith, ltb-true k (hbits w) e))
      by false e =
          let h = ltb-false k (hbits w) e in
          let m : min k (hbits w) ≡ hbits w = omega arith in
          ap (λ (j : ℕ). shr_z x (2 ^ j)) m ∙ right_far k h f

  -- the machine's shift to the right, of a number that was stored
  pub right_back : (k : ℕ) → SFits w x → to_z w (of_z w (shr_z (to_z w (of_z w x)) (2 ^ k))) ≡ shr_z x (2 ^ k)
  right_back k f = rw (to_z-of_z f) (to_z-of_z (floor_fits (2 ^ k) f))

  -- ---- by a signed amount
  pub left_of : (n : ℤ) → lt_z n (pos 0) ≡ false → wrap w (x *ℤ pos (2 ^ nat_abs n)) ≡ shift_left w x n
  unfolding shift_left
  left_of (pos n) t = refl
  left_of (negsuc n) t = absurd (omega (zarith, lt_no (negsuc n) (pos 0) t))

  pub left_opposite : (n : ℤ) → lt_z n (pos 0) ≡ true → shr_z x (2 ^ nat_abs n) ≡ shift_left w x n
  unfolding shift_left
  left_opposite (pos n) t = absurd (omega (zarith, lt_yes (pos n) (pos 0) t))
  left_opposite (negsuc n) t = refl

  pub right_of : (n : ℤ) → lt_z n (pos 0) ≡ false → shr_z x (2 ^ nat_abs n) ≡ shift_right w x n
  unfolding shift_right
  right_of (pos n) t = refl
  right_of (negsuc n) t = absurd (omega (zarith, lt_no (negsuc n) (pos 0) t))

  pub right_opposite : (n : ℤ) → lt_z n (pos 0) ≡ true → wrap w (x *ℤ pos (2 ^ nat_abs n)) ≡ shift_right w x n
  unfolding shift_right
  right_opposite (pos n) t = absurd (omega (zarith, lt_yes (pos n) (pos 0) t))
  right_opposite (negsuc n) t = refl

-- ---- up and down again by 16 leaves the low 16 bits of 32
top_fits : (L : ℤ) → SFits w32 L → SFits w16 (shr_z L (2 ^ 16))
top_fits L f = record { sfits = omega (arith, floor_mag L 65536, f.sfits) }

pub low_fits : (x : ℤ) → SFits w16 (shr_z (wrap w32 (x *ℤ pos (2 ^ 16))) (2 ^ 16))
low_fits x = top_fits (wrap w32 (x *ℤ pos (2 ^ 16))) (wrap_fits w32 (x *ℤ pos (2 ^ 16)))

pub low_is : (x : ℤ) → shr_z (wrap w32 (x *ℤ pos (2 ^ 16))) (2 ^ 16) ≡ wrap w16 x
low_is x =
    let K = pos 65536 in
    let L = wrap w32 (x *ℤ K) in
    let h = wrap_congruent w32 (x *ℤ K) in
    let t = h.turns in
    let q = x -ℤ K *ℤ t in
    let e : L ≡ K *ℤ q +ℤ pos 0 = omega (zarith, same h.is, poly (v x ⊗ v K), poly (v L ⊕ v (pos 4294967296) ⊗ v t), poly (v K ⊗ (v x ⊖ v K ⊗ v t) ⊕ v (pos 0))) in
    let d : q ≡ shr_z L 65536 = (floor_only L 65536 q 0 (omega arith) (record { is = e; small = omega arith })).0 in
    wrap_only w16 (low_fits x) (record { turns = t; is = omega (zarith, same d, poly (v x ⊖ v K ⊗ v t), poly (v (shr_z L 65536) ⊕ v K ⊗ v t)) })
