-- Two's complement: `wrap w z` is in the range of w, differs from z by a multiple of 2 ^ bits w, and is the only such number; so it is z
-- where z is in the range. The machine's shift to the left, which works on the bits, gives the wrapped product. Each law holds at every width.
-- Assumes nothing.
use mathlib.Core.Path.{◌≡◌, refl, sym, ap, ◌∙◌, subst}
use mathlib.Core.Bool.{Bool, true, false}
use Prim.Native.Nat.{ℕ, zero, suc, ◌-◌, ◌*◌, ◌%◌, ◌^◌, ◌<◌}
use native.Mathlib.Nat.{mod-lt}
use native.Mathlib.Omega.{arith}
use lib.Dec.{ltb}
use lib.IntN.{ℤ, pos, negsuc, ◌+ℤ◌, ◌-ℤ◌, ◌*ℤ◌}
use lib.Signed.{shr_z}
use lib.Pow.{pow_pos}
use mir.Syntax.{Width, w8, w16, w32, w64, w128}
use mir.Val.{SFits, bits, hbits, sel, to_z, of_z}
use mir.Facts.{to_z-of_z, sfits_to_z, Fits-of_z}
use Rattle.numbers.specs.Floor.{residue}
use Rattle.numbers.specs.Wrap.{wrap}
use Rattle.numbers.proofs.Parts.{zarith, of, same}
use Rattle.numbers.proofs.Poly.{v, ◌⊕◌, ◌⊖◌, ◌⊗◌, poly, ring}
use Rattle.numbers.proofs.Floor.{floor, residue_lt}

-- ---- numbers that differ by a multiple of n
pub record Congruent (n : ℕ) (a b : ℤ) : Type 0 where
  pub turns : ℤ
  pub is : a ≡ b +ℤ pos n *ℤ turns

module _ {n : ℕ} where
  pub cong_refl : (a : ℤ) → Congruent n a a
  cong_refl a = record { turns = pos 0; is = ring (v a) (v a ⊕ v (pos n) ⊗ v (pos 0)) (omega arith) }

  pub cong_sym : {a b : ℤ} → Congruent n a b → Congruent n b a
  cong_sym {a} {b} h =
      let t = h.turns in
      record { turns = pos 0 -ℤ t; is = omega (zarith, same h.is, poly (v b ⊕ v (pos n) ⊗ v t), poly (v a ⊕ v (pos n) ⊗ (v (pos 0) ⊖ v t))) }

  pub cong_trans : {a b c : ℤ} → Congruent n a b → Congruent n b c → Congruent n a c
  cong_trans {a} {b} {c} h k =
      let t = h.turns in
      let u = k.turns in
      record { turns = t +ℤ u; is = omega (zarith, same h.is, same k.is, poly (v b ⊕ v (pos n) ⊗ v t), poly (v c ⊕ v (pos n) ⊗ v u), poly (v c ⊕ v (pos n) ⊗ (v t ⊕ v u))) }

  pub cong_times : {a b : ℤ} (c : ℤ) → Congruent n a b → Congruent n (a *ℤ c) (b *ℤ c)
  cong_times {a} {b} c h =
      let t = h.turns in
      record { turns = t *ℤ c; is = ap (λ (x : ℤ). x *ℤ c) h.is ∙ ring ((v b ⊕ v (pos n) ⊗ v t) ⊗ v c) (v b ⊗ v c ⊕ v (pos n) ⊗ (v t ⊗ v c)) (omega arith) }

  pub cong_residue : (z : ℤ) → 0 < n → Congruent n z (pos (residue z n))
  cong_residue z h =
      let q = shr_z z n in
      let r = pos (residue z n) in
      record { turns = q; is = (floor z n h).is ∙ ring (v (pos n) ⊗ v q ⊕ v r) (v r ⊕ v (pos n) ⊗ v q) (omega arith) }

  pub cong_mod : (x : ℕ) → 0 < n → Congruent n (pos x) (pos (x % n))
  unfolding residue
  cong_mod x h = cong_residue (pos x) h

-- ---- the range of a width holds one number of each kind
pub full : (w : Width) → 2 ^ bits w ≡ 2 * 2 ^ hbits w
full w8 = refl
full w16 = refl
full w32 = refl
full w64 = refl
full w128 = refl

module _ (w : Width) where
  pub range_only : {a b : ℤ} → SFits w a → SFits w b → Congruent (2 ^ bits w) a b → a ≡ b
  range_only {a} {b} f g h = by h.turns h.is
    where
      by : (t : ℤ) → a ≡ b +ℤ pos (2 ^ bits w) *ℤ t → a ≡ b
      by (pos zero) e = e ∙ ring (v b ⊕ v (pos (2 ^ bits w)) ⊗ v (pos 0)) (v b) (omega arith)
      by (pos (suc j)) e = absurd (omega (arith, same e, poly (v b ⊕ v (pos (2 ^ bits w)) ⊗ v (pos (suc j))), of a, of b, f.sfits, g.sfits, full w))
      by (negsuc j) e = absurd (omega (arith, same e, poly (v b ⊕ v (pos (2 ^ bits w)) ⊗ v (negsuc j)), of a, of b, f.sfits, g.sfits, full w))

  -- bits, read as signed, and a signed number's bits
  read_by : (n : ℕ) (t : Bool) → n < 2 ^ bits w → Congruent (2 ^ bits w) (pos n) (sel t (pos n) (negsuc (2 ^ bits w - suc n)))
  read_by n true h = cong_refl (pos n)
  read_by n false h = record { turns = pos 1; is = omega (zarith, poly (v (negsuc (2 ^ bits w - suc n)) ⊕ v (pos (2 ^ bits w)) ⊗ v (pos 1))) }

  pub cong_toZ : (n : ℕ) → n < 2 ^ bits w → Congruent (2 ^ bits w) (pos n) (to_z w n)
  cong_toZ n h = read_by n (ltb n (2 ^ hbits w)) h

  pub cong_ofZ : {z : ℤ} → SFits w z → Congruent (2 ^ bits w) (pos (of_z w z)) z
  cong_ofZ {z} f = subst (λ (x : ℤ). Congruent (2 ^ bits w) (pos (of_z w z)) x) (to_z-of_z f) (cong_toZ (of_z w z) (Fits-of_z f).fits)

  -- ---- wrapping
  pub wrap_fits : (z : ℤ) → SFits w (wrap w z)
  unfolding wrap
  wrap_fits z = sfits_to_z (record { fits = residue_lt z (2 ^ bits w) (pow_pos (bits w)) })

  pub wrap_congruent : (z : ℤ) → Congruent (2 ^ bits w) z (wrap w z)
  unfolding wrap
  wrap_congruent z =
      let room = pow_pos (bits w) in
      cong_trans (cong_residue z room) (cong_toZ (residue z (2 ^ bits w)) (residue_lt z (2 ^ bits w) room))

  pub wrap_only : {z x : ℤ} → SFits w x → Congruent (2 ^ bits w) z x → x ≡ wrap w z
  wrap_only {z} f h = range_only f (wrap_fits z) (cong_trans (cong_sym h) (wrap_congruent z))

  pub wrap_in : {z : ℤ} → SFits w z → wrap w z ≡ z
  wrap_in {z} f = sym (wrap_only f (cong_refl z))

  -- ---- the machine's shift to the left
  pub shl_is : {z : ℤ} (k : ℕ) → SFits w z → to_z w (of_z w z * 2 ^ k % 2 ^ bits w) ≡ wrap w (z *ℤ pos (2 ^ k))
  shl_is {z} k f =
      let room = pow_pos (bits w) in
      let low = of_z w z * 2 ^ k % 2 ^ bits w in
      let small : low < 2 ^ bits w = mod-lt (of_z w z * 2 ^ k) room in
      wrap_only (sfits_to_z (record { fits = small }))
      (cong_trans (cong_times (pos (2 ^ k)) (cong_sym (cong_ofZ f))) (cong_trans (cong_mod (of_z w z * 2 ^ k) room) (cong_toZ low small)))
