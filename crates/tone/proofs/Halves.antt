-- A product by a power of two up to 16384, in 32768ths and rounded, is a shift, and then a half rounded up. Assumes nothing.
use mathlib.Core.Path.{◌≡◌, sym, ◌∙◌, subst}
use Prim.Native.Nat.{ℕ, zero, suc, ◌^◌, ◌≤◌}
use native.Mathlib.Omega.{arith}
use lib.IntN.{ℤ, pos, ◌+ℤ◌, ◌-ℤ◌, ◌*ℤ◌}
use lib.Signed.{shr_z}
use mir.Syntax.{w16}
use mir.Val.{SFits}
use Rattle.numbers.proofs.Parts.{zarith, plus, minus, times, of}
use Rattle.numbers.proofs.Floor.{parts, residue_lt, floor_fits}
use Rattle.numbers.proofs.Clamp.{clamp_in}
use Rattle.operations.specs.Operations.{mult_r, shift_right, ◌>>ₛ◌}

-- y less its half: the other half
abbrev pub half : ℤ → ℤ
half y = y -ℤ shr_z y 2

pub half_fits : (y : ℤ) → SFits w16 y → SFits w16 (half y)
half_fits y f = omega (zarith, of y, f.sfits, minus y (shr_z y 2), parts y 2 (omega arith), residue_lt y 2 (omega arith))

quotient_0 : (x : ℤ) → shr_z (x *ℤ pos 16384 +ℤ pos 16384) (2 ^ 15) ≡ half (shr_z x 1)
quotient_0 x =
    let z = x *ℤ pos 16384 +ℤ pos 16384 in
    let y = shr_z x 1 in
    omega (zarith, parts z (2 ^ 15) (omega arith), residue_lt z (2 ^ 15) (omega arith), plus (x *ℤ pos 16384) (pos 16384), times x (pos 16384), parts x 1 (omega arith), residue_lt x 1 (omega arith), parts y 2 (omega arith), residue_lt y 2 (omega arith), minus y (shr_z y 2))

quotient_1 : (x : ℤ) → shr_z (x *ℤ pos 8192 +ℤ pos 16384) (2 ^ 15) ≡ half (shr_z x 2)
quotient_1 x =
    let z = x *ℤ pos 8192 +ℤ pos 16384 in
    let y = shr_z x 2 in
    omega (zarith, parts z (2 ^ 15) (omega arith), residue_lt z (2 ^ 15) (omega arith), plus (x *ℤ pos 8192) (pos 16384), times x (pos 8192), parts x 2 (omega arith), residue_lt x 2 (omega arith), parts y 2 (omega arith), residue_lt y 2 (omega arith), minus y (shr_z y 2))

quotient_2 : (x : ℤ) → shr_z (x *ℤ pos 4096 +ℤ pos 16384) (2 ^ 15) ≡ half (shr_z x 4)
quotient_2 x =
    let z = x *ℤ pos 4096 +ℤ pos 16384 in
    let y = shr_z x 4 in
    omega (zarith, parts z (2 ^ 15) (omega arith), residue_lt z (2 ^ 15) (omega arith), plus (x *ℤ pos 4096) (pos 16384), times x (pos 4096), parts x 4 (omega arith), residue_lt x 4 (omega arith), parts y 2 (omega arith), residue_lt y 2 (omega arith), minus y (shr_z y 2))

quotient_3 : (x : ℤ) → shr_z (x *ℤ pos 2048 +ℤ pos 16384) (2 ^ 15) ≡ half (shr_z x 8)
quotient_3 x =
    let z = x *ℤ pos 2048 +ℤ pos 16384 in
    let y = shr_z x 8 in
    omega (zarith, parts z (2 ^ 15) (omega arith), residue_lt z (2 ^ 15) (omega arith), plus (x *ℤ pos 2048) (pos 16384), times x (pos 2048), parts x 8 (omega arith), residue_lt x 8 (omega arith), parts y 2 (omega arith), residue_lt y 2 (omega arith), minus y (shr_z y 2))

module _ (x : ℤ) (f : SFits w16 x) where
  exact : (t q : ℤ) → shr_z (x *ℤ t +ℤ pos 16384) (2 ^ 15) ≡ q → SFits w16 q → mult_r x t ≡ q
  unfolding mult_r
  exact t q e g = clamp_in w16 (shr_z (x *ℤ t +ℤ pos 16384) (2 ^ 15)) (subst (SFits w16) (sym e) g) ∙ e

  -- for a shift of up to 3
  pub halved : (n : ℕ) → n ≤ 3 → mult_r x (pos 16384 >>ₛ pos n) ≡ half (shr_z x (2 ^ n))
  unfolding shift_right
  halved zero h = exact (pos 16384) (half (shr_z x 1)) (quotient_0 x) (half_fits (shr_z x 1) (floor_fits 1 f))
  halved (suc zero) h = exact (pos 8192) (half (shr_z x 2)) (quotient_1 x) (half_fits (shr_z x 2) (floor_fits 2 f))
  halved (suc (suc zero)) h = exact (pos 4096) (half (shr_z x 4)) (quotient_2 x) (half_fits (shr_z x 4) (floor_fits 4 f))
  halved (suc (suc (suc zero))) h = exact (pos 2048) (half (shr_z x 8)) (quotient_3 x) (half_fits (shr_z x 8) (floor_fits 8 f))
  halved (suc (suc (suc (suc n)))) h = absurd (omega arith)
