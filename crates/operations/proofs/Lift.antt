-- Long variables shifted up by the norm of one that none exceeds: nothing is lost, and that one itself lands in 2^30..2^31-1. Assumes nothing.
use mathlib.Core.Path.{◌≡◌, ap, ◌∙◌}
use Prim.Native.Nat.{ℕ, ◌+◌, ◌*◌, ◌^◌, ◌<◌, ◌≤◌}
use native.Mathlib.Nat.{mul-le-mul_right}
use native.Mathlib.Omega.{arith}
use lib.IntN.{ℤ, nat_abs, pos, ◌*ℤ◌}
use lib.Signed.{◌≤ℤ◌}
use mir.Syntax.{w32}
use Rattle.numbers.proofs.Parts.{up, down, zarith, of, sign, same, times}
use Rattle.numbers.proofs.Magnitude.{abs-*, abs_fits}
use Rattle.operations.specs.Operations.{norm, ◌<<◌}
use Rattle.operations.proofs.Laws.{left_exact}
use Rattle.operations.proofs.Normal.{Normal, norm_brings, norm_only, shift_high}

module _ (z : ℤ) (some : 0 < nat_abs z) (fits : nat_abs z < 2 ^ 31) where
  abbrev pub shift : ℕ
  shift = nat_abs (norm z)

  brings : Normal (nat_abs z) shift
  brings = norm_brings z some fits

  pub norm_is : norm z ≡ pos shift
  norm_is = norm_only z shift brings

  pub norm_range : (pos 0 ≤ℤ norm z) × (norm z ≤ℤ pos 30)
  norm_range =
      let h : 0 + shift ≤ 30 = shift_high (nat_abs z) shift brings 0 (omega (arith, some)) in
      let e = same norm_is in
      (omega zarith, omega zarith)

  module _ (y : ℤ) (l : nat_abs y ≤ nat_abs z) where
    pub lift_abs : nat_abs (y *ℤ pos (2 ^ shift)) < 2 ^ 31
    lift_abs = omega (arith, abs-* y (pos (2 ^ shift)), mul-le-mul_right (2 ^ shift) l, brings.high)

    pub lift_exact : y << norm z ≡ y *ℤ pos (2 ^ shift)
    lift_exact = ap (λ (n : ℤ). y << n) norm_is ∙ left_exact w32 y shift (abs_fits w32 (y *ℤ pos (2 ^ shift)) lift_abs)

  -- the number itself, where it is positive
  pub lift_high : pos 1 ≤ℤ z → (2 ^ 30 ≤ up (z << norm z)) × (up (z << norm z) < 2 ^ 31) × (down (z << norm z) ≡ 0)
  lift_high h =
      let e = same (lift_exact z (omega arith)) in
      let t = times z (pos (2 ^ shift)) in
      let d : down z ≡ 0 = omega (zarith, sign z) in
      let u : up z ≡ nat_abs z = omega (arith, of z) in
      let du = ap (λ (k : ℕ). k * 2 ^ shift) d in
      let uu = ap (λ (k : ℕ). k * 2 ^ shift) u in
      (omega (arith, brings.low), omega (arith, brings.high), omega arith)
