-- Pairs, energies and distances in parts of 2^-80: pairs compare there as they are worth, and a number within a distance of a pair's decides the
-- comparison with another pair that is further away. Assumes nothing.
use mathlib.Core.Path.{◌≡◌, sym, ap, ◌∙◌}
use Prim.Native.Nat.{ℕ, ◌+◌, ◌*◌, ◌^◌, ◌<◌, ◌≤◌}
use native.Mathlib.Nat.{mul_assoc, mul-le-mul_right}
use native.Mathlib.Omega.{arith}
use lib.IntN.{ℤ, nat_abs, pos, negsuc, ◌+ℤ◌, ◌*ℤ◌}
use lib.Pow.{pow-add}
use lib.Signed.{◌≤ℤ◌, ◌<ℤ◌}
use Rattle.numbers.proofs.Parts.{up, down, zarith, of, sign, plus, times}
use Rattle.pairs.specs.declared.Pair.{Pair}
use Rattle.pairs.specs.Pairs.{worth_of}
use Rattle.demands.specs.Distance.{pair_units}

-- ---- a pair's units are its worth times 2^33
pub units_worth : (q : Pair) → negsuc 31 ≤ℤ q.e → pair_units q ≡ worth_of q * 2 ^ 33
unfolding pair_units worth_of
units_worth q h =
    let x = q.e +ℤ pos 65 in
    let y = q.e +ℤ pos 32 in
    let e : nat_abs x ≡ nat_abs y + 33 = omega (zarith, plus q.e (pos 65), plus q.e (pos 32), of x, of y, sign x, sign y) in
    ap (λ (n : ℕ). nat_abs q.m * 2 ^ n) e ∙ ap (λ (n : ℕ). nat_abs q.m * n) (pow-add 2 (nat_abs y) 33) ∙ sym (mul_assoc (nat_abs q.m) (2 ^ nat_abs y) (2 ^ 33))

module _ (q t : Pair) (Q : negsuc 31 ≤ℤ q.e) (T : negsuc 31 ≤ℤ t.e) where
  pub worth_of_units : pair_units t < pair_units q → worth_of t < worth_of q
  worth_of_units h = omega (arith, units_worth q Q, units_worth t T)

  pub units_of_worth : worth_of t < worth_of q → pair_units t < pair_units q
  units_of_worth h = omega (arith, units_worth q Q, units_worth t T)

-- ---- a pair q, a number Z within D of its mantissa times 2^35, and u by which both are scaled
module _ (q : Pair) (Z : ℤ) (D u : ℕ) (some : pos 0 ≤ℤ q.m) (scale : q.e +ℤ pos 65 ≡ pos (35 + u))
    (below : (q.m *ℤ pos (2 ^ 35)) ≤ℤ (Z +ℤ pos D)) (above : Z ≤ℤ (q.m *ℤ pos (2 ^ 35) +ℤ pos D)) where
  abbrev M : ℕ
  M = nat_abs q.m * 2 ^ 35

  units : pair_units q ≡ M * 2 ^ u
  unfolding pair_units
  units =
      ap (λ (z : ℤ). nat_abs q.m * 2 ^ nat_abs z) scale
      ∙ ap (λ (n : ℕ). nat_abs q.m * n) (pow-add 2 35 u)
      ∙ sym (mul_assoc (nat_abs q.m) (2 ^ 35) (2 ^ u))

  apart : (up Z ≤ down Z + (M + D)) × (M + down Z ≤ up Z + D)
  apart =
      let y = q.m *ℤ pos (2 ^ 35) in
      let t = times q.m (pos (2 ^ 35)) in
      let o = of q.m in
      let n : down q.m ≡ 0 = omega (zarith, sign q.m) in
      (omega (zarith, plus y (pos D)), omega (zarith, plus Z (pos D)))

  pub over : (t : ℕ) → pos (t + D * 2 ^ u) <ℤ (Z *ℤ pos (2 ^ u)) → t < pair_units q
  over t h = omega (zarith, units, times Z (pos (2 ^ u)), mul-le-mul_right (2 ^ u) apart.0)

  pub under : (t : ℕ) → (Z *ℤ pos (2 ^ u) +ℤ pos (D * 2 ^ u)) ≤ℤ pos t → pair_units q ≤ t
  under t h = omega (zarith, units, times Z (pos (2 ^ u)), plus (Z *ℤ pos (2 ^ u)) (pos (D * 2 ^ u)), mul-le-mul_right (2 ^ u) apart.1)
