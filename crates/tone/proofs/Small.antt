-- The scaling of 6.10.2: of any 16-bit samples, each is at most 2048 in magnitude afterwards. Assumes nothing.
use mathlib.Core.Path.{◌≡◌, sym, ap, ◌∙◌, subst}
use mathlib.Core.List.{List}
use Prim.Native.Nat.{ℕ, zero, suc, ◌*◌, ◌^◌, ◌<◌, ◌≤◌}
use native.Mathlib.Nat.{mul-le-mul_left, mul-le-mul_right}
use native.Mathlib.Omega.{arith}
use lib.Count.{count_leading_zeros}
use lib.Dec.{ltb}
use borrow.Author.Tests.{ltb-true, ltb-false}
use lib.IntN.{ℤ, nat_abs, pos, negsuc, ◌+ℤ◌, ◌-ℤ◌, ◌*ℤ◌}
use lib.ListN.{length, get_or-eq_default}
use lib.Signed.{lt_z, shr_z, ◌≤ℤ◌}
use lib.Pow.{pow_pos, pow_mono}
use mir.Syntax.{w16, w32}
use mir.Val.{SFits}
use Rattle.numbers.specs.Clamp.{clamp}
use Rattle.numbers.specs.Sum.{at}
use Rattle.numbers.proofs.Parts.{zarith, same, plus, minus, of, sign}
use Rattle.numbers.proofs.Magnitude.{abs-*, abs_fits, fits_abs}
use Rattle.numbers.proofs.Floor.{parts, residue_lt}
use Rattle.numbers.proofs.Clamp.{clamp_in, clamp_mono}
use Rattle.operations.specs.Operations.{sub, abs, mult_r, shift_right, norm, ◌<<◌}
use Rattle.operations.proofs.Laws.{left_exact}
use Rattle.operations.proofs.Exact.{sub_parts}
use Rattle.operations.proofs.Normal.{norm_brings, norm_only, shift_high}
use Rattle.rows.specs.Choice.{IF◌THEN◌ELSE◌, eqZ}
use Rattle.rows.specs.Rows.{row}
use Rattle.rows.proofs.Choice.{by_yes, by_no, by_test, either, eqZ_yes, eqZ_no}
use Rattle.rows.proofs.Fill.{row_all}
use Rattle.tone.specs.Autocorrelation.{smax_of, scalauto_of, scaled_of, dynamic_of, Small}

-- ---- a product of at most 2^26 is at most 2048 in 32768ths, rounded
rounded : (z : ℤ) → nat_abs z ≤ 2 ^ 26 → nat_abs (shr_z (z +ℤ pos 16384) (2 ^ 15)) ≤ 2048
rounded z h =
    let q = shr_z (z +ℤ pos 16384) (2 ^ 15) in
    omega (arith, parts (z +ℤ pos 16384) (2 ^ 15) (omega arith), residue_lt (z +ℤ pos 16384) (2 ^ 15) (omega arith), plus z (pos 16384), of z, of q, sign q)

pub mult_r_small : (x t : ℤ) → nat_abs x * nat_abs t ≤ 2 ^ 26 → nat_abs (mult_r x t) ≤ 2048
unfolding mult_r
mult_r_small x t h =
    let q = shr_z (x *ℤ t +ℤ pos 16384) (2 ^ 15) in
    let s : nat_abs q ≤ 2048 = rounded (x *ℤ t) (omega (arith, abs-* x t, h)) in
    subst (λ (z : ℤ). nat_abs z ≤ 2048) (sym (clamp_in w16 q (abs_fits w16 q (omega (arith, s))))) s

-- ---- no magnitude is above the largest
module _ (l : List ℤ) where
  pub smax_range : (n : ℕ) → (pos 0 ≤ℤ smax_of n l) × (smax_of n l ≤ℤ pos 32767)
  unfolding smax_of abs clamp
  smax_range zero = (omega zarith, omega zarith)
  smax_range (suc n) =
      by_test (λ (z : ℤ). (pos 0 ≤ℤ z) × (z ≤ℤ pos 32767)) (lt_z (smax_of n l) (abs (at l n))) (abs (at l n)) (smax_of n l)
      (λ t. (omega zarith, omega zarith)) (λ t. smax_range n)

  pub smax_top : (n k : ℕ) → k < n → abs (at l k) ≤ℤ smax_of n l
  unfolding smax_of
  smax_top zero k h = absurd (omega arith)
  smax_top (suc n) k h =
      let s = smax_of n l in
      let a = abs (at l n) in
      either (abs (at l k) ≤ℤ smax_of (suc n) l) (ltb k n)
      (λ t.
      let i = smax_top n k (ltb-true k n t) in
      by_test (λ (z : ℤ). abs (at l k) ≤ℤ z) (lt_z s a) a s (λ u. omega (zarith, i)) (λ u. i))
      (λ t.
      let e : n ≡ k = omega (arith, ltb-false k n t) in
      subst (λ (j : ℕ). abs (at l j) ≤ℤ smax_of (suc n) l) e
      (by_test (λ (z : ℤ). a ≤ℤ z) (lt_z s a) a s (λ u. omega zarith) (λ u. omega zarith)))

-- ---- a shift that leaves the largest magnitude m below 2^15 leaves each below or at it: only that of -32768 is at it
each : (x : ℤ) (m n : ℕ) → SFits w16 x → abs x ≤ℤ pos m → m * 2 ^ n < 2 ^ 15 → nat_abs x * 2 ^ n ≤ 2 ^ 15
unfolding abs clamp
each x m zero f h r = omega (arith, fits_abs w16 x f)
each x m (suc n) f h r =
    let two : 2 ≤ 2 ^ suc n = omega (arith, pow_pos n) in
    let less : m < 2 ^ 14 = omega (arith, r, mul-le-mul_left m two) in
    let under : nat_abs x ≤ m = omega (zarith, h) in
    omega (arith, r, mul-le-mul_right (2 ^ suc n) under)

module _ (l : List ℤ) where
  by_factor : (t : ℤ) → ((k : ℕ) → nat_abs (at l k) * nat_abs t ≤ 2 ^ 26) → Small (row 160 (λ k. mult_r (at l k) t))
  by_factor t h = row_all (λ (z : ℤ). nat_abs z ≤ 2048) 160 (λ k. mult_r (at l k) t) (omega arith) (λ k. mult_r_small (at l k) t (h k))

  none : (s : ℤ) → s ≤ℤ pos 0 → ((k : ℕ) → nat_abs (at l k) ≤ 2048) → Small (scaled_of s l)
  unfolding scaled_of
  none s z h k = subst (λ (m : List ℤ). nat_abs (at m k) ≤ 2048) (sym (by_no _ _ (omega zarith))) (h k)

  -- with a norm n of the largest: four factors, and from 4 on none
  by_norm : (n : ℕ) → n ≤ 30 → ((k : ℕ) → nat_abs (at l k) * 2 ^ n ≤ 2 ^ 15) → Small (scaled_of (sub (pos 4) (pos n)) l)
  unfolding scaled_of sub clamp shift_right IF◌THEN◌ELSE◌
  by_norm zero r h = by_factor (pos 2048) (λ k. omega (arith, h k))
  by_norm (suc zero) r h = by_factor (pos 4096) (λ k. omega (arith, h k))
  by_norm (suc (suc zero)) r h = by_factor (pos 8192) (λ k. omega (arith, h k))
  by_norm (suc (suc (suc zero))) r h = by_factor (pos 16384) (λ k. omega (arith, h k))
  by_norm (suc (suc (suc (suc n)))) r h =
      let m = suc (suc (suc (suc n))) in
      none (sub (pos 4) (pos m)) (omega (zarith, sub_parts (pos 4) (pos m) (omega (zarith, minus (pos 4) (pos m)))))
      (λ k. omega (arith, h k, mul-le-mul_left (nat_abs (at l k)) (pow_mono {i = 4} {j = m} (omega arith))))

-- ---- the law
silent : (m : ℕ) → abs (pos 0) ≤ℤ pos m
unfolding abs clamp
silent m = omega zarith

module _ (l : List ℤ) (long : length l ≤ 160) (fits : (k : ℕ) → SFits w16 (at l k)) where
  abbrev m : ℕ
  m = nat_abs (smax_of 160 l)

  smax_is : smax_of 160 l ≡ pos m
  smax_is = let M = smax_of 160 l in omega (zarith, (smax_range l 160).0, of M, sign M)

  top : (k : ℕ) → abs (at l k) ≤ℤ pos m
  top k =
      either (abs (at l k) ≤ℤ pos m) (ltb k 160)
      (λ t. subst (λ (z : ℤ). abs (at l k) ≤ℤ z) smax_is (smax_top l 160 k (ltb-true k 160 t)))
      (λ t. subst (λ (z : ℤ). abs z ≤ℤ pos m) (sym (get_or-eq_default l (pos 0) (omega (arith, long, ltb-false k 160 t)))) (silent m))

  -- nothing but zeros
  quiet : m ≡ 0 → Small (scaled_of (scalauto_of (pos m)) l)
  unfolding scalauto_of
  quiet e =
      subst (λ (s : ℤ). Small (scaled_of s l)) (sym (by_yes _ _ (eqZ_yes (ap pos e))))
      (none l (pos 0) (omega zarith) (λ k. omega (arith, each (at l k) m 4 (fits k) (top k) (omega arith))))

  loud : 0 < m → Small (scaled_of (scalauto_of (pos m)) l)
  unfolding scalauto_of
  loud h =
      let under : m ≤ 32767 = omega (zarith, (smax_range l 160).1, same smax_is) in
      let z = pos (m * 65536) in
      let lifted : pos m << pos 16 ≡ z = left_exact w32 (pos m) 16 (abs_fits w32 z (omega arith)) in
      let b = norm_brings z (omega arith) (omega arith) in
      let n = nat_abs (norm z) in
      let high : m * 2 ^ n < 2 ^ 15 = omega (arith, b.high) in
      let r : n ≤ 30 = omega (arith, shift_high (nat_abs z) n b 0 (omega arith)) in
      let factor : scalauto_of (pos m) ≡ sub (pos 4) (pos n) = by_no _ _ (eqZ_no (λ e. omega (arith, same e))) ∙ ap (sub (pos 4)) (ap norm lifted ∙ norm_only z n b) in
      subst (λ (s : ℤ). Small (scaled_of s l)) (sym factor) (by_norm l n r (λ k. each (at l k) m n (fits k) (top k) high))

  pub small : Small (dynamic_of l)
  unfolding dynamic_of
  small =
      subst (λ (M : ℤ). Small (scaled_of (scalauto_of M) l)) (sym smax_is)
      (either (Small (scaled_of (scalauto_of (pos m)) l)) (ltb 0 m) (λ t. loud (ltb-true 0 m t)) (λ t. quiet (omega (arith, ltb-false 0 m t))))

-- ---- the factor is at most 4
less_4 : (n : ℕ) → sub (pos 4) (pos n) ≤ℤ pos 4
unfolding sub clamp
less_4 n = clamp_mono w16 (pos 4 -ℤ pos n) (pos 4) (omega (zarith, minus (pos 4) (pos n)))

norm_4 : (z : ℤ) → sub (pos 4) (norm z) ≤ℤ pos 4
unfolding norm
norm_4 (pos zero) = less_4 0
norm_4 (pos (suc n)) = less_4 (count_leading_zeros 31 (suc n))
norm_4 (negsuc n) = less_4 (count_leading_zeros 31 (suc n))

pub scalauto_le : (smax : ℤ) → scalauto_of smax ≤ℤ pos 4
unfolding scalauto_of
scalauto_le smax = by_test (λ (z : ℤ). z ≤ℤ pos 4) (eqZ smax (pos 0)) (pos 0) (sub (pos 4) (norm (smax << pos 16))) (λ t. omega zarith) (λ t. norm_4 (smax << pos 16))
