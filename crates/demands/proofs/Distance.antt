-- Of a frame with energy and a filter in its range: how far the exact energy lies from 6.1's filter sum, and from the mantissa of pvad.
-- Assumes nothing.
use mathlib.Core.Path.{◌≡◌, ap, ◌∙◌}
use mathlib.Core.List.{List}
use Prim.Native.Nat.{ℕ, ◌+◌, ◌*◌, ◌^◌, ◌<◌, ◌≤◌}
use native.Mathlib.Nat.{mul-le-mul_right}
use native.Mathlib.Omega.{arith}
use lib.IntN.{ℤ, nat_abs, pos, ◌+ℤ◌, ◌-ℤ◌, ◌*ℤ◌}
use lib.Pow.{pow-add}
use lib.Signed.{◌≤ℤ◌}
use Rattle.numbers.specs.Sum.{at}
use Rattle.numbers.proofs.Parts.{zarith, of, minus, plus, times}
use Rattle.numbers.proofs.Poly.{v, ◌⊕◌, ◌⊖◌, ◌⊗◌, ring}
use Rattle.numbers.proofs.Magnitude.{abs-+, abs-*}
use Rattle.operations.specs.Operations.{norm, shift_right, ◌<<◌, ◌>>◌}
use Rattle.operations.proofs.Lift.{lift_exact}
use Rattle.energy.specs.Energy.{sacf_of}
use Rattle.energy.specs.Exact.{exact_of}
use Rattle.energy.proofs.Range.{Frame, Filter, sacf_exact, filter_exact, filter_abs}
use Rattle.state.specs.Valid.{weight_of}
use Rattle.demands.specs.Distance.{e_of, w_of, l_of, a_of, p_of, distance_of, small_of}
use Rattle.demands.proofs.Linear.{d, exact_linear, exact_bound, left_over}

module _ (l_acf : List ℤ) (frame : Frame l_acf) (rvad : List ℤ) (ok : Filter rvad) where
  abbrev E : ℤ
  E = e_of l_acf rvad

  abbrev L : ℤ
  L = l_of l_acf rvad

  abbrev a : ℕ
  a = a_of l_acf

  abbrev p : ℕ
  p = p_of l_acf rvad

  pub plain : l_of l_acf rvad ≡ exact_of (at rvad) (sacf_of l_acf)
  unfolding l_of
  plain = filter_exact l_acf frame rvad ok

  pub sum_abs : nat_abs (l_of l_acf rvad) < 2 ^ 31
  unfolding l_of
  sum_abs = filter_abs l_acf frame rvad ok

  -- what the first shift leaves over
  spare : (k : ℕ) → nat_abs (at l_acf k *ℤ pos (2 ^ a) -ℤ pos (2 ^ 19) *ℤ sacf_of l_acf k) ≤ 524287
  unfolding sacf_of shift_right a_of
  spare k = rw (sacf_exact l_acf frame k) (left_over (at l_acf k *ℤ pos (2 ^ a)) 524287)

  -- E·2^a is within (2^19 - 1)·W of 2^19·L
  near : nat_abs (E *ℤ pos (2 ^ a) -ℤ pos (2 ^ 19) *ℤ L) ≤ small_of rvad
  unfolding e_of small_of w_of weight_of
  near =
      let A = pos (2 ^ a) in
      let D = pos (2 ^ 19) in
      let s : ℕ → ℤ = sacf_of l_acf in
      rw (plain, ← exact_linear (at rvad) (at l_acf) s A D) (exact_bound (at rvad) (d (at rvad) (at l_acf) s A D) 524287 spare)

  -- where L is not positive, the exact energy is small
  pub not_positive : l_of l_acf rvad ≤ℤ pos 0 → (e_of l_acf rvad *ℤ pos (2 ^ a_of l_acf)) ≤ℤ pos (small_of rvad)
  not_positive h =
      let x = E *ℤ pos (2 ^ a) in
      let y = pos (2 ^ 19) *ℤ L in
      omega (zarith, near, of (x -ℤ y), minus x y, times (pos (2 ^ 19)) L)

  -- ---- where L is positive
  module _ (positive : pos 1 ≤ℤ l_of l_acf rvad) where
    abbrev m : ℤ
    m = L << norm L >> pos 16

    some : 0 < nat_abs L
    some = omega (zarith, of L)

    -- what the second shift leaves over
    spare2 : nat_abs (L *ℤ pos (2 ^ p) -ℤ pos (2 ^ 16) *ℤ m) ≤ 65535
    unfolding shift_right p_of
    spare2 = rw (lift_exact L some sum_abs L (omega arith)) (left_over (L *ℤ pos (2 ^ p)) 65535)

    apart : nat_abs (E *ℤ pos (2 ^ (a + p)) -ℤ m *ℤ pos (2 ^ 35)) ≤ distance_of l_acf rvad
    unfolding distance_of
    apart =
        let A = pos (2 ^ a) in
        let P = pos (2 ^ p) in
        let u = E *ℤ A -ℤ pos (2 ^ 19) *ℤ L in
        let w = L *ℤ P -ℤ pos (2 ^ 16) *ℤ m in
        let e : E *ℤ pos (2 ^ (a + p)) -ℤ m *ℤ pos (2 ^ 35) ≡ u *ℤ P +ℤ pos (2 ^ 19) *ℤ w =
        ap (λ (n : ℕ). E *ℤ pos n -ℤ m *ℤ pos (2 ^ 35)) (pow-add 2 a p)
        ∙ ring (v E ⊗ (v A ⊗ v P) ⊖ v m ⊗ v (pos (2 ^ 35))) ((v E ⊗ v A ⊖ v (pos (2 ^ 19)) ⊗ v L) ⊗ v P ⊕ v (pos (2 ^ 19)) ⊗ (v L ⊗ v P ⊖ v (pos (2 ^ 16)) ⊗ v m)) (omega arith) in
        let n : nat_abs u ≤ 524287 * w_of rvad = unfold small_of in near in
        rw e (omega (arith, abs-+ (u *ℤ P) (pos (2 ^ 19) *ℤ w), abs-* u P, abs-* (pos (2 ^ 19)) w, mul-le-mul_right (2 ^ p) n, spare2))

    -- E·2^(a+p) is within the distance of m·2^35, from both sides
    pub not_below : ((l_of l_acf rvad << norm (l_of l_acf rvad) >> pos 16) *ℤ pos (2 ^ 35)) ≤ℤ (e_of l_acf rvad *ℤ pos (2 ^ (a_of l_acf + p_of l_acf rvad)) +ℤ pos (distance_of l_acf rvad))
    not_below =
        let x = E *ℤ pos (2 ^ (a + p)) in
        let y = m *ℤ pos (2 ^ 35) in
        omega (zarith, apart, of (x -ℤ y), minus x y, plus x (pos (distance_of l_acf rvad)))

    pub not_above : (e_of l_acf rvad *ℤ pos (2 ^ (a_of l_acf + p_of l_acf rvad))) ≤ℤ ((l_of l_acf rvad << norm (l_of l_acf rvad) >> pos 16) *ℤ pos (2 ^ 35) +ℤ pos (distance_of l_acf rvad))
    not_above =
        let x = E *ℤ pos (2 ^ (a + p)) in
        let y = m *ℤ pos (2 ^ 35) in
        omega (zarith, apart, of (x -ℤ y), minus x y, plus y (pos (distance_of l_acf rvad)))
