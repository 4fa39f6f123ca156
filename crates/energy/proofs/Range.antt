-- Clause 6.1 on a frame with energy and a filter in its range: no step of it clips or loses bits, and where its two energies lie. Assumes nothing.
use mathlib.Core.Path.{◌≡◌, refl, sym, ap, ap₂, ◌∙◌, subst}
use mathlib.Core.Bool.{false}
use mathlib.Core.List.{List}
use mathlib.Core.Logic.{◌⊎◌, ⊎_elim}
use Prim.Native.Nat.{ℕ, suc, ◌+◌, ◌*◌, ◌^◌, ◌<◌, ◌≤◌}
use native.Mathlib.Nat.{mul-le-mul, mul-le-mul_left}
use native.Mathlib.Omega.{arith}
use lib.Dec.{T}
use lib.IntN.{ℤ, nat_abs, pos, negsuc, ◌+ℤ◌, ◌-ℤ◌, ◌*ℤ◌}
use lib.Signed.{le_z, ◌≤ℤ◌}
use mir.Syntax.{w16, w32}
use Rattle.numbers.specs.Sum.{sum, total, at}
use Rattle.numbers.proofs.Parts.{up, down, zarith, plus, minus, times, of, sign, same}
use Rattle.numbers.proofs.Poly.{v, ◌⊕◌, ◌⊖◌, ◌⊗◌, poly, ring}
use Rattle.numbers.proofs.Magnitude.{abs-+, abs-*, abs_fits}
use Rattle.numbers.proofs.Floor.{floor_abs}
use Rattle.numbers.proofs.Sum.{sum_le}
use Rattle.numbers.proofs.Scale.{total_has, total_mono, total_scale, sum_scale}
use Rattle.operations.specs.Operations.{add, sub, l_add, l_mult, norm, shift_right, ◌<<◌, ◌>>◌, ◌<<ₛ◌}
use Rattle.operations.proofs.Laws.{l_add_exact, l_mult_exact}
use Rattle.operations.proofs.Exact.{add_parts, sub_parts, left_parts, right_parts}
use Rattle.operations.proofs.Lift.{norm_range, lift_abs, lift_exact, lift_high}
use Rattle.rows.specs.Rows.{l_sum}
use Rattle.rows.proofs.Choice.{by_yes, by_no, by_test, eqZ_yes, eqZ_no}
use Rattle.rows.proofs.Sum.{l_sum_exact, l_sum_ext}
use Rattle.pairs.specs.declared.Pair.{Pair}
use Rattle.pairs.specs.Pairs.{pair, silent, greater_of}
use Rattle.pairs.proofs.Order.{above, not_greater_e}
use Rattle.pairs.proofs.Range.{Mantissa, Ranged}
use Rattle.energy.specs.declared.Energies.{Energies}
use Rattle.energy.specs.Energy.{sacf_of, acf0_of, filter_sum_of, positive, pvad_of, energy_of}
use Rattle.energy.specs.Exact.{exact_of}

-- a frame with energy, of which no entry is larger than the first
pub record Frame (l_acf : List ℤ) : Type 0 where
  pub some : pos 1 ≤ℤ at l_acf 0
  pub largest : (k : ℕ) → nat_abs (at l_acf k) ≤ nat_abs (at l_acf 0)
  pub fits : nat_abs (at l_acf 0) < 2 ^ 31

-- a filter whose first coefficient is normalised, and whose others are together at most about four times it
pub record Filter (rvad : List ℤ) : Type 0 where
  pub low : pos 16384 ≤ℤ at rvad 0
  pub high : at rvad 0 ≤ℤ pos 32767
  pub rest : total 8 (λ k. nat_abs (at rvad (suc k))) ≤ 4 * nat_abs (at rvad 0) + 11

-- ---- the scaled autocorrelations
module _ (l_acf : List ℤ) (frame : Frame l_acf) where
  first_some : 0 < nat_abs (at l_acf 0)
  first_some = omega (zarith, frame.some, of (at l_acf 0))

  abbrev a : ℕ
  a = nat_abs (norm (at l_acf 0))

  -- the shift to the left loses nothing
  pub sacf_exact : (k : ℕ) → at l_acf k << norm (at l_acf 0) ≡ at l_acf k *ℤ pos (2 ^ nat_abs (norm (at l_acf 0)))
  sacf_exact k = lift_exact (at l_acf 0) first_some frame.fits (at l_acf k) (frame.largest k)

  pub sacf_small : (k : ℕ) → nat_abs (sacf_of l_acf k) ≤ 4096
  unfolding sacf_of shift_right
  sacf_small k =
      rw (sacf_exact k) (omega (arith, floor_abs (at l_acf k *ℤ pos (2 ^ a)) 524287, lift_abs (at l_acf 0) first_some frame.fits (at l_acf k) (frame.largest k)))

  pub sacf_first : (pos 2048 ≤ℤ sacf_of l_acf 0) × (sacf_of l_acf 0 ≤ℤ pos 4095)
  unfolding sacf_of
  sacf_first =
      let x = at l_acf 0 << norm (at l_acf 0) in
      let h = lift_high (at l_acf 0) first_some frame.fits frame.some in
      let r = right_parts w32 x 19 in
      (omega zarith, omega zarith)

-- ---- the filter sum, of numbers of 13 bits
module _ (s : ℕ → ℤ) (small : (k : ℕ) → nat_abs (s k) ≤ 4096) (rvad : List ℤ) (ok : Filter rvad) where
  abbrev r : ℕ → ℤ
  r = at rvad

  R : nat_abs (r 0) ≤ 32767
  R = omega (zarith, ok.low, ok.high, of (r 0), sign (r 0))

  abbrev b : ℕ → ℕ
  b k = nat_abs (r (suc k))

  B_in : total 8 b ≤ 131079
  B_in = omega (arith, ok.rest, R)

  abbrev term : ℕ → ℤ
  term k = r (suc k) *ℤ s (suc k) *ℤ pos 2

  term_is : (k : ℕ) → k < 8 → l_mult (s (suc k)) (r (suc k)) ≡ term k
  term_is k h =
      l_mult_exact (s (suc k)) (r (suc k)) (omega (arith, mul-le-mul {n₁ = nat_abs (s (suc k))} {m₁ = b k} {n₂ = 4096} {m₂ = 131079} (small (suc k)) (omega (arith, total_has b 8 k h, B_in))))
      ∙ ring (v (s (suc k)) ⊗ v (r (suc k)) ⊗ v (pos 2)) (v (r (suc k)) ⊗ v (s (suc k)) ⊗ v (pos 2)) (omega arith)

  term_le : (k : ℕ) → nat_abs (term k) ≤ 8192 * b k
  term_le k = omega (arith, abs-* (r (suc k) *ℤ s (suc k)) (pos 2), abs-* (r (suc k)) (s (suc k)), mul-le-mul_left (b k) (small (suc k)))

  -- each partial sum is exact
  pub partial : (n : ℕ) → n ≤ 8 → l_sum n (λ k. l_mult (s (suc k)) (r (suc k))) ≡ sum n (λ k. r (suc k) *ℤ s (suc k) *ℤ pos 2)
  partial n h =
      l_sum_ext n (λ k. l_mult (s (suc k)) (r (suc k))) term (λ k l. term_is k (omega arith))
      ∙ l_sum_exact term (λ k. 8192 * b k) n (λ k l. term_le k) (omega (arith, total_scale b 8192 n, total_mono b n 8 h, B_in))

  half : (z : ℤ) → z *ℤ pos 2 >> pos 1 ≡ z
  half z = omega (zarith, right_parts w32 (z *ℤ pos 2) 1, times z (pos 2))

  first_is : l_mult (s 0) (r 0) >> pos 1 ≡ r 0 *ℤ s 0
  first_is =
      ap (λ (z : ℤ). z >> pos 1) (l_mult_exact (s 0) (r 0) (omega (arith, mul-le-mul {n₁ = nat_abs (s 0)} {m₁ = nat_abs (r 0)} {n₂ = 4096} {m₂ = 32767} (small 0) R)))
      ∙ half (s 0 *ℤ r 0)
      ∙ ring (v (s 0) ⊗ v (r 0)) (v (r 0) ⊗ v (s 0)) (omega arith)

  -- the whole sum, and that it is in the range
  abbrev eight : ℤ
  eight = sum 8 term

  whole_le : nat_abs (eight +ℤ r 0 *ℤ s 0) ≤ 1208012800
  whole_le =
      omega (
        arith,
        abs-+ eight (r 0 *ℤ s 0),
        sum_le 8 term (λ k. 8192 * b k) (λ k l. term_le k),
        total_scale b 8192 8,
        B_in,
        abs-* (r 0) (s 0),
        mul-le-mul {n₁ = nat_abs (r 0)} {m₁ = nat_abs (s 0)} {n₂ = 32767} {m₂ = 4096} R (small 0),
      )

  whole_is : eight +ℤ r 0 *ℤ s 0 ≡ exact_of r s
  unfolding exact_of
  whole_is =
      let Q = sum 8 (λ k. r (suc k) *ℤ s (suc k)) in
      let x = r 0 *ℤ s 0 in
      ap (λ (y : ℤ). y +ℤ x) (sum_scale (pos 2) (λ k. r (suc k) *ℤ s (suc k)) 8) ∙ ring (v Q ⊗ v (pos 2) ⊕ v x) (v x ⊕ v Q ⊗ v (pos 2)) (omega arith)

  pub exact_le : nat_abs (exact_of r s) ≤ 1208012800
  exact_le = subst (λ (z : ℤ). nat_abs z ≤ 1208012800) whole_is whole_le

  pub sum_exact : l_add (l_sum 8 (λ k. l_mult (s (suc k)) (r (suc k)))) (l_mult (s 0) (r 0) >> pos 1) ≡ exact_of r s
  sum_exact =
      ap₂ l_add (partial 8 (omega arith)) first_is
      ∙ l_add_exact eight (r 0 *ℤ s 0) (abs_fits w32 (eight +ℤ r 0 *ℤ s 0) (omega (arith, whole_le)))
      ∙ whole_is

-- ---- of a frame and a filter
module _ (l_acf : List ℤ) (frame : Frame l_acf) (rvad : List ℤ) (ok : Filter rvad) where
  pub filter_exact : filter_sum_of l_acf rvad ≡ exact_of (at rvad) (sacf_of l_acf)
  unfolding filter_sum_of
  filter_exact = sum_exact (sacf_of l_acf) (sacf_small l_acf frame) rvad ok

  pub filter_abs : nat_abs (filter_sum_of l_acf rvad) < 2 ^ 31
  filter_abs = rw filter_exact (omega (arith, exact_le (sacf_of l_acf) (sacf_small l_acf frame) rvad ok))

-- ---- the energy of the frame
module _ (l_acf : List ℤ) (frame : Frame l_acf) (scalvad : ℤ) (s_low : pos 0 ≤ℤ scalvad) (s_high : scalvad ≤ℤ pos 4) where
  abbrev n0 : ℤ
  n0 = norm (at l_acf 0)

  n0_in : (pos 0 ≤ℤ n0) × (n0 ≤ℤ pos 30)
  n0_in = norm_range (at l_acf 0) (first_some l_acf frame) frame.fits

  -- no step of its exponent clips
  pub acf0_e : (acf0_of l_acf scalvad).e ≡ pos 32 +ℤ scalvad *ℤ pos 2 -ℤ norm (at l_acf 0)
  unfolding acf0_of
  acf0_e =
      let d = scalvad <<ₛ pos 1 in
      let h = n0_in in
      let t = times scalvad (pos 2) in
      let l = left_parts w16 scalvad 1 (omega zarith) in
      let x = add (pos 32) d in
      let p = add_parts (pos 32) d (omega (zarith, plus (pos 32) d)) in
      let q = sub_parts x n0 (omega (zarith, minus x n0)) in
      omega (zarith, plus (pos 32) (scalvad *ℤ pos 2), minus (pos 32 +ℤ scalvad *ℤ pos 2) n0)

  pub acf0_m : (pos 16384 ≤ℤ (acf0_of l_acf scalvad).m) × ((acf0_of l_acf scalvad).m ≤ℤ pos 32760)
  unfolding acf0_of
  acf0_m =
      let x = sacf_of l_acf 0 in
      let h = sacf_first l_acf frame in
      let l = left_parts w16 x 3 (omega (zarith, times x (pos 8))) in
      (omega zarith, omega zarith)

  pub acf0_range : Ranged (pos 2) (pos 40) (acf0_of l_acf scalvad)
  acf0_range =
      let e = same acf0_e in
      let h = n0_in in
      let m = acf0_m in
      let x = pos 32 +ℤ scalvad *ℤ pos 2 in
      let p = plus (pos 32) (scalvad *ℤ pos 2) in
      let q = minus x n0 in
      let t = times scalvad (pos 2) in
      record { e_low = omega zarith; e_high = omega zarith; mantissa = record { low = m.0; high = omega zarith } }

-- ---- what stands for a sum that is not positive
pub positive_some : (x : ℤ) → pos 1 ≤ℤ positive x
unfolding positive
positive_some x = by_test (λ (z : ℤ). pos 1 ≤ℤ z) (le_z x (pos 0)) (pos 1) x (λ t. omega zarith) (λ t. omega zarith)

pub positive_is : (x : ℤ) → pos 1 ≤ℤ x → positive x ≡ x
unfolding positive
positive_is x h = by_test (λ (z : ℤ). z ≡ x) (le_z x (pos 0)) (pos 1) x (λ t. absurd (omega zarith)) (λ t. refl)

positive_abs : (x : ℤ) → nat_abs x < 2 ^ 31 → nat_abs (positive x) < 2 ^ 31
unfolding positive
positive_abs x h = by_test (λ (z : ℤ). nat_abs z < 2 ^ 31) (le_z x (pos 0)) (pos 1) x (λ t. omega arith) (λ t. h)

-- ---- the filtered energy, of a positive sum
module _ (e normrvad : ℤ) (l_temp : ℤ) (e_low : pos 2 ≤ℤ e) (e_high : e ≤ℤ pos 40) (r_low : pos 2 ≤ℤ normrvad) (r_high : normrvad ≤ℤ pos 9) (some : pos 1 ≤ℤ l_temp) (fits : nat_abs l_temp < 2 ^ 31) where
  l_some : 0 < nat_abs l_temp
  l_some = omega (zarith, of l_temp)

  p_in : (pos 0 ≤ℤ norm l_temp) × (norm l_temp ≤ℤ pos 30)
  p_in = norm_range l_temp l_some fits

  pub pvad_steps : (pvad_of e normrvad l_temp).e ≡ e +ℤ pos 14 -ℤ normrvad -ℤ norm l_temp
  unfolding pvad_of
  pvad_steps =
      let n = norm l_temp in
      let h = p_in in
      let x = add e (pos 14) in
      let y = sub x normrvad in
      let i = add_parts e (pos 14) (omega (zarith, plus e (pos 14))) in
      let j = sub_parts x normrvad (omega (zarith, minus x normrvad)) in
      let k = sub_parts y n (omega (zarith, minus y n)) in
      omega (zarith, plus e (pos 14), minus (e +ℤ pos 14) normrvad, minus (e +ℤ pos 14 -ℤ normrvad) n)

  pub pvad_mantissa : Mantissa (pvad_of e normrvad l_temp).m
  unfolding pvad_of
  pvad_mantissa =
      let h = lift_high l_temp l_some fits some in
      let r = right_parts w32 (l_temp << norm l_temp) 16 in
      record { low = omega zarith; high = omega zarith }

-- ---- the two energies of a frame
module _ (l_acf : List ℤ) (frame : Frame l_acf) (scalvad : ℤ) (s_low : pos 0 ≤ℤ scalvad) (s_high : scalvad ≤ℤ pos 4)
    (rvad : List ℤ) (ok : Filter rvad) (normrvad : ℤ) (r_low : pos 2 ≤ℤ normrvad) (r_high : normrvad ≤ℤ pos 9) where
  abbrev l_temp : ℤ
  l_temp = positive (filter_sum_of l_acf rvad)

  abbrev acf0 : Pair
  acf0 = acf0_of l_acf scalvad

  abbrev pvad : Pair
  pvad = pvad_of acf0.e normrvad l_temp

  a_in : Ranged (pos 2) (pos 40) acf0
  a_in = acf0_range l_acf frame scalvad s_low s_high

  l_abs : nat_abs l_temp < 2 ^ 31
  l_abs = positive_abs (filter_sum_of l_acf rvad) (filter_abs l_acf frame rvad ok)

  l_some' : 0 < nat_abs l_temp
  l_some' = omega (zarith, positive_some (filter_sum_of l_acf rvad), of l_temp)

  steps : pvad.e ≡ acf0.e +ℤ pos 14 -ℤ normrvad -ℤ norm l_temp
  steps = pvad_steps acf0.e normrvad l_temp a_in.e_low a_in.e_high r_low r_high (positive_some (filter_sum_of l_acf rvad)) l_abs

  -- no step of its exponent clips
  pub pvad_e : (pvad_of (acf0_of l_acf scalvad).e normrvad (positive (filter_sum_of l_acf rvad))).e
      ≡ pos 46 +ℤ scalvad *ℤ pos 2 -ℤ norm (at l_acf 0) -ℤ normrvad -ℤ norm (positive (filter_sum_of l_acf rvad))
  pvad_e =
      let n = norm (at l_acf 0) in
      let p = norm l_temp in
      let z = scalvad *ℤ pos 2 in
      steps
      ∙ ap (λ (x : ℤ). x +ℤ pos 14 -ℤ normrvad -ℤ p) (acf0_e l_acf frame scalvad s_low s_high)
      ∙ ring (v (pos 32) ⊕ v z ⊖ v n ⊕ v (pos 14) ⊖ v normrvad ⊖ v p) (v (pos 46) ⊕ v z ⊖ v n ⊖ v normrvad ⊖ v p) (omega arith)

  parts : up pvad.e + down acf0.e + up normrvad + up (norm l_temp) ≡ down pvad.e + up acf0.e + 14 + down normrvad + down (norm l_temp)
  parts = omega (arith, same steps, poly (v acf0.e ⊕ v (pos 14) ⊖ v normrvad ⊖ v (norm l_temp)))

  pub pvad_range : Ranged (negsuc 22) (pos 52) (pvad_of (acf0_of l_acf scalvad).e normrvad (positive (filter_sum_of l_acf rvad)))
  pvad_range =
      let q = norm_range l_temp l_some' l_abs in
      record {
        e_low = omega (zarith, parts, a_in.e_low);
        e_high = omega (zarith, parts, a_in.e_high);
        mantissa = pvad_mantissa acf0.e normrvad l_temp a_in.e_low a_in.e_high r_low r_high (positive_some (filter_sum_of l_acf rvad)) l_abs;
      }

  -- where the frame's energy is not below (19, 18750), the floor of 6.6
  pub pvad_loud : greater_of (pair (pos 19) (pos 18750)) (acf0_of l_acf scalvad) ≡ false
      → Ranged (negsuc 5) (pos 52) (pvad_of (acf0_of l_acf scalvad).e normrvad (positive (filter_sum_of l_acf rvad)))
  pvad_loud g =
      let q = norm_range l_temp l_some' l_abs in
      let h = not_greater_e (pair (pos 19) (pos 18750)) acf0 g in
      let r = pvad_range in
      record { e_low = omega (zarith, parts); e_high = r.e_high; mantissa = r.mantissa }

  -- the whole clause, of such a frame
  pub energy_is : energy_of l_acf scalvad rvad normrvad ≡ record { acf0 = acf0; pvad = pvad }
  unfolding energy_of
  energy_is = by_no _ _ (eqZ_no (λ e. omega (zarith, frame.some, same e)))

-- ---- the whole clause, of any frame: what 6.6 asks of pvad
module _ (l_acf : List ℤ) (scalvad : ℤ) (rvad : List ℤ) (normrvad : ℤ) where
  abbrev E : Energies
  E = energy_of l_acf scalvad rvad normrvad

  pub energy_silent : at l_acf 0 ≡ pos 0 → E ≡ record { acf0 = silent; pvad = silent }
  unfolding energy_of
  energy_silent e = by_yes _ _ (eqZ_yes e)

  pub energy_loud : (at l_acf 0 ≡ pos 0) ⊎ Frame l_acf → pos 0 ≤ℤ scalvad → scalvad ≤ℤ pos 4 → Filter rvad → pos 2 ≤ℤ normrvad → normrvad ≤ℤ pos 9
      → greater_of (pair (pos 19) (pos 18750)) E.acf0 ≡ false → Ranged (negsuc 5) (pos 52) E.pvad
  energy_loud kind s_low s_high ok r_low r_high =
      let P : Energies → Type 0 = λ (x : Energies). greater_of (pair (pos 19) (pos 18750)) x.acf0 ≡ false → Ranged (negsuc 5) (pos 52) x.pvad in
      ⊎_elim
      (λ e. subst P (sym (energy_silent e)) (λ g. absurd (subst T (above (pair (pos 19) (pos 18750)) silent refl ∙ g) tt)))
      (λ f. subst P (sym (energy_is l_acf f scalvad s_low s_high rvad ok normrvad r_low r_high)) (pvad_loud l_acf f scalvad s_low s_high rvad ok normrvad r_low r_high))
      kind
