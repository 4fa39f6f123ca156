-- The energy that a step reports of an accepted frame with energy, and what it decides: its mantissa and exponent, their distance from the exact
-- energy, and the raw decision outside that distance. Assumes nothing.
use mathlib.Core.Path.{◌≡◌, refl, sym, ap, ap₂, ◌∙◌, subst}
use mathlib.Core.Bool.{Bool, true, false}
use mathlib.Core.List.{List}
use Prim.Native.Nat.{ℕ, ◌+◌, ◌*◌, ◌^◌, ◌<◌, ◌≤◌}
use native.Mathlib.Omega.{arith}
use lib.IntN.{ℤ, nat_abs, pos, negsuc, ◌+ℤ◌, ◌-ℤ◌, ◌*ℤ◌}
use lib.Pow.{pow-add}
use lib.Signed.{◌≤ℤ◌, ◌<ℤ◌}
use Rattle.numbers.specs.Sum.{at}
use Rattle.numbers.proofs.Parts.{zarith, of, sign, same, plus}
use Rattle.numbers.proofs.Poly.{v, ◌⊕◌, ◌⊖◌, ◌⊗◌, poly, ring}
use Rattle.operations.specs.Operations.{norm, ◌<<◌, ◌>>◌}
use Rattle.operations.proofs.Lift.{norm_is, norm_range}
use Rattle.pairs.specs.declared.Pair.{Pair}
use Rattle.pairs.proofs.Range.{Ranged}
use Rattle.energy.specs.Energy.{acf0_of, filter_sum_of, positive, pvad_of, energy_of}
use Rattle.energy.specs.declared.Energies.{Energies}
use Rattle.energy.proofs.Range.{Frame, Filter, positive_is, pvad_e, pvad_range, energy_is}
use Rattle.frames.specs.Frame.{Direction, samples_ok}
use Rattle.state.specs.declared.State.{State}
use Rattle.state.specs.Valid.{Shaped, Valid}
use Rattle.state.proofs.Facts.{valid}
use Rattle.detector.specs.Answer.{Answer}
use Rattle.detector.specs.Refusal.{refusal_of}
use Rattle.detector.specs.Step.{accepted_of, tone_read, tone_kept, answer_for}
use Rattle.detector.proofs.Table.{number_0, step_accepted}
use Rattle.detector.proofs.Keeps.{Numbers, Accepted, accepted, filter_ok, step_keeps}
use Rattle.detector.proofs.Frames.{decision_by_worth}
use Rattle.demands.specs.Distance.{e_of, l_of, a_of, p_of, distance_of, energy_units, distance_units, pair_units}
use Rattle.demands.proofs.Distance.{sum_abs, not_below, not_above}
use Rattle.demands.proofs.Decision.{worth_of_units, units_of_worth, over, under}

-- ---- exponents: all that is a power of two here has a natural one
module _ (scalvad normrvad : ℤ) (a p : ℕ) (s_low : pos 0 ≤ℤ scalvad) (r_low : pos 2 ≤ℤ normrvad) (r_high : normrvad ≤ℤ pos 9) (a_in : a ≤ 30) (p_in : p ≤ 30) where
  abbrev w : ℤ
  w = scalvad *ℤ pos 2 -ℤ normrvad -ℤ pos (a + p) +ℤ pos 76

  w_is : w ≡ pos (nat_abs w)
  w_is = omega (zarith, poly (v scalvad ⊗ v (pos 2) ⊖ v normrvad ⊖ v (pos (a + p)) ⊕ v (pos 76)), of w, sign w)

  pub exact_scale : nat_abs (scalvad *ℤ pos 2 -ℤ normrvad +ℤ pos 76) ≡ a + p + nat_abs (scalvad *ℤ pos 2 -ℤ normrvad -ℤ pos (a + p) +ℤ pos 76)
  exact_scale =
      let z = scalvad *ℤ pos 2 -ℤ normrvad +ℤ pos 76 in
      omega (zarith, same w_is, poly (v scalvad ⊗ v (pos 2) ⊖ v normrvad ⊖ v (pos (a + p)) ⊕ v (pos 76)), poly (v scalvad ⊗ v (pos 2) ⊖ v normrvad ⊕ v (pos 76)), of z, sign z)

  pub pair_scale : (e : ℤ) → e ≡ pos 46 +ℤ scalvad *ℤ pos 2 -ℤ pos a -ℤ normrvad -ℤ pos p
      → e +ℤ pos 65 ≡ pos (35 + nat_abs (scalvad *ℤ pos 2 -ℤ normrvad -ℤ pos (a + p) +ℤ pos 76))
  pair_scale e h =
      omega (
        zarith,
        same h,
        same w_is,
        plus e (pos 65),
        poly (v scalvad ⊗ v (pos 2) ⊖ v normrvad ⊖ v (pos (a + p)) ⊕ v (pos 76)),
        poly (v (pos 46) ⊕ v scalvad ⊗ v (pos 2) ⊖ v (pos a) ⊖ v normrvad ⊖ v (pos p)),
      )

is_false : (t : Bool) → (t ≡ true → ⊥) → t ≡ false
is_false true h = absurd (h refl)
is_false false h = refl

-- ---- the step
module _ (d : Direction) (l_acf : List ℤ) (lags : List ℕ) (scalvad : ℤ) (s : State) (fits : Numbers l_acf) (shape : Shaped s) (none : refusal_of (samples_ok d) l_acf lags scalvad s ≡ 0) (some : pos 1 ≤ℤ at l_acf 0) where
  abbrev r : Answer
  r = answer_for d l_acf lags scalvad s

  abbrev L : ℤ
  L = l_of l_acf s.rvad

  abbrev a : ℕ
  a = a_of l_acf

  abbrev p : ℕ
  p = p_of l_acf s.rvad

  ok : Accepted l_acf lags scalvad s
  ok = accepted (samples_ok d) l_acf lags scalvad s none

  pub frame : Frame l_acf
  frame = let z = at l_acf 0 in record { some = some; largest = ok.largest; fits = omega (zarith, of z, sign z, (fits 0).sfits, some) }

  pub filter : Filter s.rvad
  filter = filter_ok l_acf lags scalvad s fits shape ok

  abbrev q : Pair
  q = pvad_of (acf0_of l_acf scalvad).e s.normrvad (positive (filter_sum_of l_acf s.rvad))

  abbrev n : Valid s
  n = ok.state

  accepted_pvad : (accepted_of (tone_read d s) (tone_kept d) l_acf lags scalvad s).pvad ≡ (energy_of l_acf scalvad s.rvad s.normrvad).pvad
  unfolding accepted_of
  accepted_pvad = refl

  pvad_is : r.pvad ≡ q
  pvad_is =
      ap (λ (x : Answer). x.pvad) (step_accepted d l_acf lags scalvad s none)
      ∙ accepted_pvad
      ∙ ap (λ (x : Energies). x.pvad) (energy_is l_acf frame scalvad ok.scale.from ok.scale.to s.rvad filter s.normrvad n.normrvad.from n.normrvad.to)

  pvad_in : Ranged (negsuc 22) (pos 52) r.pvad
  pvad_in =
      subst (Ranged (negsuc 22) (pos 52)) (sym pvad_is)
      (pvad_range l_acf frame scalvad ok.scale.from ok.scale.to s.rvad filter s.normrvad n.normrvad.from n.normrvad.to)

  first_some : 0 < nat_abs (at l_acf 0)
  first_some = omega (zarith, of (at l_acf 0))

  a_is : norm (at l_acf 0) ≡ pos a
  unfolding a_of
  a_is = norm_is (at l_acf 0) first_some frame.fits

  a_in : a ≤ 30
  a_in = omega (zarith, norm_range (at l_acf 0) first_some frame.fits, same a_is)

  thvad_low : negsuc 31 ≤ℤ r.next.thvad.e
  thvad_low = (valid r.next (step_keeps l_acf lags scalvad s fits shape d ((number_0 (samples_ok d) l_acf lags scalvad s).0 none).2).0).exponent.from

  -- ---- where L is positive
  module _ (above : pos 0 <ℤ l_of l_acf s.rvad) where
    one : pos 1 ≤ℤ L
    one = omega zarith

    l_some : 0 < nat_abs L
    l_some = omega (zarith, of L)

    l_abs : nat_abs L < 2 ^ 31
    l_abs = sum_abs l_acf frame s.rvad filter

    p_is : norm L ≡ pos p
    unfolding p_of
    p_is = norm_is L l_some l_abs

    p_in : p ≤ 30
    p_in = omega (zarith, norm_range L l_some l_abs, same p_is)

    kept : positive (filter_sum_of l_acf s.rvad) ≡ L
    unfolding l_of
    kept = positive_is (filter_sum_of l_acf s.rvad) one

    mantissa : r.pvad.m ≡ L << norm L >> pos 16
    unfolding pvad_of
    mantissa = ap (λ (x : Pair). x.m) pvad_is ∙ ap (λ (z : ℤ). z << norm z >> pos 16) kept

    pub exponent : (answer_for d l_acf lags scalvad s).pvad.e ≡ pos 46 +ℤ scalvad *ℤ pos 2 -ℤ pos (a_of l_acf) -ℤ s.normrvad -ℤ pos (p_of l_acf s.rvad)
    exponent =
        ap (λ (x : Pair). x.e) pvad_is
        ∙ pvad_e l_acf frame scalvad ok.scale.from ok.scale.to s.rvad filter s.normrvad n.normrvad.from n.normrvad.to
        ∙ ap₂ (λ (x y : ℤ). pos 46 +ℤ scalvad *ℤ pos 2 -ℤ x -ℤ s.normrvad -ℤ y) a_is (ap norm kept ∙ p_is)

    abbrev Z : ℤ
    Z = e_of l_acf s.rvad *ℤ pos (2 ^ (a + p))

    abbrev D : ℕ
    D = distance_of l_acf s.rvad

    pub from_below : ((answer_for d l_acf lags scalvad s).pvad.m *ℤ pos (2 ^ 35)) ≤ℤ (e_of l_acf s.rvad *ℤ pos (2 ^ (a_of l_acf + p_of l_acf s.rvad)) +ℤ pos (distance_of l_acf s.rvad))
    from_below = subst (λ (z : ℤ). (z *ℤ pos (2 ^ 35)) ≤ℤ (Z +ℤ pos D)) (sym mantissa) (not_below l_acf frame s.rvad filter one)

    pub from_above : (e_of l_acf s.rvad *ℤ pos (2 ^ (a_of l_acf + p_of l_acf s.rvad))) ≤ℤ ((answer_for d l_acf lags scalvad s).pvad.m *ℤ pos (2 ^ 35) +ℤ pos (distance_of l_acf s.rvad))
    from_above = subst (λ (z : ℤ). Z ≤ℤ (z *ℤ pos (2 ^ 35) +ℤ pos D)) (sym mantissa) (not_above l_acf frame s.rvad filter one)

    -- ---- in the units of the decision
    abbrev u : ℕ
    u = nat_abs (scalvad *ℤ pos 2 -ℤ s.normrvad -ℤ pos (a + p) +ℤ pos 76)

    energy_units_lem : energy_units l_acf s.rvad scalvad s.normrvad ≡ Z *ℤ pos (2 ^ u)
    unfolding energy_units
    energy_units_lem =
        let E = e_of l_acf s.rvad in
        ap (λ (k : ℕ). E *ℤ pos (2 ^ k)) (exact_scale scalvad s.normrvad a p ok.scale.from n.normrvad.from n.normrvad.to a_in p_in)
        ∙ ap (λ (k : ℕ). E *ℤ pos k) (pow-add 2 (a + p) u)
        ∙ ring (v E ⊗ (v (pos (2 ^ (a + p))) ⊗ v (pos (2 ^ u)))) (v E ⊗ v (pos (2 ^ (a + p))) ⊗ v (pos (2 ^ u))) (omega arith)

    distance_units_lem : distance_units l_acf s.rvad scalvad s.normrvad ≡ D * 2 ^ u
    unfolding distance_units
    distance_units_lem = refl

    scale : r.pvad.e +ℤ pos 65 ≡ pos (35 + u)
    scale = pair_scale scalvad s.normrvad a p ok.scale.from n.normrvad.from n.normrvad.to a_in p_in r.pvad.e exponent

    m_some : pos 0 ≤ℤ r.pvad.m
    m_some = omega (zarith, pvad_in.mantissa.low)

    e_low : negsuc 31 ≤ℤ r.pvad.e
    e_low = omega (zarith, pvad_in.e_low)

    pub speech : (pos (pair_units (answer_for d l_acf lags scalvad s).next.thvad + distance_units l_acf s.rvad scalvad s.normrvad)) <ℤ (energy_units l_acf s.rvad scalvad s.normrvad)
        → (answer_for d l_acf lags scalvad s).vvad ≡ true
    speech h =
        let t = pair_units r.next.thvad in
        let i : pos (t + D * 2 ^ u) <ℤ (Z *ℤ pos (2 ^ u)) = rw (distance_units_lem, energy_units_lem) at h in
        (decision_by_worth d l_acf lags scalvad s fits shape none).1
        (worth_of_units r.pvad r.next.thvad e_low thvad_low (over r.pvad Z D u m_some scale from_below from_above t i))

    pub quiet : (energy_units l_acf s.rvad scalvad s.normrvad +ℤ pos (distance_units l_acf s.rvad scalvad s.normrvad)) ≤ℤ (pos (pair_units (answer_for d l_acf lags scalvad s).next.thvad))
        → (answer_for d l_acf lags scalvad s).vvad ≡ false
    quiet h =
        let t = pair_units r.next.thvad in
        let i : (Z *ℤ pos (2 ^ u) +ℤ pos (D * 2 ^ u)) ≤ℤ pos t = rw (distance_units_lem, energy_units_lem) at h in
        let k = under r.pvad Z D u m_some scale from_below from_above t i in
        is_false r.vvad (λ y. omega (arith, units_of_worth r.pvad r.next.thvad e_low thvad_low ((decision_by_worth d l_acf lags scalvad s fits shape none).0 y)))
