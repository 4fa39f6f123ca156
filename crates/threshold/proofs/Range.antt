-- Clause 6.6 keeps the threshold in its range: an exponent from -32 to 64 and a normalised mantissa. Then the whole clause. Assumes nothing.
use mathlib.Core.Path.{◌≡◌, refl, sym, ◌∙◌, subst}
use mathlib.Core.Bool.{Bool, true, false, not, ◌||◌}
use mathlib.Core.List.{List}
use Prim.Native.Nat.{◌+◌, ◌*◌, ◌/◌, ◌^◌, ◌≤◌}
use native.Mathlib.Nat.{mul-le-mul_left, div-add-mod'}
use native.Mathlib.Omega.{arith}
use lib.Dec.{T}
use lib.IntN.{ℤ, pos, negsuc, ◌+ℤ◌}
use lib.Pow.{pow_mono}
use lib.Signed.{lt_z, le_z, ◌≤ℤ◌}
use mir.Syntax.{w16, w32}
use Rattle.numbers.proofs.Parts.{up, down, zarith, plus, minus, times, same, eq}
use Rattle.operations.specs.Operations.{add, sub, l_add, short, shift_right, ◌>>◌, ◌<<ₛ◌, ◌>>ₛ◌}
use Rattle.operations.proofs.Exact.{add_parts, sub_parts, l_add_parts, short_parts, left_parts, right_parts}
use Rattle.rows.specs.Choice.{IF◌THEN◌ELSE◌, eqZ}
use Rattle.rows.proofs.Choice.{by_test, eqZ_yes, eqZ_is}
use Rattle.pairs.specs.declared.Pair.{Pair}
use Rattle.pairs.specs.Pairs.{pair, greater_of}
use Rattle.pairs.proofs.Order.{greater_e, not_greater_e}
use Rattle.pairs.proofs.Range.{Ranged, widened}
use Rattle.threshold.specs.declared.Kept.{Kept}
use Rattle.threshold.specs.Threshold.{PTH, fitted_of, lowered_of, tripled_of, raised_of, margin_of, at_most_of, adapted_of, adapt_of}

-- ---- a mantissa below 2^16, fitted
module _ (lo hi e x : ℤ) (a : lo ≤ℤ e) (b : e ≤ℤ hi) (low : pos 16384 ≤ℤ x) (high : x ≤ℤ pos 65535) (small : negsuc 99 ≤ℤ lo) (large : hi ≤ℤ pos 99) where
  fitted_range : Ranged lo (hi +ℤ pos 1) (fitted_of e x)
  unfolding fitted_of
  fitted_range =
      let h = plus hi (pos 1) in
      by_test (Ranged lo (hi +ℤ pos 1)) (lt_z (pos 32767) x) (pair (add e (pos 1)) (short (x >> pos 1))) (pair e (short x))
      (λ t.
      let u = add_parts e (pos 1) (omega (zarith, plus e (pos 1))) in
      let r = right_parts w32 x 1 in
      let s = short_parts {x = x >> pos 1} (omega zarith) in
      record { e_low = omega zarith; e_high = omega zarith; mantissa = record { low = omega zarith; high = omega zarith } })
      (λ t.
      let s = short_parts {x = x} (omega zarith) in
      record { e_low = a; e_high = omega zarith; mantissa = record { low = omega zarith; high = omega zarith } })

-- ---- thvad-(thvad/dec). At the exponent -33 the mantissa is at least 31744: as one linear fact, since it is at least 16384 at every other
abbrev Near : Pair → Type 0
Near q = 31744 + 15360 * down q.e + down q.m ≤ 15360 * up q.e + 15360 * 33 + up q.m

lowered_range : (t : Pair) → Ranged (negsuc 31) (pos 64) t → Ranged (negsuc 32) (pos 64) (lowered_of t) × Near (lowered_of t)
unfolding lowered_of
lowered_range t w =
    let k = w.mantissa in
    let q = t.m >>ₛ pos 5 in
    let x = sub t.m q in
    let r = right_parts w16 t.m 5 in
    let s = sub_parts t.m q (omega (zarith, minus t.m q, k.low, k.high)) in
    by_test (λ (z : Pair). Ranged (negsuc 32) (pos 64) z × Near z) (lt_z x (pos 16384)) (pair (sub t.e (pos 1)) (x <<ₛ pos 1)) (pair t.e x)
    (λ i.
    let u = sub_parts t.e (pos 1) (omega (zarith, minus t.e (pos 1), w.e_low, w.e_high)) in
    let v = left_parts w16 x 1 (omega (zarith, times x (pos 2), k.low)) in
    (record { e_low = omega (zarith, w.e_low); e_high = omega (zarith, w.e_high); mantissa = record { low = omega (zarith, k.low); high = omega zarith } }, omega (zarith, k.low, w.e_low)))
    (λ i. (record { e_low = omega (zarith, w.e_low); e_high = w.e_high; mantissa = record { low = omega zarith; high = omega (zarith, k.low, k.high) } }, omega (zarith, w.e_low, i)))

-- ---- pvad*fac
tripled_range : (p : Pair) → Ranged (negsuc 5) (pos 52) p → Ranged (negsuc 4) (pos 54) (tripled_of p)
unfolding tripled_of
tripled_range p w =
    let k = w.mantissa in
    let m = p.m in
    let two = l_add m m in
    let three = l_add two m in
    let a = add_parts p.e (pos 1) (omega (zarith, plus p.e (pos 1), w.e_low, w.e_high)) in
    let b = l_add_parts m m (omega (zarith, plus m m, k.low, k.high)) in
    let c = l_add_parts two m (omega (zarith, plus two m, k.low, k.high)) in
    let r = right_parts w32 three 1 in
    fitted_range (negsuc 4) (pos 53) (add p.e (pos 1)) (three >> pos 1) (omega (zarith, w.e_low)) (omega (zarith, w.e_high)) (omega (zarith, k.low)) (omega (zarith, k.high)) (omega zarith) (omega zarith)

-- ---- thvad+(thvad/inc), where thvad is below pvad*fac
raised_range : (t : Pair) → Ranged (negsuc 32) (pos 54) t → Near t → Ranged (negsuc 31) (pos 55) (raised_of t)
unfolding raised_of fitted_of
raised_range t w n =
    let k = w.mantissa in
    let q = t.m >>ₛ pos 4 in
    let x = l_add t.m q in
    let r = right_parts w16 t.m 4 in
    let s = l_add_parts t.m q (omega (zarith, plus t.m q, k.low, k.high)) in
    by_test (Ranged (negsuc 31) (pos 55)) (lt_z (pos 32767) x) (pair (add t.e (pos 1)) (short (x >> pos 1))) (pair t.e (short x))
    (λ i.
    let u = add_parts t.e (pos 1) (omega (zarith, plus t.e (pos 1), w.e_low, w.e_high)) in
    let v = right_parts w32 x 1 in
    let z = short_parts {x = x >> pos 1} (omega (zarith, k.high)) in
    record { e_low = omega (zarith, w.e_low); e_high = omega (zarith, w.e_high); mantissa = record { low = omega zarith; high = omega (zarith, k.high) } })
    (λ i.
    let z = short_parts {x = x} (omega (zarith, k.low)) in
    record { e_low = omega (zarith, n); e_high = omega (zarith, w.e_high); mantissa = record { low = omega (zarith, k.low); high = omega zarith } })

-- ---- pvad+margin, in its three cases
eqZ_differ : (x y : ℤ) → eqZ x y ≡ false → up x + down y ≡ up y + down x → ⊥
eqZ_differ x y f e = absurd (subst T (sym (eqZ_yes (eq x y e)) ∙ f) tt)

right_half : (x n : ℤ) → pos 0 ≤ℤ x → pos 1 ≤ℤ n → (down (x >>ₛ n) ≡ 0) × (2 * up (x >>ₛ n) + down x ≤ up x)
unfolding shift_right
right_half (pos x) (pos n) h l = let j : 1 ≤ n = omega zarith in (refl, omega (arith, div-add-mod' x (2 ^ n), mul-le-mul_left (x / 2 ^ n) (pow_mono j)))
right_half (negsuc x) (pos n) h l = absurd (omega zarith)
right_half x (negsuc n) h l = absurd (omega zarith)

module _ (p : Pair) (w : Ranged (negsuc 5) (pos 52) p) where
  abbrev In : Pair → Type 0
  In = Ranged (pos 27) (pos 53)

  level : eqZ p.e (pos 27) ≡ true → In (pair (add p.e (pos 1)) (short (l_add p.m (pos 19531) >> pos 1)))
  level i =
      let k = w.mantissa in
      let h = same (eqZ_is p.e (pos 27) i) in
      let x = l_add p.m (pos 19531) in
      let a = add_parts p.e (pos 1) (omega (zarith, plus p.e (pos 1))) in
      let b = l_add_parts p.m (pos 19531) (omega (zarith, plus p.m (pos 19531), k.low, k.high)) in
      let r = right_parts w32 x 1 in
      let s = short_parts {x = x >> pos 1} (omega (zarith, k.low, k.high)) in
      record { e_low = omega zarith; e_high = omega zarith; mantissa = record { low = omega (zarith, k.low); high = omega (zarith, k.high) } }

  above : lt_z (pos 27) p.e ≡ true → In (fitted_of p.e (l_add p.m (pos 19531 >>ₛ sub p.e (pos 27))))
  above i =
      let k = w.mantissa in
      let d = sub p.e (pos 27) in
      let q = pos 19531 >>ₛ d in
      let a = sub_parts p.e (pos 27) (omega (zarith, minus p.e (pos 27), w.e_high)) in
      let h = right_half (pos 19531) d (omega zarith) (omega zarith) in
      let b = l_add_parts p.m q (omega (zarith, plus p.m q, k.low, k.high)) in
      fitted_range (pos 27) (pos 52) p.e (l_add p.m q) (omega zarith) w.e_high (omega (zarith, k.low)) (omega (zarith, k.high)) (omega zarith) (omega zarith)

  below : eqZ p.e (pos 27) ≡ false → lt_z (pos 27) p.e ≡ false → In (fitted_of (pos 27) (l_add (pos 19531) (p.m >>ₛ sub (pos 27) p.e)))
  below n i =
      let k = w.mantissa in
      let o = eqZ_differ p.e (pos 27) n in
      let d = sub (pos 27) p.e in
      let q = p.m >>ₛ d in
      let a = sub_parts (pos 27) p.e (omega (zarith, minus (pos 27) p.e, w.e_low)) in
      let h = right_half p.m d (omega (zarith, k.low)) (omega zarith) in
      let b = l_add_parts (pos 19531) q (omega (zarith, plus (pos 19531) q, k.low, k.high)) in
      fitted_range (pos 27) (pos 52) (pos 27) (l_add (pos 19531) q) (omega zarith) (omega zarith) (omega (zarith, k.low)) (omega (zarith, k.high)) (omega zarith) (omega zarith)

  margin_range : In (margin_of p)
  unfolding margin_of
  margin_range = by_test In (eqZ p.e (pos 27)) _ _ level (λ n. by_test In (lt_z (pos 27) p.e) _ _ above (below n))

-- ---- the new threshold
at_most_range : (lo hi : ℤ) (a b : Pair) → Ranged lo hi a → Ranged lo hi b → Ranged lo hi (at_most_of a b)
unfolding at_most_of
at_most_range lo hi a b x y = by_test (Ranged lo hi) (greater_of b a) a b (λ t. x) (λ t. y)

pub adapted_range : (thvad pvad : Pair) → Ranged (negsuc 31) (pos 64) thvad → Ranged (negsuc 5) (pos 52) pvad → Ranged (negsuc 31) (pos 64) (adapted_of thvad pvad)
unfolding adapted_of
adapted_range thvad pvad t p =
    let In : Pair → Type 0 = Ranged (negsuc 31) (pos 64) in
    let low = lowered_of thvad in
    let top = tripled_of pvad in
    let l = lowered_range thvad t in
    let u = tripled_range pvad p in
    at_most_range (negsuc 31) (pos 64) (margin_of pvad) (IF greater_of top low THEN at_most_of top (raised_of low) ELSE low)
    (widened (pos 27) (pos 53) (negsuc 31) (pos 64) (omega zarith) (omega zarith) (margin_range pvad p))
    (by_test In (greater_of top low) (at_most_of top (raised_of low)) low
    (λ i. at_most_range (negsuc 31) (pos 64) top (raised_of low)
    (widened (negsuc 4) (pos 54) (negsuc 31) (pos 64) (omega zarith) (omega zarith) u)
    (widened (negsuc 31) (pos 55) (negsuc 31) (pos 64) (omega zarith) (omega zarith)
    (raised_range low (record { e_low = l.0.e_low; e_high = omega (zarith, greater_e top low i, u.e_high); mantissa = l.0.mantissa }) l.1)))
    (λ i. record { e_low = omega (zarith, not_greater_e top low i, u.e_low); e_high = l.0.e_high; mantissa = l.0.mantissa }))

-- ---- the whole clause
pub record Sound (k : Kept) : Type 0 where
  pub thvad_in : Ranged (negsuc 31) (pos 64) k.thvad
  pub count_low : pos 0 ≤ℤ k.adaptcount
  pub count_high : k.adaptcount ≤ℤ pos 9

module _ (acf0 pvad : Pair) (ptch stat tone : Bool) (rav1 : List ℤ) (normrav1 : ℤ) (k : Kept) where
  abbrev pub next : Kept
  next = adapt_of acf0 pvad ptch stat tone rav1 normrav1 k

  pub adapt_keeps : Sound k → (greater_of PTH acf0 ≡ false → Ranged (negsuc 5) (pos 52) pvad) → Sound next
  unfolding adapt_of
  adapt_keeps s loud =
      let c = add_parts k.adaptcount (pos 1) (omega (zarith, plus k.adaptcount (pos 1), s.count_low, s.count_high)) in
      by_test Sound (greater_of PTH acf0) _ _
      (λ t. record { thvad_in = record { e_low = omega zarith; e_high = omega zarith; mantissa = record { low = omega zarith; high = omega zarith } }; count_low = s.count_low; count_high = s.count_high })
      (λ t. by_test Sound (ptch || (not stat || tone)) _ _
      (λ u. record { thvad_in = s.thvad_in; count_low = omega zarith; count_high = omega zarith })
      (λ u. by_test Sound (le_z (add k.adaptcount (pos 1)) (pos 8)) _ _
      (λ v. record { thvad_in = s.thvad_in; count_low = omega (zarith, s.count_low); count_high = omega zarith })
      (λ v. record { thvad_in = adapted_range k.thvad pvad s.thvad_in (loud t); count_low = omega zarith; count_high = omega zarith })))

  -- the filter is the old one, or that of 6.3.3
  pub adapt_filter : (P : List ℤ → ℤ → Type 0) → P k.rvad k.normrvad → P rav1 normrav1 → P next.rvad next.normrvad
  unfolding adapt_of
  adapt_filter P old new =
      let Q : Kept → Type 0 = λ (x : Kept). P x.rvad x.normrvad in
      by_test Q (greater_of PTH acf0) _ _ (λ t. old)
      (λ t. by_test Q (ptch || (not stat || tone)) _ _ (λ u. old) (λ u. by_test Q (le_z (add k.adaptcount (pos 1)) (pos 8)) _ _ (λ v. old) (λ v. new)))
