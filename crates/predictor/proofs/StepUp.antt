-- The step-up procedure in one formula: the coefficients stand above eight zeros, and each entry of an order comes from the entry before and the
-- one that mirrors it. At the order itself this is the clause's shift, and above it the entries are 0. Assumes nothing.
use mathlib.Core.Path.{◌≡◌, refl, sym, ap, ap₂, ◌∙◌}
use mathlib.Core.List.{List, ◌++◌}
use Prim.Native.Nat.{ℕ, zero, suc, ◌+◌, ◌-◌, ◌<◌, ◌≤◌}
use native.Mathlib.Omega.{arith}
use lib.Dec.{eqb, ltb}
use borrow.Author.Tests.{le-leb, lt-leb, lt-ltb, le-ltb, eqb-true, eqb-false, eq-eqb, ne_eqb, ltb-true, ltb-false}
use lib.IntN.{ℤ, pos, ◌+ℤ◌, ◌*ℤ◌}
use lib.ListN.{length, set, length-set, length-append, get_or-append}
use lib.Seq.{get_or-append-add, get_or-set_same, get_or-set_other, ext_get_or}
use mir.Syntax.{w16, w32}
use mir.Val.{SFits}
use Rattle.numbers.specs.Sum.{at}
use Rattle.numbers.proofs.Parts.{zarith, plus, times}
use Rattle.numbers.proofs.Magnitude.{abs-*, fits_abs, abs_fits}
use Rattle.operations.specs.Operations.{l_add, l_mult, shift_right, ◌<<◌, ◌>>◌}
use Rattle.operations.proofs.Laws.{l_add_exact, l_mult_exact, left_exact}
use Rattle.rows.specs.Rows.{row}
use Rattle.rows.proofs.Choice.{by_yes, by_no, both, either}
use Rattle.rows.proofs.Fill.{length_row, row_at}
use Rattle.predictor.specs.StepUp.{raised_of, l_coef_of}
use Rattle.predictor.proofs.Predictor.{l_coef_first}

-- ---- the definition's entries: the first, those below the order, the order's own, and those above it
module _ (l : List ℤ) (v : ℤ) (m : ℕ) where
  raised_first : 1 ≤ m → raised_of l v m 0 ≡ at l 0
  unfolding raised_of
  raised_first h = by_no _ _ (ne_eqb 0 m (omega arith)) ∙ by_no _ _ (rw (lt-leb 1 0 (omega arith)))

  raised_below : (i : ℕ) → 1 ≤ i → i < m → raised_of l v m i ≡ l_add (at l i) (l_mult v (at l (m - i) >> pos 16))
  unfolding raised_of
  raised_below i h k = by_no _ _ (ne_eqb i m (omega arith)) ∙ by_yes _ _ (both (le-leb 1 i h) (lt-ltb i m k))

  raised_order : raised_of l v m m ≡ v << pos 14
  unfolding raised_of
  raised_order = by_yes _ _ (eq-eqb m m refl)

  raised_above : (i : ℕ) → m < i → raised_of l v m i ≡ at l i
  unfolding raised_of
  raised_above i h = by_no _ _ (ne_eqb i m (omega arith)) ∙ by_no _ _ (rw (le-leb 1 i (omega arith), le-ltb i m (omega arith)))

-- ---- a row above eight zeros
abbrev pub zeros : List ℤ
zeros = row 8 (λ i. pos 0)

module _ (l : List ℤ) where
  pub low_length : length (zeros ++ l) ≡ 8 + length l
  low_length = omega (arith, length-append zeros l, length_row 8 (λ (i : ℕ). pos 0))

  pub low_zero : (k : ℕ) → k < 8 → at (zeros ++ l) k ≡ pos 0
  low_zero k h = get_or-append zeros l (pos 0) k (omega (arith, length_row 8 (λ (i : ℕ). pos 0))) ∙ row_at 8 (λ (i : ℕ). pos 0) k (pos 0) h

  pub low_at : (k : ℕ) → at (zeros ++ l) (8 + k) ≡ at l k
  unfolding row
  low_at k = get_or-append-add zeros l k (pos 0)

-- ---- the coefficients after the order m
module _ (vpar : List ℤ) where
  coef_length : (m : ℕ) → length (l_coef_of vpar m) ≡ 9
  unfolding l_coef_of
  coef_length zero = length_row 9 _
  coef_length (suc m) = length_row 9 _

  coef_above : (m k : ℕ) → m < k → k < 9 → at (l_coef_of vpar m) k ≡ pos 0
  unfolding l_coef_of
  coef_above zero k h b = row_at 9 _ k (pos 0) b ∙ by_no _ _ (ne_eqb k 0 (omega arith))
  coef_above (suc m) k h b = row_at 9 _ k (pos 0) b ∙ raised_above _ _ (suc m) k h ∙ coef_above m k (omega arith) b

  next_at : (p i : ℕ) → i < 9 → at (l_coef_of vpar (suc p)) i ≡ raised_of (l_coef_of vpar p) (at vpar (suc p)) (suc p) i
  unfolding l_coef_of
  next_at p i h = row_at 9 _ i (pos 0) h

-- ---- the formula at the order, and above it
order_shift : (v : ℤ) → SFits w16 v → l_add (pos 0) (l_mult v (pos 8192)) ≡ v << pos 14
order_shift v f =
    let b = fits_abs w16 v f in
    let z = v *ℤ pos 8192 *ℤ pos 2 in
    let e : l_mult v (pos 8192) ≡ z = l_mult_exact v (pos 8192) (omega (arith, b)) in
    let s : pos 0 +ℤ z ≡ v *ℤ pos 16384 = omega (zarith, plus (pos 0) z, times (v *ℤ pos 8192) (pos 2), times v (pos 8192), times v (pos 16384)) in
    let g : SFits w32 (v *ℤ pos 16384) = abs_fits w32 (v *ℤ pos 16384) (omega (arith, b, abs-* v (pos 16384))) in
    ap (l_add (pos 0)) e ∙ l_add_exact (pos 0) z (rw s g) ∙ s ∙ sym (left_exact w32 v 14 g)

above_zero : (v : ℤ) → l_add (pos 0) (l_mult v (pos 0)) ≡ pos 0
above_zero v =
    let z = v *ℤ pos 0 *ℤ pos 2 in
    let s : z ≡ pos 0 = omega (zarith, times (v *ℤ pos 0) (pos 2), times v (pos 0)) in
    ap (l_add (pos 0)) (l_mult_exact v (pos 0) (omega arith) ∙ s) ∙ l_add_exact (pos 0) (pos 0) (abs_fits w32 (pos 0) (omega arith))

-- ---- one order more
module _ (vpar : List ℤ) where
  abbrev pub held : ℕ → List ℤ
  held m = zeros ++ l_coef_of vpar m

  pub held_length : (m : ℕ) → length (held m) ≡ 17
  held_length m = omega (arith, low_length (l_coef_of vpar m), coef_length vpar m)

  -- the entries that the formula gives
  abbrev Formula : ℕ → ℕ → ℕ → Type 0
  Formula p m i = l_add (at (held p) (8 + i)) (l_mult (at vpar m) (at (held p) (8 + m - i) >> pos 16)) ≡ at (held m) (8 + i)

  formula : (p i : ℕ) → suc p ≤ 8 → 1 ≤ i → i ≤ 8 → SFits w16 (at vpar (suc p)) → Formula p (suc p) i
  unfolding shift_right
  formula p i b h k f =
      let m = suc p in
      let l = l_coef_of vpar p in
      let v = at vpar m in
      let here = low_at l i in
      let goal = next_at vpar p i (omega arith) in
      either (Formula p m i) (ltb i m)
      (λ t.
      let u = ltb-true i m t in
      let j : 8 + m - i ≡ 8 + (m - i) = omega arith in
      ap₂ (λ (x y : ℤ). l_add x (l_mult v (y >> pos 16))) here (ap (at (held p)) j ∙ low_at l (m - i))
      ∙ sym (raised_below l v m i h u)
      ∙ sym goal
      ∙ sym (low_at (l_coef_of vpar m) i))
      (λ t.
      let u = ltb-false i m t in
      let none : at l i ≡ pos 0 = coef_above vpar p i (omega arith) (omega arith) in
      either (Formula p m i) (eqb i m)
      (λ e.
      let q = eqb-true i m e in
      let j : 8 + m - i ≡ 8 + 0 = omega arith in
      ap₂ (λ (x y : ℤ). l_add x (l_mult v (y >> pos 16))) (here ∙ none) (ap (at (held p)) j ∙ low_at l 0 ∙ l_coef_first vpar p)
      ∙ order_shift v f
      ∙ sym (raised_order l v m)
      ∙ ap (raised_of l v m) (sym q)
      ∙ sym goal
      ∙ sym (low_at (l_coef_of vpar m) i))
      (λ e.
      let q = eqb-false i m e in
      ap₂ (λ (x y : ℤ). l_add x (l_mult v (y >> pos 16))) (here ∙ none) (low_zero l (8 + m - i) (omega arith))
      ∙ above_zero v
      ∙ sym (low_at (l_coef_of vpar m) i ∙ coef_above vpar m i (omega arith) (omega arith))))

  -- what stays: the zeros and the first entry, and the zeros above the order
  stays_low : (p k : ℕ) → k ≤ 8 → at (held p) k ≡ at (held (suc p)) k
  stays_low p k h =
      either (at (held p) k ≡ at (held (suc p)) k) (ltb k 8)
      (λ t. low_zero (l_coef_of vpar p) k (ltb-true k 8 t) ∙ sym (low_zero (l_coef_of vpar (suc p)) k (ltb-true k 8 t)))
      (λ t.
      let j : k ≡ 8 + 0 = omega (arith, ltb-false k 8 t) in
      ap (at (held p)) j
      ∙ low_at (l_coef_of vpar p) 0
      ∙ l_coef_first vpar p
      ∙ sym (ap (at (held (suc p))) j ∙ low_at (l_coef_of vpar (suc p)) 0 ∙ l_coef_first vpar (suc p)))

  stays_above : (p k : ℕ) → 8 + suc p < k → k < 17 → at (held p) k ≡ at (held (suc p)) k
  stays_above p k h l =
      let i = k - 8 in
      let j : k ≡ 8 + i = omega arith in
      ap (at (held p)) j
      ∙ low_at (l_coef_of vpar p) i
      ∙ coef_above vpar p i (omega arith) (omega arith)
      ∙ sym (ap (at (held (suc p))) j ∙ low_at (l_coef_of vpar (suc p)) i ∙ coef_above vpar (suc p) i (omega arith) (omega arith))

  -- ---- a loop that makes the order m from the order before, entry by entry: at the start, in a turn, and at the end
  pub order_start : (m k : ℕ) → 1 ≤ m → k ≤ 8 → at (held (m - 1)) k ≡ at (held m) k
  order_start zero k h l = absurd (omega arith)
  order_start (suc p) k h l = let d : suc p - 1 ≡ p = omega arith in rw d (stays_low p k l)

  order_turn : (m i : ℕ) → 1 ≤ m → m ≤ 8 → 1 ≤ i → i ≤ 8 → SFits w16 (at vpar m) → Formula (m - 1) m i
  order_turn zero i a b h k f = absurd (omega arith)
  order_turn (suc p) i a b h k f = let d : suc p - 1 ≡ p = omega arith in rw d (formula p i b h k f)

  above : (m k : ℕ) → 1 ≤ m → 8 + m < k → k < 17 → at (held (m - 1)) k ≡ at (held m) k
  above zero k a h l = absurd (omega arith)
  above (suc p) k a h l = let d : suc p - 1 ≡ p = omega arith in rw d (stays_above p k h l)

  pub order_end : (m n : ℕ) (out : List ℤ) → 1 ≤ m → m < n → length out ≡ 17 → ((k : ℕ) → k < 8 + n → at out k ≡ at (held m) k)
      → ((k : ℕ) → 8 + n ≤ k → at out k ≡ at (held (m - 1)) k) → out ≡ held m
  order_end m n out a b l low rest =
      ext_get_or (pos 0) out (held m) (omega (arith, l, held_length m))
      (λ k u.
      either (at out k ≡ at (held m) k) (ltb k (8 + n)) (λ t. low k (ltb-true k (8 + n) t))
      (λ t. let r = ltb-false k (8 + n) t in rest k r ∙ above m k a (omega arith) (omega (arith, l))))

-- ---- one entry stored: those up to it, and those above it
module _ (l s : List ℤ) (j : ℕ) (v : ℤ) where
  upto_more : j < length l → v ≡ at s j → ((k : ℕ) → k < j → at l k ≡ at s k) → (k : ℕ) → k < j + 1 → at (set l j v) k ≡ at s k
  upto_more h e old k b =
      either (at (set l j v) k ≡ at s k) (ltb k j)
      (λ t. let u = ltb-true k j t in get_or-set_other l j k v (pos 0) (λ q. omega arith) ∙ old k u)
      (λ t.
      let q : j ≡ k = omega (arith, ltb-false k j t) in
      ap (at (set l j v)) (sym q) ∙ get_or-set_same l j v (pos 0) h ∙ e ∙ ap (at s) q)

  above_less : ((k : ℕ) → j ≤ k → at l k ≡ at s k) → (k : ℕ) → j + 1 ≤ k → at (set l j v) k ≡ at s k
  above_less old k b = get_or-set_other l j k v (pos 0) (λ q. omega arith) ∙ old k (omega arith)

-- what a loop that makes the order m keeps: the entries below i are those of the order, and the others are still those of coef
abbrev pub Made : List ℤ → List ℤ → ℕ → ℕ → List ℤ → ℕ → Type 0
Made vpar coef m n out i =
    (1 ≤ i) × (i ≤ n) × (length out ≡ 17) × ((k : ℕ) → k < 8 + i → at out k ≡ at (held vpar m) k) × ((k : ℕ) → 8 + i ≤ k → at out k ≡ at coef k)

pub made_more : (vpar coef : List ℤ) (m n : ℕ) (out : List ℤ) (i : ℕ) (z : ℤ) → 1 ≤ m → m < n → n ≤ 9 → coef ≡ held vpar (m - 1) → i < n → SFits w16 (at vpar m)
    → z ≡ l_add (at coef (8 + i)) (l_mult (at vpar m) (at coef (8 + m - i) >> pos 16)) → Made vpar coef m n out i → Made vpar coef m n (set out (8 + i) z) (i + 1)
made_more vpar coef m n out i z one low nine is more f e h =
    let j : 8 + i + 1 ≡ 8 + (i + 1) = omega arith in
    let q : z ≡ at (held vpar m) (8 + i) =
    e ∙ ap (λ (l : List ℤ). l_add (at l (8 + i)) (l_mult (at vpar m) (at l (8 + m - i) >> pos 16))) is ∙ order_turn vpar m i one (omega arith) h.0 (omega arith) f in (
      omega arith,
      omega arith,
      simp length-set h.2,
      rw (sym j) (upto_more out (held vpar m) (8 + i) z (omega arith) q h.3),
      rw (sym j) (above_less out coef (8 + i) z h.4),
    )
