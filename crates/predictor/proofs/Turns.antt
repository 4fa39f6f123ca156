-- The Schur recursion, a turn at a time, and its array K kept backwards. Assumes nothing.
use mathlib.Core.Path.{◌≡◌, sym, ap, ◌∙◌}
use mathlib.Core.Bool.{true, false, ◌&&◌}
use mathlib.Core.List.{List}
use Prim.Native.Nat.{ℕ, suc, ◌+◌, ◌-◌, ◌<◌, ◌≤◌}
use native.Mathlib.Omega.{arith}
use lib.Dec.{eqb, leb}
use borrow.Author.Tests.{leb-true, le-leb, eqb-true, eqb-false}
use lib.IntN.{ℤ, pos}
use lib.ListN.{length, set, length-set}
use lib.Seq.{get_or-set_same, get_or-set_other, ext_get_or}
use Rattle.numbers.specs.Sum.{at}
use Rattle.rows.specs.Choice.{IF◌THEN◌ELSE◌}
use Rattle.rows.specs.Rows.{row}
use Rattle.rows.proofs.Choice.{and_right, both, by_yes, by_no, either}
use Rattle.rows.proofs.Fill.{length_row, row_at}
use Rattle.predictor.specs.Schur.{Arrays, k_of, leaves_of, coefficient_of, turned_of, inner_from, outer_from}

-- ---- the inner loop, with l turns left
module _ (N : ℕ) (c : ℤ) (l m : ℕ) (a : Arrays) where
  inner_done : l ≡ 0 → inner_from N c l m a ≡ a
  unfolding inner_from
  inner_done e = rw e

  inner_next : (j : ℕ) → l ≡ suc j
      → inner_from N c l m a
      ≡ inner_from N c j (m + 1) (record {
        P = set a.P m (turned_of (at a.P (m + 1)) (at a.K (N + 1 - m)) c);
        K = set a.K (N + 1 - m) (turned_of (at a.K (N + 1 - m)) (at a.P (m + 1)) c);
      })
  unfolding inner_from
  inner_next j e = rw e

-- ---- the arrays of the clause, from P and from K backwards
abbrev pub arrays : ℕ → List ℤ → List ℤ → Arrays
arrays N p k = record { P = p; K = row 9 (k_of N k) }

module _ (N m : ℕ) (k : List ℤ) (low : 1 ≤ m) (high : m < N) (most : N ≤ 8) (nine : length k ≡ 9) where
  back_at : (l : List ℤ) → k_of N l (N + 1 - m) ≡ at l m
  unfolding k_of
  back_at l =
      let e : N + 1 - (N + 1 - m) ≡ m = omega arith in
      by_yes _ _ (both (le-leb 2 (N + 1 - m) (omega arith)) (le-leb (N + 1 - m) N (omega arith))) ∙ ap (at l) e

  mirror_at : at (row 9 (k_of N k)) (N + 1 - m) ≡ at k m
  mirror_at = row_at 9 (k_of N k) (N + 1 - m) (pos 0) (omega arith) ∙ back_at k

  -- an entry of K that is not stored
  other : (j : ℕ) (z : ℤ) → (j ≡ N + 1 - m → ⊥) → k_of N k j ≡ k_of N (set k m z) j
  unfolding k_of
  other j z h =
      either (k_of N k j ≡ k_of N (set k m z) j) (leb 2 j && leb j N)
      (λ t.
      let b = leb-true j N (and_right (leb 2 j) (leb j N) t) in
      by_yes _ _ t ∙ sym (get_or-set_other k m (N + 1 - j) z (pos 0) (λ e. h (omega arith))) ∙ sym (by_yes _ _ t))
      (λ t. by_no _ _ t ∙ sym (by_no _ _ t))

  mirror_set : (z : ℤ) → set (row 9 (k_of N k)) (N + 1 - m) z ≡ row 9 (k_of N (set k m z))
  mirror_set z =
      let l = row 9 (k_of N k) in
      let n = N + 1 - m in
      let s : length (set l n z) ≡ 9 = simp length-set (length_row 9 (k_of N k)) in
      ext_get_or (pos 0) (set l n z) (row 9 (k_of N (set k m z))) (s ∙ sym (length_row 9 (k_of N (set k m z))))
      (λ j i.
      let r = row_at 9 (k_of N (set k m z)) j (pos 0) (omega (arith, s)) in
      either (at (set l n z) j ≡ at (row 9 (k_of N (set k m z))) j) (eqb j n)
      (λ t.
      let e = eqb-true j n t in
      ap (at (set l n z)) e
      ∙ get_or-set_same l n z (pos 0) (omega (arith, length_row 9 (k_of N k)))
      ∙ sym (r ∙ ap (k_of N (set k m z)) e ∙ back_at (set k m z) ∙ get_or-set_same k m z (pos 0) (omega arith)))
      (λ t.
      let e = eqb-false j n t in
      get_or-set_other l n j z (pos 0) e ∙ row_at 9 (k_of N k) j (pos 0) (omega (arith, s)) ∙ other j z e ∙ sym r))

  -- a turn of the inner loop, with l turns left
  inner_turn : (c : ℤ) (l j : ℕ) (p : List ℤ) → l ≡ suc j
      → inner_from N c l m (arrays N p k)
      ≡ inner_from N c j (m + 1) (arrays N (set p m (turned_of (at p (m + 1)) (at k m) c)) (set k m (turned_of (at k m) (at p (m + 1)) c)))
  inner_turn c l j p e =
      inner_next N c l m (arrays N p k) j e
      ∙ ap (λ (y : ℤ). inner_from N c j (m + 1) (record { P = set p m (turned_of (at p (m + 1)) y c); K = set (row 9 (k_of N k)) (N + 1 - m) (turned_of y (at p (m + 1)) c) })) mirror_at
      ∙ ap (λ (q : List ℤ). inner_from N c j (m + 1) (record { P = set p m (turned_of (at p (m + 1)) (at k m) c); K = q })) (mirror_set (turned_of (at k m) (at p (m + 1)) c))

-- what the inner loop keeps: its turns from m on end in r
abbrev pub Inner : ℕ → ℕ → ℤ → Arrays → List ℤ → List ℤ → ℕ → Type 0
Inner N n c r p k m = (1 ≤ m) × (m ≤ N + 1 - n) × (length p ≡ 9) × (length k ≡ 9) × (inner_from N c (N + 1 - n - m) m (arrays N p k) ≡ r)

module _ (N n : ℕ) (c : ℤ) where
  -- it begins with x for P[0]
  pub inner_first : (p k : List ℤ) (x : ℤ) → n < N + 1 → length p ≡ 9 → length k ≡ 9 → Inner N n c (inner_from N c (N - n) 1 (arrays N (set p 0 x) k)) (set p 0 x) k 1
  inner_first p k x h a b =
      let e : N + 1 - n - 1 ≡ N - n = omega arith in
      (omega arith, omega arith, simp length-set a, b, ap (λ (l : ℕ). inner_from N c l 1 (arrays N (set p 0 x) k)) e)

  pub inner_kept : (m : ℕ) (p k : List ℤ) (x y : ℤ) (r : Arrays) → N ≤ 8 → 1 ≤ n → m < N + 1 - n → Inner N n c r p k m
      → x ≡ turned_of (at p (m + 1)) (at k m) c → y ≡ turned_of (at k m) (at p (m + 1)) c → Inner N n c r (set p m x) (set k m y) (m + 1)
  inner_kept m p k x y r most one more i ex ey =
      let e : N + 1 - n - m ≡ suc (N + 1 - n - (m + 1)) = omega arith in (
        omega arith,
        omega arith,
        simp length-set i.2,
        simp length-set i.3,
        rw (ex, ey) (sym (inner_turn N m k i.0 (omega arith) most i.3 c (N + 1 - n - m) (N + 1 - n - (m + 1)) p e) ∙ i.4),
      )

-- ---- the outer loop, with l turns left
module _ (N l n : ℕ) (a : Arrays) (vpar : List ℤ) where
  abbrev c : ℤ
  c = coefficient_of (at a.P 0) (at a.P 1)

  outer_done : l ≡ 0 → outer_from N l n a vpar ≡ vpar
  unfolding outer_from
  outer_done e = rw e

  outer_leave : (j : ℕ) → l ≡ suc j → leaves_of (at a.P 0) (at a.P 1) ≡ true → outer_from N l n a vpar ≡ vpar
  unfolding outer_from IF◌THEN◌ELSE◌
  outer_leave j e t = rw (e, t)

  -- the arrays after the inner loop are b
  outer_next : (j : ℕ) (b : Arrays) → l ≡ suc j → leaves_of (at a.P 0) (at a.P 1) ≡ false
      → b ≡ inner_from N c (N - n) 1 (record { P = set a.P 0 (turned_of (at a.P 0) (at a.P 1) c); K = a.K })
      → outer_from N l n a vpar ≡ outer_from N j (n + 1) b (set vpar n c)
  unfolding outer_from IF◌THEN◌ELSE◌
  outer_next j b e t i = rw (e, t, i)

  outer_last : l ≡ 1 → leaves_of (at a.P 0) (at a.P 1) ≡ false → outer_from N l n a vpar ≡ set vpar n c
  unfolding outer_from IF◌THEN◌ELSE◌
  outer_last e t = rw (e, t)

-- what the outer loop keeps: its turns from n on end in r
abbrev pub Outer : ℕ → List ℤ → List ℤ → List ℤ → List ℤ → ℕ → Type 0
Outer N r p k v n = (1 ≤ n) × (n ≤ N + 1) × (length p ≡ 9) × (length k ≡ 9) × (length v ≡ 9) × (outer_from N (N + 1 - n) n (arrays N p k) v ≡ r)

pub outer_first : (N : ℕ) (p k v : List ℤ) → length p ≡ 9 → length k ≡ 9 → length v ≡ 9 → Outer N (outer_from N N 1 (arrays N p k) v) p k v 1
outer_first N p k v a b d =
    let e : N + 1 - 1 ≡ N = omega arith in
    (omega arith, omega arith, a, b, d, ap (λ (l : ℕ). outer_from N l 1 (arrays N p k) v) e)

module _ (N n : ℕ) (p k v r : List ℤ) (o : Outer N r p k v n) where
  -- the turns run out
  pub outer_over : N + 1 ≤ n → v ≡ r
  outer_over h = sym (outer_done N (N + 1 - n) n (arrays N p k) v (omega arith)) ∙ o.5

  -- the recursion is left
  pub outer_stop : n < N + 1 → leaves_of (at p 0) (at p 1) ≡ true → v ≡ r
  outer_stop h t = sym (outer_leave N (N + 1 - n) n (arrays N p k) v (N - n) (omega arith) t) ∙ o.5

  module _ (x : ℤ) (go : leaves_of (at p 0) (at p 1) ≡ false) (is : x ≡ coefficient_of (at p 0) (at p 1)) where
    -- the last turn
    pub outer_full : n ≡ N → set v n x ≡ r
    outer_full h = rw is (sym (outer_last N (N + 1 - n) n (arrays N p k) v (omega arith) go) ∙ o.5)

    -- a turn that is not the last: the inner loop begins with y for P[0], and ends with p' for P and k' for K backwards
    pub outer_kept : (y : ℤ) (p' k' : List ℤ) (m : ℕ) → n < N + 1 → y ≡ turned_of (at p 0) (at p 1) x → N + 1 - n ≤ m
        → Inner N n x (inner_from N x (N - n) 1 (arrays N (set p 0 y) k)) p' k' m → Outer N r p' k' (set v n x) (n + 1)
    outer_kept y p' k' m h ey l i =
        let e : N + 1 - n ≡ suc (N + 1 - (n + 1)) = omega arith in
        let b = rw (ey, is) at (sym (inner_done N x (N + 1 - n - m) m (arrays N p' k') (omega arith)) ∙ i.4) in (
          omega arith,
          omega arith,
          i.2,
          i.3,
          simp length-set o.4,
          rw is (sym (outer_next N (N + 1 - n) n (arrays N p k) v (N + 1 - (n + 1)) (arrays N p' k') e go b) ∙ o.5),
        )
