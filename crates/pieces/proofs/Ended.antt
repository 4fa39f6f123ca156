-- As many lines are handed out for a piece as line feeds stand in it: the line that was carried ends with the first, however long it is, and each
-- line that lies whole in the piece ends with one. Assumes nothing.
use Prim.Native.Nat.{ℕ, zero, suc, ◌+◌, ◌-◌, ◌<◌, ◌≤◌}
use mathlib.Core.Path.{◌≡◌, refl, sym, ap, ◌∙◌}
use mathlib.Core.Bool.{Bool, true, false}
use mathlib.Core.List.{List, [], ◌∷◌, ◌++◌}
use native.Mathlib.Omega.{arith}
use borrow.Author.Tests.{eqb-true, eqb-false}
use lib.Dec.{eqb}
use lib.ListN.{length, get_or, take, drop, length-append, length-drop, take-append-drop}
use lib.Seq.{drop-drop, take-suc, get_or-drop}
use Rattle.rows.specs.Choice.{IF◌THEN◌ELSE◌}
use Rattle.rows.proofs.Choice.{either, by_test}
use Rattle.pieces.specs.declared.Finder.{Finder}
use Rattle.pieces.specs.Lines.{on_first, lines_of, plain_of, feeds_of, short}
use Rattle.pieces.specs.Cut.{held_of, to_of, ending_of, from_of, head_of, mid_of}
use Rattle.pieces.specs.Pieces.{handed_of}
use Rattle.pieces.proofs.Carried.{held_plain}
use Rattle.pieces.proofs.Whole.{none_plain, to_le, to_feed, to_plain, first_to, ending_le, first_is, head_one}

pub feeds_append : (a b : List ℕ) → feeds_of (a ++ b) ≡ feeds_of a + feeds_of b
unfolding feeds_of IF◌THEN◌ELSE◌
feeds_append [] b = omega arith
feeds_append (x ∷ a) b = go (feeds_append a b) (eqb x 10)
  where
    go : feeds_of (a ++ b) ≡ feeds_of a + feeds_of b → (t : Bool) → (IF t THEN suc (feeds_of (a ++ b)) ELSE feeds_of (a ++ b)) ≡ (IF t THEN suc (feeds_of a) ELSE feeds_of a) + feeds_of b
    go ih true = omega arith
    go ih false = ih

-- a text with none, and a text up to its first
pub feeds_plain : (l : List ℕ) → plain_of l ≡ length l → feeds_of l ≡ 0
unfolding feeds_of plain_of IF◌THEN◌ELSE◌
feeds_plain [] e = refl
feeds_plain (b ∷ l) e = go (feeds_plain l) (eqb b 10) e
  where
    go : (plain_of l ≡ length l → feeds_of l ≡ 0) → (t : Bool) → (IF t THEN 0 ELSE suc (plain_of l)) ≡ suc (length l) → (IF t THEN suc (feeds_of l) ELSE feeds_of l) ≡ 0
    go ih true e = absurd (omega arith)
    go ih false e = ih (omega arith)

pub feeds_first : (l : List ℕ) → plain_of l < length l → feeds_of (take (plain_of l + 1) l) ≡ 1
unfolding feeds_of plain_of IF◌THEN◌ELSE◌
feeds_first [] h = absurd (omega arith)
feeds_first (b ∷ l) h = go (feeds_first l) (eqb b 10) refl h
  where
    go : (plain_of l < length l → feeds_of (take (plain_of l + 1) l) ≡ 1) → (t : Bool) → eqb b 10 ≡ t → (IF t THEN 0 ELSE suc (plain_of l)) < suc (length l)
        → feeds_of (take ((IF t THEN 0 ELSE suc (plain_of l)) + 1) (b ∷ l)) ≡ 1
    go ih true t h = rw t
    go ih false t h =
        let e : suc (plain_of l) + 1 ≡ suc (plain_of l + 1) = omega arith in
        rw (e, t) (ih (omega arith))

-- ---- a text that ends with a line feed has as many lines
ended : (a : List ℕ) → length (lines_of (a ++ (10 ∷ []))) ≡ feeds_of (a ++ (10 ∷ []))
unfolding lines_of on_first feeds_of IF◌THEN◌ELSE◌
ended [] = refl
ended (b ∷ a) = go (ended a) (eqb b 10)
  where
    on : (ls : List (List ℕ)) → 0 < length ls → length (on_first b ls) ≡ length ls
    on [] h = absurd (omega arith)
    on (l ∷ ls) h = refl

    some : 0 < feeds_of (a ++ (10 ∷ []))
    some = let h = feeds_append a (10 ∷ []) in omega arith

    go : length (lines_of (a ++ (10 ∷ []))) ≡ feeds_of (a ++ (10 ∷ [])) → (t : Bool)
        → length (IF t THEN (b ∷ []) ∷ lines_of (a ++ (10 ∷ [])) ELSE on_first b (lines_of (a ++ (10 ∷ []))))
        ≡ (IF t THEN suc (feeds_of (a ++ (10 ∷ []))) ELSE feeds_of (a ++ (10 ∷ [])))
    go ih true = ap suc ih
    go ih false = on (lines_of (a ++ (10 ∷ []))) (omega (arith, some)) ∙ ih

ended_part : (l : List ℕ) (a n : ℕ) → a + n ≤ length l → (0 < n → get_or l (a + n - 1) 0 ≡ 10) → length (lines_of (take n (drop a l))) ≡ feeds_of (take n (drop a l))
unfolding lines_of feeds_of
ended_part l a zero h e = refl
ended_part l a (suc n) h e =
    let d = length-drop a l in
    let j : a + n ≡ a + suc n - 1 = omega arith in
    let q : take (suc n) (drop a l) ≡ take n (drop a l) ++ (10 ∷ []) =
    take-suc (drop a l) n 0 (omega arith) ∙ ap (λ (b : ℕ). take n (drop a l) ++ (b ∷ [])) (get_or-drop a l n 0 ∙ (ap (λ (i : ℕ). get_or l i 0) j ∙ e (omega arith))) in
    rw q (ended (take n (drop a l)))

-- ---- a piece in which a line ends
module _ (f : Finder) (p : List ℕ) (z : to_of p ≡ 0 → ⊥) where
  -- the line that was carried ends with the first line feed, and is one line also where it is cut to its first bytes
  head_feeds : length (lines_of (short (held_of f ++ take (ending_of f p) p))) ≡ feeds_of (take (ending_of f p) p)
  unfolding ending_of short lines_of feeds_of
  head_feeds =
      by_test (λ (j : ℕ). length (lines_of (short (held_of f ++ take j p))) ≡ feeds_of (take j p)) (eqb (length (held_of f)) 0) _ _
      (λ t. nothing (held_of f) (eqb-true (length (held_of f)) 0 t))
      (λ t.
      let n : plain_of p + 1 ≤ length p = let a = to_le f p z in let b = first_to f p z in omega arith in
      rw (first_is p n) (ap length (head_one (held_of f) p (held_plain f) (omega (arith, eqb-false (length (held_of f)) 0 t)) n) ∙ sym (feeds_first p (omega arith))))
    where
      nothing : (h : List ℕ) → length h ≡ 0 → length (lines_of (short (h ++ take 0 p))) ≡ feeds_of (take 0 p)
      nothing [] e = refl
      nothing (b ∷ h) e = absurd (omega arith)

  some_feeds : length (lines_of (short (held_of f ++ take (ending_of f p) p)) ++ lines_of (take (to_of p - ending_of f p) (drop (ending_of f p) p))) ≡ feeds_of p
  some_feeds =
      let a = ending_of f p in
      let n = to_of p - ending_of f p in
      let l = ending_le f p z in
      let t = to_le f p z in
      let j : a + n ≡ to_of p = omega arith in
      let w = ended_part p a n (omega arith) (λ h. ap (λ (i : ℕ). get_or p (i - 1) 0) j ∙ to_feed f p z) in
      let r = feeds_plain (drop (to_of p) p) (to_plain f p z) in
      let x : feeds_of p ≡ feeds_of (take a p) + feeds_of (drop a p) = ap feeds_of (sym (take-append-drop a p)) ∙ feeds_append (take a p) (drop a p) in
      let y : feeds_of (drop a p) ≡ feeds_of (take n (drop a p)) + feeds_of (drop (to_of p) p) =
      ap feeds_of (sym (take-append-drop n (drop a p)))
      ∙ (feeds_append (take n (drop a p)) (drop n (drop a p)) ∙ ap (λ (m : List ℕ). feeds_of (take n (drop a p)) + feeds_of m) (drop-drop n a p ∙ ap (λ (i : ℕ). drop i p) j)) in
      let h = head_feeds in
      let g = length-append (lines_of (short (held_of f ++ take a p))) (lines_of (take n (drop a p))) in
      omega arith

-- ---- any piece
pub handed_feeds : (f : Finder) (p : List ℕ) → length (handed_of f p) ≡ feeds_of p
unfolding handed_of head_of mid_of from_of IF◌THEN◌ELSE◌ lines_of
handed_feeds f p =
    either (length (handed_of f p) ≡ feeds_of p) (eqb (to_of p) 0)
    (λ t. rw (t, eqb-true (to_of p) 0 t) (sym (feeds_plain p (none_plain f p (eqb-true (to_of p) 0 t)))))
    (λ t. rw t (some_feeds f p (eqb-false (to_of p) 0 t)))
