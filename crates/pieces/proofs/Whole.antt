-- The theorem: however an input is cut, the lines handed out are those of the whole, each by its first 85 bytes. Assumes nothing.
use Prim.Native.Nat.{ℕ, suc, ◌+◌, ◌-◌, ◌<◌, ◌≤◌, min}
use mathlib.Core.Path.{◌≡◌, refl, sym, ap, ap₂, subst, ◌∙◌}
use mathlib.Core.List.{List, [], ◌∷◌, ◌++◌, append_assoc, append-nil, map-append}
use native.Mathlib.Omega.{arith}
use borrow.Author.Tests.{eqb-true, eqb-false, eq-eqb, ne_eqb}
use lib.Dec.{eqb}
use lib.ListN.{length, take, drop, get_or, length-append, length-take, take-append-drop}
use lib.Seq.{take_all, drop-length, drop-drop, take-append-le, drop-append-le, length-take-le}
use Rattle.rows.specs.Choice.{IF◌THEN◌ELSE◌}
use Rattle.rows.proofs.Choice.{either, by_test}
use Rattle.pieces.specs.declared.Finder.{Finder}
use Rattle.pieces.specs.Lines.{on_first, lines_of, plain_of, first_of, short, kept}
use Rattle.pieces.specs.Cut.{pad_of, finder_of, held_of, to_of, ending_of, from_of, head_of, mid_of, rest_of}
use Rattle.pieces.specs.Pieces.{flat, handed_of, handed_all, shorts}
use Rattle.pieces.proofs.Found.{plain_take, plain_append, plain_at, plain_more, one_line, begun, closed_part, end_le, end_feed, end_plain}
use Rattle.pieces.proofs.Carried.{take_pad, held_plain, held_finder, short_short, carry}

shorts_append : (a b : List (List ℕ)) → shorts (a ++ b) ≡ shorts a ++ shorts b
unfolding shorts
shorts_append a b = map-append short a b

-- a line stays one when it is cut
short_some : (l : List ℕ) → 0 < length l → 0 < length (short l)
unfolding short
short_some l h = simp length-take (omega arith)

short_one : (l : List ℕ) → length l ≤ plain_of l + 1 → length (short l) ≤ plain_of (short l) + 1
unfolding short
short_one l h = let a = plain_take kept l in let b = length-take kept l in omega arith

short_le : (l : List ℕ) → length (short l) ≤ length l
unfolding short
short_le l = simp length-take (omega arith)

length_take_most : (n : ℕ) (l : List ℕ) → length (take n l) ≤ n
length_take_most n l = simp length-take (omega arith)

-- where a line ends in p
pub first_is : (p : List ℕ) → plain_of p + 1 ≤ length p → first_of p ≡ plain_of p + 1
unfolding first_of
first_is p h = omega arith

first_more : (p m : List ℕ) → plain_of p + 1 ≤ length p → first_of (p ++ m) ≡ plain_of p + 1
unfolding first_of
first_more p m h = let c = plain_more p m (omega arith) in let d = length-append p m in omega arith

pub head_one : (h p : List ℕ) → plain_of h ≡ length h → 0 < length h → plain_of p + 1 ≤ length p → lines_of (short (h ++ take (plain_of p + 1) p)) ≡ short (h ++ take (plain_of p + 1) p) ∷ []
head_one h p e s n =
    let i = plain_of p + 1 in
    let a = length-append h (take i p) in
    let b = length-take-le i p n in
    let c = plain_append h (take i p) e in
    let d : plain_of (take i p) ≡ plain_of p = let q = plain_take i p in omega arith in
    one_line (short (h ++ take i p)) (short_some (h ++ take i p) (omega arith)) (short_one (h ++ take i p) (omega arith))

-- ---- a piece in which no line ends
module _ (f : Finder) (p : List ℕ) (z : to_of p ≡ 0) where
  pub none_plain : plain_of p ≡ length p
  unfolding to_of plain_of
  none_plain =
      let q = end_plain p (length p) (omega arith) (rw (drop-length p) refl) in
      subst (λ (j : ℕ). plain_of (drop j p) ≡ length (drop j p)) z q

  pub piece_none : (m : List ℕ) → shorts (lines_of (held_of f ++ (p ++ m))) ≡ shorts (handed_of f p) ++ shorts (lines_of (held_of (rest_of f p) ++ m))
  unfolding handed_of head_of mid_of from_of rest_of IF◌THEN◌ELSE◌ lines_of shorts
  piece_none m =
      let h = plain_append (held_of f) p (held_plain f) in
      let n = length-append (held_of f) p in
      let q = none_plain in
      let pl : plain_of (held_of f ++ p) ≡ length (held_of f ++ p) = omega arith in
      rw (eq-eqb (to_of p) 0 z, z)
      (ap (λ (x : List ℕ). shorts (lines_of x)) (sym (append_assoc (held_of f) p m))
      ∙ (sym (carry (held_of f ++ p) m pl) ∙ ap (λ (x : List ℕ). shorts (lines_of (x ++ m))) (sym (held_finder (held_of f ++ p) pl))))

-- ---- a piece in which a line ends
module _ (f : Finder) (p : List ℕ) (z : to_of p ≡ 0 → ⊥) where
  pub to_le : to_of p ≤ length p
  unfolding to_of
  to_le = end_le p (length p)

  pub to_feed : get_or p (to_of p - 1) 0 ≡ 10
  unfolding to_of
  to_feed = end_feed p (length p) (omega (arith, z))

  pub to_plain : plain_of (drop (to_of p) p) ≡ length (drop (to_of p) p)
  unfolding to_of plain_of
  to_plain = end_plain p (length p) (omega arith) (rw (drop-length p) refl)

  pub first_to : plain_of p + 1 ≤ to_of p
  first_to = let a = to_le in let b = to_feed in let c = plain_at p (to_of p - 1) (omega (arith, z)) b in omega (arith, z)

  pub ending_le : ending_of f p ≤ to_of p
  unfolding ending_of first_of
  ending_le = by_test (λ (j : ℕ). j ≤ to_of p) (eqb (length (held_of f)) 0) _ _ (λ t. omega arith) (λ t. let a = first_to in omega arith)

  -- the head, then the rest
  begins : (m : List ℕ) → (length (held_of f) ≡ 0 → ⊥) → shorts (lines_of (held_of f ++ (p ++ m))) ≡ shorts (lines_of (short (held_of f ++ take (first_of p) p))) ++ shorts (lines_of (drop (first_of p) p ++ m))
  unfolding shorts
  begins m h =
      let i = plain_of p + 1 in
      let n : i ≤ length p = let a = to_le in let b = first_to in omega arith in
      let e = first_is p n in
      let fe = first_more p m n in
      let zz = held_of f ++ take i p in
      rw e
      (ap shorts (begun (held_of f) (p ++ m) (held_plain f) (omega (arith, h)))
      ∙ (ap₂ (λ (x q : List ℕ). short (held_of f ++ x) ∷ shorts (lines_of q)) (ap (λ (j : ℕ). take j (p ++ m)) fe ∙ take-append-le i p m n) (ap (λ (j : ℕ). drop j (p ++ m)) fe ∙ drop-append-le i p m n)
      ∙ (ap (λ (x : List ℕ). x ∷ shorts (lines_of (drop i p ++ m))) (sym (short_short zz))
      ∙ ap (λ (x : List (List ℕ)). shorts x ++ shorts (lines_of (drop i p ++ m))) (sym (head_one (held_of f) p (held_plain f) (omega (arith, h)) n)))))

  nothing : (h m : List ℕ) → length h ≡ 0 → shorts (lines_of (h ++ (p ++ m))) ≡ shorts (lines_of (short (h ++ take 0 p))) ++ shorts (lines_of (drop 0 p ++ m))
  unfolding short lines_of shorts
  nothing [] m e = refl
  nothing (b ∷ h) m e = absurd (omega arith)

  head_lines : (m : List ℕ) → shorts (lines_of (held_of f ++ (p ++ m))) ≡ shorts (lines_of (short (held_of f ++ take (ending_of f p) p))) ++ shorts (lines_of (drop (ending_of f p) p ++ m))
  unfolding ending_of
  head_lines m =
      by_test (λ (j : ℕ). shorts (lines_of (held_of f ++ (p ++ m))) ≡ shorts (lines_of (short (held_of f ++ take j p))) ++ shorts (lines_of (drop j p ++ m)))
      (eqb (length (held_of f)) 0) _ _
      (λ t. nothing (held_of f) m (eqb-true (length (held_of f)) 0 t))
      (λ t. begins m (eqb-false (length (held_of f)) 0 t))

  -- whole lines, then what is carried on
  rest_lines : (m : List ℕ) → shorts (lines_of (drop (ending_of f p) p ++ m)) ≡ shorts (lines_of (take (to_of p - ending_of f p) (drop (ending_of f p) p))) ++ shorts (lines_of (held_of (finder_of (drop (to_of p) p)) ++ m))
  rest_lines m =
      let a = ending_of f p in
      let n = to_of p - ending_of f p in
      let l = ending_le in
      let t = to_le in
      let j : a + n ≡ to_of p = omega arith in
      let c = closed_part p a n (drop (to_of p) p ++ m) (omega arith) (λ h. ap (λ (i : ℕ). get_or p (i - 1) 0) j ∙ to_feed) in
      let d : drop a p ≡ take n (drop a p) ++ drop (to_of p) p = sym (take-append-drop n (drop a p)) ∙ ap (λ (x : List ℕ). take n (drop a p) ++ x) (drop-drop n a p ∙ ap (λ (i : ℕ). drop i p) j) in
      ap (λ (x : List ℕ). shorts (lines_of (x ++ m))) d
      ∙ (ap (λ (x : List ℕ). shorts (lines_of x)) (append_assoc (take n (drop a p)) (drop (to_of p) p) m)
      ∙ (ap shorts c
      ∙ (shorts_append (lines_of (take n (drop a p))) (lines_of (drop (to_of p) p ++ m))
      ∙ ap (λ (x : List (List ℕ)). shorts (lines_of (take n (drop a p))) ++ x) (sym (carry (drop (to_of p) p) m to_plain) ∙ ap (λ (x : List ℕ). shorts (lines_of (x ++ m))) (sym (held_finder (drop (to_of p) p) to_plain))))))

  pub piece_some : (m : List ℕ) → shorts (lines_of (held_of f ++ (p ++ m))) ≡ shorts (handed_of f p) ++ shorts (lines_of (held_of (rest_of f p) ++ m))
  unfolding handed_of head_of mid_of from_of rest_of IF◌THEN◌ELSE◌
  piece_some m =
      let h = lines_of (short (held_of f ++ take (ending_of f p) p)) in
      let w = lines_of (take (to_of p - ending_of f p) (drop (ending_of f p) p)) in
      let r = shorts (lines_of (held_of (finder_of (drop (to_of p) p)) ++ m)) in
      rw (ne_eqb (to_of p) 0 z)
      (head_lines m ∙ (ap (λ (x : List (List ℕ)). shorts h ++ x) (rest_lines m) ∙ (sym (append_assoc (shorts h) (shorts w) r) ∙ ap (λ (x : List (List ℕ)). x ++ r) (sym (shorts_append h w)))))

-- ---- any piece, and all of them
pub piece : (f : Finder) (p m : List ℕ) → shorts (lines_of (held_of f ++ (p ++ m))) ≡ shorts (handed_of f p) ++ shorts (lines_of (held_of (rest_of f p) ++ m))
piece f p m =
    either (shorts (lines_of (held_of f ++ (p ++ m))) ≡ shorts (handed_of f p) ++ shorts (lines_of (held_of (rest_of f p) ++ m))) (eqb (to_of p) 0)
    (λ t. piece_none f p (eqb-true (to_of p) 0 t) m)
    (λ t. piece_some f p (eqb-false (to_of p) 0 t) m)

pub handed_from : (f : Finder) (ps : List (List ℕ)) → shorts (handed_all f ps) ≡ shorts (lines_of (held_of f ++ flat ps))
unfolding handed_all flat
handed_from f [] = ap (λ (x : List ℕ). shorts (lines_of x)) (sym (append-nil (held_of f)))
handed_from f (p ∷ ps) =
    shorts_append (handed_of f p) (handed_all (rest_of f p) ps)
    ∙ (ap (λ (x : List (List ℕ)). shorts (handed_of f p) ++ x) (handed_from (rest_of f p) ps) ∙ sym (piece f p (flat ps)))

-- the theorem
pub whole : (ps : List (List ℕ)) → shorts (handed_all (finder_of []) ps) ≡ shorts (lines_of (flat ps))
unfolding short plain_of
whole ps = handed_from (finder_of []) ps ∙ ap (λ (x : List ℕ). shorts (lines_of (x ++ flat ps))) (held_finder [] refl)

-- ---- there are no more lines than bytes
lines_some : (b : ℕ) (l : List ℕ) → length (lines_of (b ∷ l)) ≤ suc (length (lines_of l))
unfolding lines_of on_first
lines_some b l = by_test (λ (x : List (List ℕ)). length x ≤ suc (length (lines_of l))) (eqb b 10) _ _ (λ t. omega arith) (λ t. on (lines_of l))
  where
    on : (ls : List (List ℕ)) → length (on_first b ls) ≤ suc (length ls)
    on [] = omega arith
    on (k ∷ ls) = omega arith

pub lines_le : (l : List ℕ) → length (lines_of l) ≤ length l
unfolding lines_of
lines_le [] = omega arith
lines_le (b ∷ l) = omega (arith, lines_le l, lines_some b l)

one_most : (f : Finder) (p : List ℕ) → (to_of p ≡ 0 → ⊥) → length (lines_of (short (held_of f ++ take (ending_of f p) p))) ≤ ending_of f p
unfolding ending_of
one_most f p z =
    by_test (λ (j : ℕ). length (lines_of (short (held_of f ++ take j p))) ≤ j) (eqb (length (held_of f)) 0) _ _
    (λ t. none (held_of f) (eqb-true (length (held_of f)) 0 t))
    (λ t.
    let n : plain_of p + 1 ≤ length p = let a = to_le f p z in let b = first_to f p z in omega arith in
    rw (first_is p n) (omega (arith, ap length (head_one (held_of f) p (held_plain f) (omega (arith, eqb-false (length (held_of f)) 0 t)) n))))
  where
    none : (h : List ℕ) → length h ≡ 0 → length (lines_of (short (h ++ take 0 p))) ≤ 0
    none h e =
        let a = lines_le (short (h ++ take 0 p)) in
        let b = short_le (h ++ take 0 p) in
        let c = length-append h (take 0 p) in
        omega arith

some_room : (f : Finder) (p : List ℕ) → (to_of p ≡ 0 → ⊥) → length (lines_of (short (held_of f ++ take (ending_of f p) p))) + length (lines_of (take (to_of p - ending_of f p) (drop (ending_of f p) p))) ≤ length p
some_room f p z =
    let a = one_most f p z in
    let b = lines_le (take (to_of p - ending_of f p) (drop (ending_of f p) p)) in
    let c = length_take_most (to_of p - ending_of f p) (drop (ending_of f p) p) in
    let d = ending_le f p z in
    let e = to_le f p z in
    omega arith

-- the lines handed out for a piece are no more than its bytes
pub handed_room : (f : Finder) (p : List ℕ) → length (lines_of (head_of f p)) + length (lines_of (mid_of f p)) ≤ length p
unfolding head_of mid_of from_of IF◌THEN◌ELSE◌
handed_room f p =
    either (length (lines_of (head_of f p)) + length (lines_of (mid_of f p)) ≤ length p) (eqb (to_of p) 0)
    (λ t. rw (t, eqb-true (to_of p) 0 t) (none_room p))
    (λ t. rw t (some_room f p (eqb-false (to_of p) 0 t)))
  where
    none_room : (p : List ℕ) → length (lines_of []) + length (lines_of (take (0 - 0) (drop 0 p))) ≤ length p
    none_room p = let a = lines_le [] in let b = lines_le (take (0 - 0) (drop 0 p)) in omega arith

-- ---- what a caller needs of the parts
pub from_to : (f : Finder) (p : List ℕ) → from_of f p ≤ to_of p
unfolding from_of
from_to f p = by_test (λ (j : ℕ). j ≤ to_of p) (eqb (to_of p) 0) _ _ (λ t. omega arith) (λ t. ending_le f p (eqb-false (to_of p) 0 t))

pub to_in : (p : List ℕ) → to_of p ≤ length p
unfolding to_of
to_in p = end_le p (length p)

pub head_le : (f : Finder) (p : List ℕ) → length (head_of f p) ≤ kept
unfolding head_of short
head_le f p = by_test (λ (l : List ℕ). length l ≤ kept) (eqb (to_of p) 0) _ _ (λ t. omega arith) (λ t. simp length-take (omega arith))

pub head_is : (f : Finder) (p : List ℕ) → take (length (head_of f p)) (pad_of (head_of f p)) ≡ head_of f p
unfolding short
head_is f p =
    let h = head_le f p in
    let e : length (head_of f p) ≡ min kept (length (head_of f p)) = omega arith in
    ap (λ (j : ℕ). take j (pad_of (head_of f p))) e ∙ (take_pad (head_of f p) ∙ take_all kept (head_of f p) h)
