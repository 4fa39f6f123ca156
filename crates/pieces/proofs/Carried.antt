-- The carried line: what a finder holds, as code makes it, and that its first 85 bytes are enough. Assumes nothing.
use Prim.Native.Nat.{ℕ, zero, suc, ◌+◌, ◌-◌, ◌≤◌, min}
use mathlib.Core.Path.{◌≡◌, refl, sym, ap, ap₂, ◌∙◌}
use mathlib.Core.List.{List, [], ◌∷◌, ◌++◌}
use native.Mathlib.Omega.{arith}
use borrow.Author.Tests.{eq-eqb, ne_eqb, leb-true, leb-false}
use lib.Dec.{leb, eqb}
use lib.ListN.{length, take, drop, replicate, length-append, length-take, length-replicate}
use lib.Seq.{take_all, take-take, take_at, take-length, length-take-le, take-append-le, take-append-add, drop-append-add}
use Rattle.rows.specs.Choice.{IF◌THEN◌ELSE◌}
use Rattle.rows.proofs.Choice.{either, by_test}
use Rattle.pieces.specs.declared.Parts.{Parts}
use Rattle.pieces.specs.declared.Finder.{Finder}
use Rattle.pieces.specs.Lines.{lines_of, plain_of, first_of, short, kept}
use Rattle.pieces.specs.Cut.{pad_of, finder_of, held_of, to_of, ending_of, from_of, head_of, rest_of, cut_of}
use Rattle.pieces.specs.Pieces.{shorts}
use Rattle.pieces.proofs.Found.{plain_le, plain_take, begun}

-- ---- what a finder holds
module _ (f : Finder) where
  abbrev filled : List ℕ
  filled = take f.fill f.line

  pub held_length : length (held_of f) ≡ plain_of (take f.fill f.line)
  unfolding held_of
  held_length =
      let a = plain_take f.fill f.line in
      let b = plain_le f.line in
      length-take-le (plain_of filled) f.line (omega arith)

  pub held_plain : plain_of (held_of f) ≡ length (held_of f)
  unfolding held_of
  held_plain =
      let a = plain_take f.fill f.line in
      let b = plain_take (plain_of filled) f.line in
      let c = held_length in
      omega (arith, c)

  pub held_some : (k : ℕ) → length f.line ≡ kept → k ≡ min f.fill kept → plain_of (take k f.line) ≡ length (held_of f)
  held_some k n e =
      let a = plain_take f.fill f.line in
      let b = plain_take k f.line in
      let c = plain_le f.line in
      let d = held_length in
      omega (arith, d)

  pub held_le : length f.line ≡ kept → length (held_of f) ≤ kept
  held_le n =
      let a = plain_take f.fill f.line in
      let c = plain_le f.line in
      let d = held_length in
      omega (arith, d)

pub length_pad : (l : List ℕ) → length (pad_of l) ≡ kept
unfolding pad_of short
length_pad l = simp (length-append, length-take, length-replicate) (omega arith)

pub take_pad : (l : List ℕ) → take (min kept (length l)) (pad_of l) ≡ short l
unfolding pad_of short
take_pad l = take_at (take kept l) (replicate (kept - length l) 0) (min kept (length l)) (length-take kept l)

pub held_finder : (l : List ℕ) → plain_of l ≡ length l → held_of (finder_of l) ≡ short l
unfolding held_of finder_of short
held_finder l p =
    let a = plain_take kept l in
    let n : plain_of (take kept l) ≡ min kept (length l) = omega arith in
    ap (λ (x : List ℕ). take (plain_of x) (pad_of l)) (take_pad l) ∙ (ap (λ (j : ℕ). take j (pad_of l)) n ∙ take_pad l)

-- ---- its first 85 bytes are enough
pub short_append : (l m : List ℕ) → short (short l ++ m) ≡ short (l ++ m)
unfolding short
short_append l m =
    either (take kept (take kept l ++ m) ≡ take kept (l ++ m)) (leb (length l) kept)
    (λ t. ap (λ (k : List ℕ). take kept (k ++ m)) (take_all kept l (leb-true (length l) kept t)))
    (λ t.
    let h = leb-false (length l) kept t in
    take_at (take kept l) m kept (length-take-le kept l (omega arith)) ∙ sym (take-append-le kept l m (omega arith)))

pub short_short : (l : List ℕ) → short (short l) ≡ short l
unfolding short
short_short l = take-take kept kept l (omega arith)

pub carry : (l m : List ℕ) → plain_of l ≡ length l → shorts (lines_of (short l ++ m)) ≡ shorts (lines_of (l ++ m))
unfolding short shorts
carry [] m p = refl
carry (b ∷ l) m p =
    let n = length-take kept (b ∷ l) in
    let a = plain_take kept (b ∷ l) in
    ap shorts (begun (take kept (b ∷ l)) m (omega arith) (omega arith))
    ∙ (ap (λ (x : List ℕ). x ∷ shorts (lines_of (drop (first_of m) m))) (short_append (b ∷ l) (take (first_of m) m))
    ∙ sym (ap shorts (begun (b ∷ l) m p (omega arith))))

-- ---- as code makes it
drop_zeros : (n k : ℕ) → drop {A = ℕ} k (replicate n 0) ≡ replicate (n - k) 0
drop_zeros n zero = let e : n ≡ n - 0 = omega arith in ap (λ (j : ℕ). replicate {A = ℕ} j 0) e
drop_zeros zero (suc k) = let e : 0 ≡ 0 - suc k = omega arith in ap (λ (j : ℕ). replicate {A = ℕ} j 0) e
drop_zeros (suc n) (suc k) = let e : n - k ≡ suc n - suc k = omega arith in drop_zeros n k ∙ ap (λ (j : ℕ). replicate {A = ℕ} j 0) e

take_min : (l : List ℕ) (n : ℕ) → take (min (length l) n) l ≡ take n l
take_min l n =
    either (take (min (length l) n) l ≡ take n l) (leb (length l) n)
    (λ t.
    let h = leb-true (length l) n t in
    let m : min (length l) n ≡ length l = omega arith in
    rw m (take-length l ∙ sym (take_all n l h)))
    (λ t.
    let h = leb-false (length l) n t in
    let m : min (length l) n ≡ n = omega arith in rw m)

-- h stored into zeros, and as much of m as there is room for behind it
pub pad_joined : (h m a b : List ℕ) (k : ℕ) → length h ≤ kept → k ≡ min (length m) (kept - length h)
    → a ≡ take 0 (replicate kept 0) ++ h ++ drop (0 + length h) (replicate kept 0)
    → b ≡ take (length h) a ++ take k m ++ drop (length h + length (take k m)) a
    → b ≡ pad_of (h ++ m)
unfolding pad_of short
pad_joined h m a b k n e p q =
    let v : 0 + length h ≡ length h = omega arith in
    let z : a ≡ h ++ replicate (kept - length h) 0 =
    p ∙ (ap (λ (i : ℕ). h ++ drop i (replicate kept 0)) v ∙ ap (λ (x : List ℕ). h ++ x) (drop_zeros kept (length h))) in
    let t = length-take k m in
    let y : kept - length h - length (take k m) ≡ kept - length (h ++ m) = rw (length-append h m) (omega arith) in
    let j : kept ≡ length h + (kept - length h) = omega arith in
    let c : take kept (h ++ m) ≡ h ++ take k m =
    ap (λ (i : ℕ). take i (h ++ m)) j ∙ (take-append-add h m (kept - length h) ∙ ap (λ (x : List ℕ). h ++ x) (sym (take_min m (kept - length h)) ∙ ap (λ (i : ℕ). take i m) (sym e))) in
    q
    ∙ ap₂ (λ (x w : List ℕ). x ++ take k m ++ w) (ap (take (length h)) z ∙ take_at h (replicate (kept - length h) 0) (length h) refl)
    (ap (drop (length h + length (take k m))) z ∙ (drop-append-add h (replicate (kept - length h) 0) (length (take k m)) ∙ (drop_zeros (kept - length h) (length (take k m)) ∙ ap (λ (i : ℕ). replicate {A = ℕ} i 0) y)))
    ∙ ap (λ (x : List ℕ). x ++ replicate (kept - length (h ++ m)) 0) (sym c)

pub held_take : (f : Finder) (k : ℕ) → k ≡ length (held_of f) → take k f.line ≡ held_of f
unfolding held_of
held_take f k e = ap (λ (j : ℕ). take j f.line) (e ∙ held_length f)

abbrev finder : List ℕ → ℕ → Finder
finder l n = record { line = l; fill = n }

pub joined_is : (f : Finder) (m a b : List ℕ) (fill k : ℕ) → length f.line ≡ kept → fill ≡ length (held_of f) → k ≡ min (length m) (kept - fill)
    → a ≡ take 0 (replicate kept 0) ++ take fill f.line ++ drop (0 + length (take fill f.line)) (replicate kept 0)
    → b ≡ take fill a ++ take k m ++ drop (fill + length (take k m)) a
    → ◌≡◌ {A = Finder} (record { line = b; fill = fill + k }) (finder_of (held_of f ++ m))
unfolding finder_of
joined_is f m a b fill k n e d p q =
    let w = held_take f fill e in
    let g = held_le f n in
    let c = length-append (held_of f) m in
    let z : fill + k ≡ min kept (length (held_of f ++ m)) = omega arith in
    ap₂ finder
    (pad_joined (held_of f) m a b k g (d ∙ ap (λ (j : ℕ). min (length m) (kept - j)) e)
    (p ∙ ap (λ (x : List ℕ). take 0 (replicate kept 0) ++ x ++ drop (0 + length x) (replicate kept 0)) w)
    (q ∙ ap (λ (j : ℕ). take j a ++ take k m ++ drop (j + length (take k m)) a) e))
    z

-- ---- the parts of a piece
pub cut_none : (f : Finder) (p : List ℕ) (r : Finder) → to_of p ≡ 0 → r ≡ finder_of (held_of f ++ p) → ◌≡◌ {A = Parts} (record { head = replicate kept 0; n = 0; from = 0; to = 0; rest = r }) (cut_of f p)
unfolding cut_of head_of from_of rest_of pad_of short IF◌THEN◌ELSE◌
cut_none f p r z e = rw (eq-eqb (to_of p) 0 z, z, e)

pad_short : (l : List ℕ) → pad_of l ≡ pad_of (short l)
unfolding pad_of short
pad_short l =
    let n = length-take kept l in
    let e : kept - length l ≡ kept - length (take kept l) = omega arith in
    ap₂ (λ (x : List ℕ) (j : ℕ). x ++ replicate j 0) (sym (take-take kept kept l (omega arith))) e

abbrev parts : List ℕ → ℕ → ℕ → ℕ → Finder → Parts
parts h n a b r = record { head = h; n = n; from = a; to = b; rest = r }

pub cut_some : (f : Finder) (p : List ℕ) (from to : ℕ) (h none r : Finder) → (to_of p ≡ 0 → ⊥) → to ≡ to_of p → from ≡ ending_of f p
    → h ≡ finder_of (held_of f ++ take from p) → none ≡ finder_of [] → r ≡ finder_of (held_of none ++ drop to p)
    → ◌≡◌ {A = Parts} (record { head = h.line; n = h.fill; from = from; to = to; rest = r }) (cut_of f p)
unfolding cut_of head_of from_of rest_of IF◌THEN◌ELSE◌ finder_of short
cut_some f p from to h none r z e d q o s =
    let hz = held_of f ++ take from p in
    let none_is : held_of none ≡ [] = ap held_of o ∙ held_finder [] (plain_nil) in
    rw (ne_eqb (to_of p) 0 z, ← e, ← d)
    (ap (λ (x : Finder). parts x.line x.fill from to r) q
    ∙ (ap₂ (λ (x : List ℕ) (j : ℕ). parts x j from to r) (pad_short hz) (sym (length-take kept hz))
    ∙ ap (λ (x : Finder). parts (pad_of (short hz)) (length (short hz)) from to x) (s ∙ ap (λ (x : List ℕ). finder_of (x ++ drop to p)) none_is)))
  where
    plain_nil : plain_of [] ≡ 0
    plain_nil = let a = plain_le [] in omega arith

pub ending_in : (f : Finder) (p : List ℕ) → ending_of f p ≤ length p
unfolding ending_of first_of
ending_in f p = by_test (λ (j : ℕ). j ≤ length p) (eqb (length (held_of f)) 0) _ _ (λ t. omega arith) (λ t. omega arith)
