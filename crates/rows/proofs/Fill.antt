-- Loops that make a row, for any kind of entry: one that fills it from the front, one that copies it, and one that stores a row inside
-- another. Each has a law for a turn (`-more`) and one for the end (`-all`). Then the length and the entries of a row. Assumes nothing.
use Prim.Native.Nat.{ℕ, zero, suc, ◌+◌, ◌-◌, ◌<◌, ◌≤◌}
use mathlib.Core.Path.{◌≡◌, refl, sym, ap, ap₂, subst, ◌∙◌}
use mathlib.Core.List.{List, [], ◌∷◌, ◌++◌}
use native.Mathlib.Numerals.{add-one}
use native.Mathlib.Nat.{le_refl}
use native.Mathlib.Omega.{arith}
use lib.Dec.{ltb}
use borrow.Author.Tests.{ltb-true, ltb-false}
use lib.IntN.{ℤ, pos}
use lib.ListN.{length, get_or, take, drop, set, length-append, get_or-append, get_or-eq_default}
use Rattle.numbers.specs.Sum.{at}
use lib.Seq.{take-suc, take-suc-set, take_all, paste, paste-suc, get_or-append-add, get_or-drop}
use Rattle.rows.specs.Rows.{row, first_of}
use Rattle.rows.proofs.Choice.{either}

module _ {ℓ} {A : Type ℓ} where
  -- ---- filled from the front, with f i at i
  pub fill_none : (l : List A) (f : ℕ → A) → take 0 l ≡ row 0 f
  unfolding row
  fill_none l f = refl

  pub fill_more : (l : List A) (f : ℕ → A) (i : ℕ) (v : A) → i < length l → take i l ≡ row i f → v ≡ f i → take (i + 1) (set l i v) ≡ row (i + 1) f
  unfolding row
  fill_more l f i v h p e = rw (add-one i) (take-suc-set l i v h ∙ ap₂ (λ (k : List A) (x : A). k ++ (x ∷ [])) p e)

  whole : (l : List A) (n : ℕ) → length l ≡ n → take n l ≡ l
  whole l n h = take_all n l (subst (λ (k : ℕ). k ≤ n) (sym h) (le_refl n))

  pub fill_all : (l : List A) (f : ℕ → A) (n i : ℕ) → length l ≡ n → i ≡ n → take i l ≡ row i f → l ≡ row n f
  fill_all l f n i h e p = sym (whole l n h) ∙ subst (λ (k : ℕ). take k l ≡ row k f) e p

  -- ---- filled from the front up to i, and from there on the entries of s, which are f's
  pub fill_rest : (l s : List A) (f : ℕ → A) (n i : ℕ) (z : A) → length l ≡ n → i ≤ n → take i l ≡ row i f → drop i l ≡ drop i s → ((k : ℕ) → i ≤ k → k < n → get_or s k z ≡ f k) → l ≡ row n f
  unfolding row
  fill_rest l s f n i z h b p q e = fill_all l f n (i + (n - i)) h (omega arith) (upto (n - i) (omega arith))
    where
      upto : (j : ℕ) → i + j ≤ n → take (i + j) l ≡ row (i + j) f
      upto zero k = let m : i ≡ i + zero = omega arith in subst (λ (t : ℕ). take t l ≡ row t f) m p
      upto (suc j) k =
          let m : suc (i + j) ≡ i + suc j = omega arith in
          let x = sym (get_or-drop i l j z) ∙ (ap (λ (d : List A). get_or d j z) q ∙ (get_or-drop i s j z ∙ e (i + j) (omega arith) (omega arith))) in
          subst (λ (t : ℕ). take t l ≡ row t f) m (take-suc l (i + j) z (omega arith) ∙ ap₂ (λ (a : List A) (v : A). a ++ (v ∷ [])) (upto j (omega arith)) x)

  -- ---- copied, entry by entry
  pub copy_more : (l s : List A) (i : ℕ) (v z : A) → i < length l → i < length s → take i l ≡ take i s → v ≡ get_or s i z → take (i + 1) (set l i v) ≡ take (i + 1) s
  copy_more l s i v z h k p e = rw (add-one i) (take-suc-set l i v h ∙ (ap₂ (λ (a : List A) (x : A). a ++ (x ∷ [])) p e ∙ sym (take-suc s i z k)))

  pub copy_all : (l s : List A) (n i : ℕ) → length l ≡ n → length s ≡ n → i ≡ n → take i l ≡ take i s → l ≡ s
  copy_all l s n i h k e p = sym (whole l n h) ∙ (subst (λ (m : ℕ). take m l ≡ take m s) e p ∙ whole s n k)

  -- ---- the first n entries of a row of n are the row
  pub first_take : (n : ℕ) (l : List A) (z : A) → n ≤ length l → first_of n z l ≡ take n l
  unfolding first_of row
  first_take zero l z h = refl
  first_take (suc n) l z h = ap (λ (k : List A). k ++ (get_or l n z ∷ [])) (first_take n l z (omega arith)) ∙ sym (take-suc l n z h)

  pub first_whole : (n : ℕ) (l : List A) (z : A) → length l ≡ n → first_of n z l ≡ l
  first_whole n l z h = first_take n l z (omega arith) ∙ whole l n h

  -- ---- s stored into d from p on, entry by entry
  pub store_more : (l d : List A) (p : ℕ) (s : List A) (i : ℕ) (v z : A) → p + i < length d → i < length s → l ≡ paste d p s i → v ≡ get_or s i z → set l (p + i) v ≡ paste d p s (i + 1)
  store_more l d p s i v z hd hs e h =
      ap₂ (λ (k : List A) (x : A). set k (p + i) x) e h ∙ (paste-suc d p s i z hd hs ∙ ap (paste d p s) (sym (add-one i)))

  pub store_all : (l d : List A) (p : ℕ) (s : List A) (n i : ℕ) → length s ≡ n → i ≡ n → l ≡ paste d p s i → l ≡ take p d ++ s ++ drop (p + n) d
  store_all l d p s n i h e q = q ∙ (ap (paste d p s) e ∙ ap (λ (k : List A). take p d ++ k ++ drop (p + n) d) (whole s n h))

  -- ---- the length and the entries
  pub length_row : (n : ℕ) (f : ℕ → A) → length (row n f) ≡ n
  unfolding row
  length_row zero f = refl
  length_row (suc n) f = length-append (row n f) (f n ∷ []) ∙ rw (length_row n f) (add-one n)

  pub row_at : (n : ℕ) (f : ℕ → A) (i : ℕ) (d : A) → i < n → get_or (row n f) i d ≡ f i
  unfolding row
  row_at zero f i d h = absurd (omega arith)
  row_at (suc n) f i d h =
      either (get_or (row n f ++ (f n ∷ [])) i d ≡ f i) (ltb i n)
      (λ t.
      let l : i < n = ltb-true i n t in
      get_or-append (row n f) (f n ∷ []) d i (subst (λ (k : ℕ). i < k) (sym (length_row n f)) l) ∙ row_at n f i d l)
      (λ t.
      let e : i ≡ length (row n f) + 0 = omega (arith, length_row n f, ltb-false i n t) in
      let k : n ≡ i = omega (arith, ltb-false i n t) in
      ap (λ (j : ℕ). get_or (row n f ++ (f n ∷ [])) j d) e ∙ get_or-append-add (row n f) (f n ∷ []) 0 d ∙ ap f k)

  -- equal entries, equal rows
  pub row_ext : (n : ℕ) (f g : ℕ → A) → ((k : ℕ) → k < n → f k ≡ g k) → row n f ≡ row n g
  unfolding row
  row_ext zero f g e = refl
  row_ext (suc n) f g e = ap₂ (λ (l : List A) (x : A). l ++ (x ∷ [])) (row_ext n f g (λ k h. e k (omega arith))) (e n (omega arith))

-- what holds of 0 and of each number of a row holds at every index
pub row_all : (Q : ℤ → Type 0) (n : ℕ) (f : ℕ → ℤ) → Q (pos 0) → ((k : ℕ) → Q (f k)) → (k : ℕ) → Q (at (row n f) k)
row_all Q n f z h k =
    either (Q (at (row n f) k)) (ltb k n)
    (λ t. subst Q (sym (row_at n f k (pos 0) (ltb-true k n t))) (h k))
    (λ t. subst Q (sym (get_or-eq_default (row n f) (pos 0) (omega (arith, length_row n f, ltb-false k n t)))) z)
