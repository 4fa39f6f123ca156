-- Loops that test each entry from the front, and what a test of all entries says of each. Assumes nothing.
use Prim.Native.Nat.{ℕ, zero, suc, ◌+◌, ◌-◌, ◌<◌, ◌≤◌, min}
use mathlib.Core.Path.{◌≡◌, refl, sym, ap, ◌∙◌}
use mathlib.Core.Bool.{Bool, true, false, ◌&&◌}
use mathlib.Core.List.{List, [], ◌∷◌}
use native.Mathlib.Numerals.{add-one}
use native.Mathlib.Nat.{not-suc-le-zero, le_of_suc-le-suc}
use native.Mathlib.Omega.{arith}
use lib.ListN.{length, get_or, take, drop, drop_of_length-le, length-take, length-drop}
use lib.Seq.{drop-cons, get_or-take, get_or-drop}
use Rattle.rows.specs.Rows.{all}
use Rattle.rows.proofs.Choice.{and_left, and_right, both}

and_and : (a b c : Bool) → a && (b && c) ≡ (a && b) && c
and_and true b c = refl
and_and false b c = refl

and_yes : (a : Bool) → a && true ≡ a
and_yes true = refl
and_yes false = refl

module _ {ℓ} {A : Type ℓ} where
  pub drop_next : (l : List A) (i : ℕ) (d : A) → i < length l → drop i l ≡ get_or l i d ∷ drop (i + 1) l
  drop_next l i d h = rw add-one (drop-cons l i d h)

  pub all_yes : (f : A → Bool) (l : List A) (i : ℕ) (d : A) → i < length l → f (get_or l i d) ≡ true → all f (drop i l) ≡ all f (drop (i + 1) l)
  unfolding all
  all_yes f l i d h e = ap (all f) (drop_next l i d h) ∙ rw e

  pub all_no : (f : A → Bool) (l : List A) (i : ℕ) (d : A) → i < length l → f (get_or l i d) ≡ false → all f (drop i l) ≡ false
  unfolding all
  all_no f l i d h e = ap (all f) (drop_next l i d h) ∙ rw e

  pub all_end : (f : A → Bool) (l : List A) (i : ℕ) → length l ≤ i → all f (drop i l) ≡ true
  unfolding all
  all_end f l i h = ap (all f) (drop_of_length-le l h)

  -- a loop that makes each test and never leaves: t is what was found before, u what is found at i
  pub all_more : (f : A → Bool) (l : List A) (i : ℕ) (d : A) (t u : Bool) → i < length l → u ≡ f (get_or l i d) → (t && u) && all f (drop (i + 1) l) ≡ t && all f (drop i l)
  unfolding all
  all_more f l i d t u h e =
      ap (λ (x : Bool). (t && x) && all f (drop (i + 1) l)) e
      ∙ sym (and_and t (f (get_or l i d)) (all f (drop (i + 1) l)))
      ∙ ap (λ (k : List A). t && all f k) (sym (drop_next l i d h))

  pub all_found : (f : A → Bool) (l : List A) (i : ℕ) (t : Bool) → length l ≤ i → t && all f (drop i l) ≡ all f l → t ≡ all f l
  all_found f l i t h e = sym (and_yes t) ∙ ap (λ (b : Bool). t && b) (sym (all_end f l i h)) ∙ e

  pub all_at : (f : A → Bool) (l : List A) (i : ℕ) (d : A) → all f l ≡ true → i < length l → f (get_or l i d) ≡ true
  unfolding all
  all_at f [] i d e h = absurd (not-suc-le-zero h)
  all_at f (x ∷ l) zero d e h = and_left (f x) (all f l) e
  all_at f (x ∷ l) (suc i) d e h = all_at f l i d (and_right (f x) (all f l) e) (le_of_suc-le-suc h)

  -- and back: a test that holds at each index holds of all
  pub all_each : (f : A → Bool) (l : List A) (d : A) → ((i : ℕ) → i < length l → f (get_or l i d) ≡ true) → all f l ≡ true
  unfolding all
  all_each f [] d h = refl
  all_each f (x ∷ l) d h = both (h zero (omega arith)) (all_each f l d (λ i k. h (suc i) (omega arith)))

  -- and of all entries of a part
  pub all_part : (f : A → Bool) (l : List A) (i m : ℕ) (d : A) → all f l ≡ true → all f (take m (drop i l)) ≡ true
  all_part f l i m d e =
      all_each f (take m (drop i l)) d
      (λ k h.
      let n : length (take m (drop i l)) ≡ min m (length l - i) = length-take m (drop i l) ∙ ap (min m) (length-drop i l) in
      let x : get_or (take m (drop i l)) k d ≡ get_or l (i + k) d = get_or-take m (drop i l) k d (omega (arith, n)) ∙ get_or-drop i l k d in
      rw x (all_at f l (i + k) d e (omega (arith, n))))
