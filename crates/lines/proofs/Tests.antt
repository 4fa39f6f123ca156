-- Tests of all entries, of a row put together and of a part. Assumes nothing.
use Rattle.std.proofs.Common.{◌≡◌, ℕ, zero, suc, ◌+◌, ◌≤◌, Bool, true, false, ◌&&◌, List, [], ◌∷◌, ◌++◌, take, drop, refl, ap, subst, arith, take-take}
use Rattle.std.specs.List.{list_all}
use Rattle.rows.specs.Rows.{all}
use Rattle.rows.proofs.Choice.{and_left, and_right, both}

-- a test of all is the library's
pub all_is : {A : Type 0} (f : A → Bool) (l : List A) → all f l ≡ list_all f l
unfolding all
all_is f [] = refl
all_is f (x ∷ l) = ap (λ (t : Bool). f x && t) (all_is f l)

pub and_no : (a b : Bool) → b ≡ false → a && b ≡ false
and_no true b e = e
and_no false b e = refl

module _ {ℓ} {A : Type ℓ} (f : A → Bool) where
  pub all_append : (l k : List A) → all f l ≡ true → all f k ≡ true → all f (l ++ k) ≡ true
  unfolding all
  all_append [] k e h = h
  all_append (x ∷ l) k e h = both (and_left (f x) (all f l) e) (all_append l k (and_right (f x) (all f l) e) h)

  pub all_take : (n : ℕ) (l : List A) → all f l ≡ true → all f (take n l) ≡ true
  unfolding all
  all_take zero l e = refl
  all_take (suc n) [] e = refl
  all_take (suc n) (x ∷ l) e = both (and_left (f x) (all f l) e) (all_take n l (and_right (f x) (all f l) e))

  -- k entries from p on, of the first n
  pub all_part : (n p k : ℕ) (l : List A) → p + k ≤ n → all f (take n l) ≡ true → all f (take k (drop p l)) ≡ true
  unfolding all
  all_part n zero k l h e = subst (λ t. all f t ≡ true) (take-take k n l (omega arith)) (all_take k (take n l) e)
  all_part zero (suc p) k l h e = absurd (omega arith)
  all_part (suc n) (suc p) k [] h e = all_take k [] refl
  all_part (suc n) (suc p) k (x ∷ l) h e = all_part n p k l (omega arith) (and_right (f x) (all f (take n l)) e)
