-- The library's test of all entries is ours. Assumes nothing.
use Rattle.std.proofs.Common.{◌≡◌, Bool, ◌&&◌, List, [], ◌∷◌, refl}
use Rattle.std.specs.List.{list_all}
use Rattle.std.proofs.lemmas.List.Recursion.{same_from_clauses}
use Rattle.rows.specs.Rows.{all}

pub all_is : {A : Type 0} (f : A → Bool) (l : List A) → all f l ≡ list_all f l
unfolding all
all_is f l = same_from_clauses (all f) (list_all f) (λ x b. f x && b) refl (λ _ _. refl) (λ _ _. refl) l

-- two tests that agree
pub all_same : {A : Type 0} (f g : A → Bool) (l : List A) → ((x : A) → f x ≡ g x) → all f l ≡ all g l
unfolding all
all_same f g [] h = refl
all_same f g (x ∷ l) h = rw (h x, all_same f g l h)
