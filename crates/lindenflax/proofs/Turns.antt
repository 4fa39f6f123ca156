-- A closure that may be called with each element of a list may be called over the list, turn by turn. Assumes nothing.
use mathlib.Core.Path.{◌≡◌, ap, subst, ◌∙◌}
use mathlib.Core.List.{List, [], ◌∷◌, ◌++◌}
use Prim.Native.Nat.{ℕ, ◌<◌}
use native.Mathlib.Omega.{arith}
use lib.ListN.{length, get_or, length-append}
use lib.Seq.{get_or-append_seam}
use Rattle.std.specs.Array.{list_steps}
use Rattle.std.specs.Iterator.{CallableAtEachTurn, Yields}

split : {A : Type 0} (xs s t : List A) → Yields list_steps s xs t → s ≡ xs ++ t
split [] s t y = y
split (x ∷ xs) s t y = y.1 ∙ ap (λ (l : List _). x ∷ l) (split xs y.0 t y.2)

pub each_turn : {A P : Type 0} {R : P → A → P → Type 0} {Q : P → A → Type 0} (l : List A) (d : A) {p : P} → ((k : ℕ) (q : P) → k < length l → Q q (get_or l k d)) → CallableAtEachTurn list_steps R Q l p
each_turn {A} {P} {R} {Q} l d h =
    record {
      at = λ xs t q x u y c z.
          let e : l ≡ xs ++ (x ∷ u) = split xs l t y ∙ ap (λ (m : List A). xs ++ m) z in
          let n : length xs < length l = omega (arith, ap length e, length-append xs (x ∷ u)) in
          subst (Q q) (ap (λ (m : List A). get_or m (length xs) d) e ∙ get_or-append_seam xs x u d) (h (length xs) q n);
    }
