-- A text put into another: its length, its parts, and one put behind the other. Assumes nothing.
use mathlib.Core.Path.{◌≡◌, refl, sym, ap, ap₂, ◌∙◌}
use mathlib.Core.List.{List, [], ◌++◌, append_assoc, append-nil}
use Prim.Native.Nat.{ℕ, ◌+◌, ◌<◌, ◌≤◌}
use native.Mathlib.Omega.{arith}
use borrow.Author.Tests.{le-leb, lt-leb, leb-true}
use lib.Dec.{leb}
use lib.ListN.{length, take, drop, length-append, length-drop, take-append-drop}
use lib.Seq.{take_at, drop_at, drop-drop, length-take-le}
use Rattle.rows.proofs.Choice.{by_test, by_yes, by_no}
use Rattle.pieces.specs.Put.{put_of}

module _ (o : List ℕ) (at : ℕ) (t : List ℕ) where
  pub put_is : at + length t ≤ length o → put_of o at t ≡ take at o ++ t ++ drop (at + length t) o
  unfolding put_of
  put_is h = by_yes _ _ (le-leb (at + length t) (length o) h)

  pub put_no : length o < at + length t → put_of o at t ≡ o
  unfolding put_of
  put_no h = by_no _ _ (lt-leb (at + length t) (length o) h)

  head : at + length t ≤ length o → length (take at o ++ t) ≡ at + length t
  head h = length-append (take at o) t ∙ ap (λ (a : ℕ). a + length t) (length-take-le at o (omega arith))

  pub put_take : at + length t ≤ length o → take (at + length t) (put_of o at t) ≡ take at o ++ t
  put_take h = ap (take (at + length t)) (put_is h) ∙ take_at (take at o ++ t) (drop (at + length t) o) (at + length t) (head h)

  pub put_drop : at + length t ≤ length o → drop (at + length t) (put_of o at t) ≡ drop (at + length t) o
  put_drop h = ap (drop (at + length t)) (put_is h) ∙ drop_at (take at o ++ t) (drop (at + length t) o) (at + length t) (head h)

  pub put_length : length (put_of o at t) ≡ length o
  unfolding put_of
  put_length =
      by_test (λ (x : List ℕ). length x ≡ length o) (leb (at + length t) (length o)) _ _
      (λ e.
      let h = leb-true (at + length t) (length o) e in
      length-append (take at o ++ t) (drop (at + length t) o) ∙ (let g = head h in let r = length-drop (at + length t) o in omega arith))
      (λ e. refl)

pub put_none : (o : List ℕ) (at : ℕ) → at ≤ length o → put_of o at [] ≡ o
put_none o at h =
    let e : at + 0 ≡ at = omega arith in
    put_is o at [] (omega arith)
    ∙ (ap₂ (λ (x : List ℕ) (j : ℕ). x ++ drop j o) (append-nil (take at o)) e ∙ take-append-drop at o)

-- one behind the other
pub put_put : (o : List ℕ) (at : ℕ) (a b : List ℕ) → at + length a + length b ≤ length o → put_of (put_of o at a) (at + length a) b ≡ put_of o at (a ++ b)
put_put o at a b h =
    let g : at + length a ≤ length o = omega arith in
    let l = put_length o at a in
    let n = length-append a b in
    let k : at + length a + length b ≤ length (put_of o at a) = omega arith in
    let e : at + length a + length b ≡ at + length (a ++ b) = omega arith in
    put_is (put_of o at a) (at + length a) b k
    ∙ (ap₂ (λ (x y : List ℕ). x ++ b ++ y) (put_take o at a g)
    (sym (drop-drop (length b) (at + length a) (put_of o at a)) ∙ (ap (drop (length b)) (put_drop o at a g) ∙ (drop-drop (length b) (at + length a) o ∙ ap (λ (j : ℕ). drop j o) e)))
    ∙ (ap (λ (x : List ℕ). x ++ drop (at + length (a ++ b)) o) (append_assoc (take at o) a b) ∙ sym (put_is o at (a ++ b) (omega arith))))

-- at the front
pub put_front : (o t : List ℕ) → length t ≤ length o → take (length t) (put_of o 0 t) ≡ t
put_front o t h = let e : length t ≡ 0 + length t = omega arith in ap (λ (j : ℕ). take j (put_of o 0 t)) e ∙ put_take o 0 t (omega arith)
