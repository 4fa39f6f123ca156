-- A frame of nine stored in a history: the length stays, the nine entries at the pointer are the frame's, and the others stay. So what holds
-- of each entry of the history and of each new one holds of each entry afterwards. Assumes nothing.
use mathlib.Core.Path.{◌≡◌, sym, ◌∙◌, subst}
use mathlib.Core.List.{List, ◌++◌}
use Prim.Native.Nat.{ℕ, ◌+◌, ◌-◌, ◌<◌, ◌≤◌}
use native.Mathlib.Omega.{arith}
use lib.Dec.{ltb}
use borrow.Author.Tests.{ltb-true, ltb-false}
use lib.IntN.{ℤ, pos}
use lib.ListN.{get_or, length, take, drop, length-append, length-drop, get_or-append}
use lib.Seq.{length-take-le, get_or-append-add, get_or-take, get_or-drop}
use Rattle.numbers.specs.Sum.{at}
use Rattle.rows.proofs.Choice.{either}
use Rattle.averages.specs.Averages.{stored_of}

module _ (h : List ℤ) (q : ℕ) (f : List ℤ) (room : q + 9 ≤ length h) (nine : length f ≡ 9) where
  front : length (take q h) ≡ q
  front = length-take-le q h (omega arith)

  both : length (take q h ++ f) ≡ q + 9
  both = omega (arith, length-append (take q h) f, front)

  pub stored_length : length (stored_of h q f) ≡ length h
  unfolding stored_of
  stored_length = omega (arith, both, length-append (take q h ++ f) (drop (q + 9) h), length-drop (q + 9) h)

  pub stored_before : (k : ℕ) → k < q → at (stored_of h q f) k ≡ at h k
  unfolding stored_of
  stored_before k l =
      get_or-append (take q h ++ f) (drop (q + 9) h) (pos 0) k (omega (arith, both))
      ∙ get_or-append (take q h) f (pos 0) k (omega (arith, front))
      ∙ get_or-take q h k (pos 0) l

  pub stored_at : (j : ℕ) → j < 9 → at (stored_of h q f) (q + j) ≡ at f j
  unfolding stored_of
  stored_at j l =
      get_or-append (take q h ++ f) (drop (q + 9) h) (pos 0) (q + j) (omega (arith, both))
      ∙ subst (λ (n : ℕ). get_or (take q h ++ f) (n + j) (pos 0) ≡ at f j) front (get_or-append-add (take q h) f j (pos 0))

  pub stored_after : (j : ℕ) → at (stored_of h q f) (q + 9 + j) ≡ at h (q + 9 + j)
  unfolding stored_of
  stored_after j =
      subst (λ (n : ℕ). get_or (take q h ++ f ++ drop (q + 9) h) (n + j) (pos 0) ≡ at h (q + 9 + j)) both
      (get_or-append-add (take q h ++ f) (drop (q + 9) h) j (pos 0) ∙ get_or-drop (q + 9) h j (pos 0))

  pub stored_each : (P : ℕ → ℤ → Type 0) → ((k : ℕ) → P k (at h k)) → ((j : ℕ) → j < 9 → P (q + j) (at f j)) → (k : ℕ) → P k (at (stored_of h q f) k)
  stored_each P old new k =
      either (P k (at (stored_of h q f) k)) (ltb k q) (λ t. subst (P k) (sym (stored_before k (ltb-true k q t))) (old k))
      (λ t.
      let l = ltb-false k q t in
      either (P k (at (stored_of h q f) k)) (ltb k (q + 9))
      (λ u.
      let j = k - q in
      let e : q + j ≡ k = omega arith in
      let i : j < 9 = omega (arith, ltb-true k (q + 9) u) in
      subst (λ (n : ℕ). P n (at (stored_of h q f) n)) e (subst (P (q + j)) (sym (stored_at j i)) (new j i)))
      (λ u.
      let j = k - (q + 9) in
      let e : q + 9 + j ≡ k = omega (arith, ltb-false k (q + 9) u) in
      subst (λ (n : ℕ). P n (at (stored_of h q f) n)) e (subst (P (q + 9 + j)) (sym (stored_after j)) (old (q + 9 + j)))))
