-- A caller that answers line after line: its state and what it wrote, over lines one after the other, over the first 85 bytes of each, and over
-- an input in pieces. Assumes nothing.
use Prim.Native.Nat.{ℕ, suc, ◌+◌, ◌*◌, ◌≤◌}
use mathlib.Core.Path.{◌≡◌, refl, sym, ap, ap₂, ◌∙◌}
use mathlib.Core.List.{List, [], ◌∷◌, ◌++◌, append_assoc}
use native.Mathlib.Omega.{arith}
use native.Mathlib.Numerals.{unary_clauses}
use lib.ListN.{length, length-append}
use Rattle.pieces.specs.Lines.{lines_of, short}
use Rattle.pieces.specs.Cut.{finder_of}
use Rattle.pieces.specs.Pieces.{flat, handed_all, shorts, state_after, text_after}
use Rattle.pieces.proofs.Whole.{whole}

module _ {S : Type 0} (next : S → List ℕ → S) (text : S → List ℕ → List ℕ) where
  -- ---- lines one after the other
  pub state_append : (s : S) (a b : List (List ℕ)) → state_after next s (a ++ b) ≡ state_after next (state_after next s a) b
  unfolding state_after
  state_append s [] b = refl
  state_append s (l ∷ a) b = state_append (next s l) a b

  pub text_append : (s : S) (a b : List (List ℕ)) → text_after next text s (a ++ b) ≡ text_after next text s a ++ text_after next text (state_after next s a) b
  unfolding state_after text_after
  text_append s [] b = refl
  text_append s (l ∷ a) b = ap (λ (x : List ℕ). text s l ++ x) (text_append (next s l) a b) ∙ sym (append_assoc (text s l) _ _)

  pub text_most : (k : ℕ) → ((s : S) (l : List ℕ) → length (text s l) ≤ k) → (s : S) (ls : List (List ℕ)) → length (text_after next text s ls) ≤ k * length ls
  unfolding text_after
  text_most k h s [] = omega arith
  text_most k h s (l ∷ ls) =
      let a = text_most k h (next s l) ls in
      let b = h s l in
      let c = length-append (text s l) (text_after next text (next s l) ls) in
      let d : k * suc (length ls) ≡ k + k * length ls = simp unary_clauses (omega arith) in
      omega arith

  -- ---- a caller that looks at no more than 85 bytes of a line
  module _ (cap : (s : S) (l : List ℕ) → next s (short l) ≡ next s l) where
    pub state_short : (s : S) (ls : List (List ℕ)) → state_after next s (shorts ls) ≡ state_after next s ls
    unfolding state_after shorts
    state_short s [] = refl
    state_short s (l ∷ ls) = ap (λ (t : S). state_after next t (shorts ls)) (cap s l) ∙ state_short (next s l) ls

    -- the state that the pieces leave is that of the lines of the whole input
    pub state_whole : (s : S) (ps : List (List ℕ)) → state_after next s (handed_all (finder_of []) ps) ≡ state_after next s (lines_of (flat ps))
    state_whole s ps =
        sym (state_short s (handed_all (finder_of []) ps)) ∙ (ap (state_after next s) (whole ps) ∙ state_short s (lines_of (flat ps)))

    module _ (capt : (s : S) (l : List ℕ) → text s (short l) ≡ text s l) where
      pub text_short : (s : S) (ls : List (List ℕ)) → text_after next text s (shorts ls) ≡ text_after next text s ls
      unfolding text_after shorts
      text_short s [] = refl
      text_short s (l ∷ ls) =
          ap₂ (λ (x y : List ℕ). x ++ y) (capt s l) (ap (λ (t : S). text_after next text t (shorts ls)) (cap s l) ∙ text_short (next s l) ls)

      -- what a caller writes for the pieces is what it writes for the lines of the whole input
      pub text_whole : (s : S) (ps : List (List ℕ)) → text_after next text s (handed_all (finder_of []) ps) ≡ text_after next text s (lines_of (flat ps))
      text_whole s ps =
          sym (text_short s (handed_all (finder_of []) ps)) ∙ (ap (text_after next text s) (whole ps) ∙ text_short s (lines_of (flat ps)))
