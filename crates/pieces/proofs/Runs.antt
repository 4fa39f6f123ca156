-- A caller's loop over the lines of a text: before it, a line of it, and after it; and a piece, whose head and whole lines are run one after the
-- other. `Runs` says what the caller's state and the lent output are at a place of the text, in the words of what is left to do: it is the
-- invariant of the loop. The caller gives its answer to one line, the state after it and what it writes, at most k bytes. Assumes nothing.
use mathlib.Core.Path.{◌≡◌, refl, sym, ap, ap₂, subst, ◌∙◌}
use mathlib.Core.List.{List, [], ◌∷◌, ◌++◌}
use Prim.Native.Nat.{ℕ, suc, ◌+◌, ◌-◌, ◌*◌, ◌<◌, ◌≤◌}
use native.Mathlib.Omega.{arith}
use native.Mathlib.Nat.{mul-add, mul-le-mul_left}
use native.Mathlib.Numerals.{unary_clauses}
use lib.ListN.{length, take, drop, length-append, length-drop, drop_of_length-le}
use lib.Seq.{drop-drop}
use Rattle.pieces.specs.declared.Finder.{Finder}
use Rattle.pieces.specs.declared.Parts.{Parts}
use Rattle.pieces.specs.Lines.{lines_of, first_of, kept}
use Rattle.pieces.specs.Cut.{head_of, mid_of, rest_of, cut_of}
use Rattle.pieces.specs.Pieces.{state_after, text_after, handed_of}
use Rattle.pieces.specs.Put.{put_of}
use Rattle.pieces.proofs.Written.{put_length, put_none, put_put}
use Rattle.pieces.proofs.Found.{first_line}
use Rattle.pieces.proofs.Whole.{handed_room, from_to, to_in, head_le, head_is}
use Rattle.pieces.proofs.Caller.{state_append, text_append, text_most}

pub record Runs {S : Type 0} (next : S → List ℕ → S) (text : S → List ℕ → List ℕ) (k : ℕ) (l : List ℕ) (s₀ : S) (at : ℕ) (o₀ : List ℕ) (i : ℕ) (s : S) (wrote : ℕ) (o : List ℕ) : Type 0 where
  pub within : i ≤ length l
  pub room : wrote + k * length (lines_of (drop i l)) ≤ length o
  pub same : length o ≡ length o₀
  pub state : state_after next s (lines_of (drop i l)) ≡ state_after next s₀ (lines_of l)
  pub count : wrote + length (text_after next text s (lines_of (drop i l))) ≡ at + length (text_after next text s₀ (lines_of l))
  pub written : put_of o wrote (text_after next text s (lines_of (drop i l))) ≡ put_of o₀ at (text_after next text s₀ (lines_of l))

first_most : (l : List ℕ) → first_of l ≤ length l
unfolding first_of
first_most l = omega arith

lines_nil : lines_of [] ≡ []
unfolding lines_of
lines_nil = refl

lines_cut : (l : List ℕ) (i to : ℕ) → i < length l → to ≡ i + first_of (drop i l) → lines_of (drop i l) ≡ take (to - i) (drop i l) ∷ lines_of (drop to l)
lines_cut l i to h e =
    let d = length-drop i l in
    let a : first_of (drop i l) ≡ to - i = omega arith in
    first_line (drop i l) (omega arith)
    ∙ ap₂ (λ (x y : List ℕ). x ∷ lines_of y) (ap (λ (j : ℕ). take j (drop i l)) a) (drop-drop (first_of (drop i l)) i l ∙ ap (λ (j : ℕ). drop j l) (sym e))

-- where a line ends
pub line_in : (l : List ℕ) (i to : ℕ) → i < length l → to ≡ i + first_of (drop i l) → to ≤ length l
line_in l i to h e = let d = length-drop i l in let f = first_most (drop i l) in omega arith

pub line_on : (l : List ℕ) (i to : ℕ) → i < length l → to ≡ i + first_of (drop i l) → i < to
unfolding first_of
line_on l i to h e = let d = length-drop i l in omega arith

-- a piece of which x is the head and y the whole lines
module _ (f : Finder) (p x y : List ℕ) (hx : x ≡ head_of f p) (hy : y ≡ mid_of f p) where
  lines : lines_of x ++ lines_of y ≡ handed_of f p
  unfolding handed_of
  lines = ap₂ (λ (a b : List ℕ). lines_of a ++ lines_of b) hx hy

  pub head_then_mid : {S : Type 0} (next : S → List ℕ → S) (text : S → List ℕ → List ℕ) (s₀ s₁ s₂ : S)
      → s₁ ≡ state_after next s₀ (lines_of x) → s₂ ≡ state_after next s₁ (lines_of y) → s₂ ≡ state_after next s₀ (handed_of f p)
  head_then_mid {S} next text s₀ s₁ s₂ e₁ e₂ =
      e₂ ∙ (ap (λ (z : S). state_after next z (lines_of y)) e₁ ∙ (sym (state_append next text s₀ (lines_of x) (lines_of y)) ∙ ap (state_after next s₀) lines))

module _ {S : Type 0} (next : S → List ℕ → S) (text : S → List ℕ → List ℕ) (k : ℕ) (most : (s : S) (l : List ℕ) → length (text s l) ≤ k) where
  pub runs_start : (l : List ℕ) (s : S) (at : ℕ) (o : List ℕ) → at + k * length (lines_of l) ≤ length o → Runs next text k l s at o 0 s at o
  runs_start l s at o h = record { within = omega arith; room = h; same = refl; state = refl; count = refl; written = refl }

  module _ {l : List ℕ} {s₀ : S} {at : ℕ} {o₀ : List ℕ} {i : ℕ} {s : S} {wrote : ℕ} {o : List ℕ} (r : Runs next text k l s₀ at o₀ i s wrote o) where
    -- a line more
    pub runs_line : (to : ℕ) (t : List ℕ) (n : ℕ) (s' : S) (o' : List ℕ) → length t ≡ n → i < length l → to ≡ i + first_of (drop i l)
        → s' ≡ next s (take (to - i) (drop i l)) → t ≡ text s (take (to - i) (drop i l)) → o' ≡ put_of o wrote t
        → Runs next text k l s₀ at o₀ to s' (wrote + n) o'
    unfolding state_after text_after
    runs_line to t n' s' o' g h e p q w =
        let c = lines_cut l i to h e in
        let f = first_most (drop i l) in
        let d = length-drop i l in
        let m = subst (λ (x : List ℕ). length x ≤ k) (sym q) (most s (take (to - i) (drop i l))) in
        let n = ap length c in
        let rm : wrote + k * suc (length (lines_of (drop to l))) ≤ length o = subst (λ (x : ℕ). wrote + k * x ≤ length o) n r.room in
        let u : k * suc (length (lines_of (drop to l))) ≡ k + k * length (lines_of (drop to l)) = simp unary_clauses (omega arith) in
        let lo : length o' ≡ length o = ap length w ∙ put_length o wrote t in
        let rest = text_after next text s' (lines_of (drop to l)) in
        let x : text_after next text s (lines_of (drop i l)) ≡ t ++ rest =
        ap (text_after next text s) c ∙ ap₂ (λ (y : List ℕ) (z : S). y ++ text_after next text z (lines_of (drop to l))) (sym q) (sym p) in
        let xl = length-append t rest in
        let rl = text_most next text k most s' (lines_of (drop to l)) in
        subst (λ (j : ℕ). Runs next text k l s₀ at o₀ to s' (wrote + j) o') g
        (record {
          within = omega arith;
          room = omega arith;
          same = lo ∙ r.same;
          state = ap (λ (z : S). state_after next z (lines_of (drop to l))) p ∙ (sym (ap (state_after next s) c) ∙ r.state);
          count = assoc wrote (length t) (length rest) ∙ (ap (λ (j : ℕ). wrote + j) (sym xl ∙ ap length (sym x)) ∙ r.count);
          written = ap (λ (y : List ℕ). put_of y (wrote + length t) rest) w ∙ (put_put o wrote t rest (omega arith) ∙ (ap (put_of o wrote) (sym x) ∙ r.written));
        })
      where
        assoc : (a b c : ℕ) → a + b + c ≡ a + (b + c)
        assoc a b c = omega arith

    -- there is room for its answer
    pub runs_room : i < length l → wrote + k ≤ length o
    runs_room h =
        let to = i + first_of (drop i l) in
        let n = ap length (lines_cut l i to h refl) in
        let rm : wrote + k * suc (length (lines_of (drop to l))) ≤ length o = subst (λ (x : ℕ). wrote + k * x ≤ length o) n r.room in
        let u : k * suc (length (lines_of (drop to l))) ≡ k + k * length (lines_of (drop to l)) = simp unary_clauses (omega arith) in
        omega arith

    -- the end
    module _ (h : length l ≤ i) where
      done : lines_of (drop i l) ≡ []
      done = ap lines_of (drop_of_length-le l h) ∙ lines_nil

      pub runs_state : s ≡ state_after next s₀ (lines_of l)
      unfolding state_after
      runs_state = sym (ap (state_after next s) done) ∙ r.state

      pub runs_count : wrote ≡ at + length (text_after next text s₀ (lines_of l))
      unfolding text_after
      runs_count = let e = ap (λ (x : List (List ℕ)). length (text_after next text s x)) done in let c = r.count in omega arith

      pub runs_out : o ≡ put_of o₀ at (text_after next text s₀ (lines_of l))
      unfolding text_after
      runs_out =
          let w : wrote ≤ length o = let g = r.room in omega arith in
          sym (ap (λ (x : List (List ℕ)). put_of o wrote (text_after next text s x)) done ∙ put_none o wrote w) ∙ r.written

  -- ---- a piece of which x is the head and y the whole lines: x is run, then y
  module _ (f : Finder) (p x y : List ℕ) (hx : x ≡ head_of f p) (hy : y ≡ mid_of f p) (s₀ : S) (o₀ : List ℕ) (room : k * length p ≤ length o₀) where
    abbrev first : List ℕ
    first = text_after next text s₀ (lines_of x)

    both : k * length (lines_of x) + k * length (lines_of y) ≤ length o₀
    both =
        let h = ap₂ (λ (a b : List ℕ). length (lines_of a) + length (lines_of b)) hx hy in
        let g = handed_room f p in
        let m : k * (length (lines_of x) + length (lines_of y)) ≤ k * length p = mul-le-mul_left k (omega arith) in
        let e = mul-add k (length (lines_of x)) (length (lines_of y)) in
        omega arith

    pub head_room : 0 + k * length (lines_of x) ≤ length o₀
    head_room = let b = both in omega arith

    pub mid_room : (n₁ : ℕ) → n₁ ≡ 0 + length first → n₁ + k * length (lines_of y) ≤ length o₀
    mid_room n₁ e = let b = both in let m = text_most next text k most s₀ (lines_of x) in omega arith

    module _ (s₁ s₂ : S) (n₁ n₂ : ℕ) (o₁ o₂ : List ℕ) (e₁ : s₁ ≡ state_after next s₀ (lines_of x)) (e₂ : s₂ ≡ state_after next s₁ (lines_of y))
        (c₁ : n₁ ≡ 0 + length first) (c₂ : n₂ ≡ n₁ + length (text_after next text s₁ (lines_of y))) (w₁ : o₁ ≡ put_of o₀ 0 first) (w₂ : o₂ ≡ put_of o₁ n₁ (text_after next text s₁ (lines_of y))) where
      abbrev second : List ℕ
      second = text_after next text s₁ (lines_of y)

      pub piece_state : s₂ ≡ state_after next s₀ (handed_of f p)
      piece_state = head_then_mid f p x y hx hy next text s₀ s₁ s₂ e₁ e₂

      piece_text : first ++ second ≡ text_after next text s₀ (handed_of f p)
      piece_text = ap (λ (z : S). first ++ text_after next text z (lines_of y)) e₁ ∙ (sym (text_append next text s₀ (lines_of x) (lines_of y)) ∙ ap (text_after next text s₀) (lines f p x y hx hy))

      pub piece_count : n₂ ≡ length (text_after next text s₀ (handed_of f p))
      piece_count = let l = length-append first second in let e : n₂ ≡ length (first ++ second) = omega arith in e ∙ ap length piece_text

      pub piece_out : o₂ ≡ put_of o₀ 0 (text_after next text s₀ (handed_of f p))
      piece_out =
          let b = both in
          let m = text_most next text k most s₀ (lines_of x) in
          let n = text_most next text k most s₁ (lines_of y) in
          w₂ ∙ (ap₂ (λ (a : List ℕ) (j : ℕ). put_of a j second) w₁ c₁ ∙ (put_put o₀ 0 first second (omega arith) ∙ ap (put_of o₀ 0) piece_text))

-- ---- what `cut` gives
module _ (f : Finder) (p : List ℕ) (c : Parts) (e : c ≡ cut_of f p) where
  pub cut_n : c.n ≤ kept
  unfolding cut_of
  cut_n = let h = head_le f p in let a = ap (λ (x : Parts). x.n) e in omega arith

  pub cut_head : take c.n c.head ≡ head_of f p
  unfolding cut_of
  cut_head = ap (λ (x : Parts). take x.n x.head) e ∙ head_is f p

  pub cut_from : c.from ≤ c.to
  unfolding cut_of
  cut_from = let h = from_to f p in let a = ap (λ (x : Parts). x.from) e in let b = ap (λ (x : Parts). x.to) e in omega arith

  pub cut_to : c.to ≤ length p
  unfolding cut_of
  cut_to = let h = to_in p in let b = ap (λ (x : Parts). x.to) e in omega arith

  pub cut_mid : take (c.to - c.from) (drop c.from p) ≡ mid_of f p
  unfolding cut_of mid_of
  cut_mid = ap (λ (x : Parts). take (x.to - x.from) (drop x.from p)) e

  pub cut_rest : c.rest ≡ rest_of f p
  unfolding cut_of
  cut_rest = ap (λ (x : Parts). x.rest) e

-- ---- what a caller writes for a piece fits
module _ {S : Type 0} (next : S → List ℕ → S) (text : S → List ℕ → List ℕ) (k : ℕ) (most : (s : S) (l : List ℕ) → length (text s l) ≤ k) where
  pub handed_fits : (f : Finder) (p : List ℕ) (s : S) (n : ℕ) → k * length p ≤ n → length (text_after next text s (handed_of f p)) ≤ n
  unfolding handed_of
  handed_fits f p s n h =
      let a = text_most next text k most s (lines_of (head_of f p) ++ lines_of (mid_of f p)) in
      let b = handed_room f p in
      let c = length-append (lines_of (head_of f p)) (lines_of (mid_of f p)) in
      let m : k * length (lines_of (head_of f p) ++ lines_of (mid_of f p)) ≤ k * length p = mul-le-mul_left k (omega arith) in
      omega arith
