-- A text that is put into a longer one, piece after piece. Assumes nothing.
use Rattle.std.proofs.Common.{◌≡◌, ℕ, ◌+◌, ◌-◌, ◌*◌, take_all, ◌<◌, ◌≤◌, List, [], ◌∷◌, ◌++◌, length, get_or, take, drop, set, sym, refl, ap, ◌∙◌, ap₂, append_assoc, append-nil, add-one, arith, length-append, length-drop, drop_of_length-le, length-take-le, take-suc, take_at, drop_at}
use borrow.Rule.Slice.PartMut.{put_mid}
use lib.Seq.{set_split}
use Rattle.std.proofs.lemmas.Slice.{put_mid-paste}
use Rattle.lines.specs.Hex.{digits_of, blocks_of}
use Rattle.lines.proofs.Digits.{length_digits}

module _ {ℓ} {A : Type ℓ} (l l' d : List A) (at k : ℕ) (e : l' ≡ take at l ++ d ++ drop (at + k) l) (n : length d ≡ k) (h : at + k ≤ length l) where
  head : length (take at l ++ d) ≡ at + k
  head = length-append (take at l) d ∙ ap₂ (λ (a b : ℕ). a + b) (length-take-le at l (omega arith)) n

  pub put_take : take (at + k) l' ≡ take at l ++ d
  put_take = ap (take (at + k)) e ∙ take_at (take at l ++ d) (drop (at + k) l) (at + k) head

  pub put_drop : drop (at + k) l' ≡ drop (at + k) l
  put_drop = ap (drop (at + k)) e ∙ drop_at (take at l ++ d) (drop (at + k) l) (at + k) head

  pub put_length : length l' ≡ length l
  put_length = ap length e ∙ (length-append (take at l ++ d) (drop (at + k) l) ∙ (let g = head in let r = length-drop (at + k) l in omega arith))

-- a part that is written over
pub pasted : (l ys d : List ℕ) (p k : ℕ) → ys ≡ d → length d ≡ k → put_mid p (p + k - p) l ys ≡ take p l ++ d ++ drop (p + k) l
pasted l ys d p k e n = put_mid-paste p (p + k - p) l ys d k e (omega arith) (sym n) ∙ ap (λ (t : List ℕ). take p l ++ t ++ drop (p + k) l) (take_all k d (omega arith))

pub blocks_append : (k : ℕ) (l m : List ℕ) → blocks_of k (l ++ m) ≡ blocks_of k l ++ blocks_of k m
unfolding blocks_of
blocks_append k [] m = refl
blocks_append k (x ∷ l) m = ap (λ (t : List ℕ). digits_of k x ++ t) (blocks_append k l m) ∙ sym (append_assoc (digits_of k x) (blocks_of k l) (blocks_of k m))

pub blocks_next : (k : ℕ) (l : List ℕ) (i : ℕ) → i < length l → blocks_of k (take (i + 1) l) ≡ blocks_of k (take i l) ++ digits_of k (get_or l i 0)
unfolding blocks_of
blocks_next k l i h =
    ap (λ (j : ℕ). blocks_of k (take j l)) (add-one i)
    ∙ (ap (blocks_of k) (take-suc l i 0 h)
    ∙ (blocks_append k (take i l) (get_or l i 0 ∷ []) ∙ ap (λ (t : List ℕ). blocks_of k (take i l) ++ t) (append-nil (digits_of k (get_or l i 0)))))

pub length_blocks : (k : ℕ) (l : List ℕ) → length (blocks_of k l) ≡ k * length l
unfolding blocks_of
length_blocks k [] = omega arith
length_blocks k (x ∷ l) = length-append (digits_of k x) (blocks_of k l) ∙ omega (arith, length_digits k x, length_blocks k l)

-- four writes into a text of 82: the whole is what was written
module _ (o₀ o₁ o₂ o₃ w d g : List ℕ) (n : length o₀ ≡ 82) (lw : length w ≡ 72) (ld : length d ≡ 1) (lg : length g ≡ 8)
    (e₁ : o₁ ≡ w ++ drop 72 o₀) (e₂ : o₂ ≡ take 72 o₁ ++ d ++ drop (72 + 1) o₁) (e₃ : o₃ ≡ take 73 o₂ ++ g ++ drop (73 + 8) o₂) where
  n₁ : length o₁ ≡ 82
  n₁ = ap length e₁ ∙ (length-append w (drop 72 o₀) ∙ omega (arith, length-drop 72 o₀))

  n₂ : length o₂ ≡ 82
  n₂ = let q = n₁ in put_length o₁ o₂ d 72 1 e₂ ld (omega arith) ∙ q

  pub whole_length : length o₃ ≡ 82
  whole_length = let q = n₂ in put_length o₂ o₃ g 73 8 e₃ lg (omega arith) ∙ q

  pub whole : set o₃ 81 10 ≡ w ++ d ++ g ++ (10 ∷ [])
  whole =
      let q₁ = n₁ in let q₂ = n₂ in let q₃ = whole_length in
      let t₁ = ap (take 72) e₁ ∙ take_at w (drop 72 o₀) 72 lw in
      let t₂ = put_take o₁ o₂ d 72 1 e₂ ld (omega arith) ∙ ap (λ (x : List ℕ). x ++ d) t₁ in
      let t₃ = put_take o₂ o₃ g 73 8 e₃ lg (omega arith) ∙ ap (λ (x : List ℕ). x ++ g) t₂ in
      set_split o₃ 81 10 (omega arith) ∙ ap₂ (λ (x y : List ℕ). x ++ 10 ∷ y) t₃ (drop_of_length-le o₃ {i = 82} (omega arith))
