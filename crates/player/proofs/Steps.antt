-- A line that takes its samples where the line before left them: what a turn of the loop in `run` keeps. Assumes nothing.
use mathlib.Core.Path.{◌≡◌, refl, sym, ap, ap₂, subst, ◌∙◌}
use mathlib.Core.List.{List}
use Prim.Native.Nat.{ℕ, ◌+◌, ◌-◌, ◌<◌, ◌≤◌}
use native.Mathlib.Omega.{arith}
use lib.ListN.{length, take, drop, length-drop}
use Rattle.pieces.specs.Lines.{first_of}
use Rattle.pieces.specs.Put.{put_of}
use Rattle.pieces.proofs.Runs.{Runs, runs_line}
use Rattle.samples.specs.Beside.{Beside, block_of, next_beside, text_beside, end_of, taken_of}
use Rattle.samples.proofs.Beside.{end_from, end_in, block_is, left_is}
use Rattle.player.specs.Played.{beside_of}

-- ---- the bytes of its samples
module _ (q : List ℕ) (used end : ℕ) (w : used ≤ length q) (e : end ≡ end_of used (length q)) where
  pub frame_from : used ≤ end
  frame_from = let a = end_from q used w in omega arith

  pub frame_in : end ≤ length q
  frame_in = let a = end_in q used w in omega arith

  frame_is : take (end - used) (drop used q) ≡ block_of (drop used q)
  frame_is = ap (λ (n : ℕ). take (n - used) (drop used q)) e ∙ block_is q used w

-- so many bytes are taken
pub taken_is : (q : List ℕ) (used : ℕ) → used ≤ length q → used ≡ taken_of q (drop used q)
unfolding taken_of
taken_is q used h = let d = length-drop used q in omega arith

-- ---- a turn
module _ {H : Type 0} (next : H → List ℕ → List ℕ → H) (text : H → List ℕ → List ℕ → List ℕ) (k : ℕ) (most : (h : H) (b l : List ℕ) → length (text h b l) ≤ k) where
  pub beside_most : (b : Beside H) (l : List ℕ) → length (text_beside text b l) ≤ k
  unfolding text_beside
  beside_most b l = most b.state (block_of b.left) l

  pub turn : {l : List ℕ} {s₀ : Beside H} {at : ℕ} {o₀ : List ℕ} {i : ℕ} {wrote : ℕ} {o : List ℕ} (h : H) (q : List ℕ) (used end : ℕ) (w : used ≤ length q) (e : end ≡ end_of used (length q))
      → Runs (next_beside next) (text_beside text) k l s₀ at o₀ i (beside_of h (drop used q)) wrote o
      → (to : ℕ) (h' : H) (wrote' : ℕ) (o' : List ℕ) → i < length l → to ≡ i + first_of (drop i l)
      → h' ≡ next h (take (end - used) (drop used q)) (take (to - i) (drop i l))
      → wrote' ≡ wrote + length (text h (take (end - used) (drop used q)) (take (to - i) (drop i l)))
      → o' ≡ put_of o wrote (text h (take (end - used) (drop used q)) (take (to - i) (drop i l)))
      → Runs (next_beside next) (text_beside text) k l s₀ at o₀ to (beside_of h' (drop end q)) wrote' o'
  unfolding next_beside text_beside
  turn {l} {s₀} {at} {o₀} {i} {wrote} {o} h q used end w e r to h' wrote' o' lt t p n out =
      let line = take (to - i) (drop i l) in
      let f = frame_is q used end w e in
      let g : text h (take (end - used) (drop used q)) line ≡ text h (block_of (drop used q)) line = ap (λ (b : List ℕ). text h b line) f in
      let s : beside_of h' (drop end q) ≡ next_beside next (beside_of h (drop used q)) line =
      ap₂ beside_of (p ∙ ap (λ (b : List ℕ). next h b line) f) (ap (λ (m : ℕ). drop m q) e ∙ left_is q used w) in
      subst (λ (m : ℕ). Runs (next_beside next) (text_beside text) k l s₀ at o₀ to (beside_of h' (drop end q)) m o') (sym n)
      (runs_line (next_beside next) (text_beside text) k beside_most r to _ _ (beside_of h' (drop end q)) o' refl lt t s g out)
