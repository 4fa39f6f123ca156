-- The running sum of products over the entries 1 to 8 of two rows of nine. Assumes nothing.
use mathlib.Core.Path.{◌≡◌, ap, ap₂, ◌∙◌}
use mathlib.Core.List.{List}
use Prim.Native.Nat.{ℕ, suc, ◌<◌, min}
use native.Mathlib.Omega.{arith}
use lib.IntN.{ℤ, pos}
use lib.ListN.{length, take, drop, length-take, length-drop}
use lib.Seq.{get_or-take, get_or-drop}
use Rattle.numbers.specs.Sum.{at}
use Rattle.operations.specs.Operations.{l_mult}
use Rattle.rows.specs.Rows.{l_sum, l_products}
use Rattle.rows.proofs.Sum.{l_sum_ext}

abbrev pub tail : List ℤ → List ℤ
tail l = take 8 (drop 1 l)

tail_length : (l : List ℤ) → length l ≡ 9 → length (tail l) ≡ 8
tail_length l h = simp (length-take, length-drop) (omega arith)

tail_at : (l : List ℤ) (k : ℕ) → k < 8 → at (tail l) k ≡ at l (suc k)
tail_at l k h = get_or-take 8 (drop 1 l) k (pos 0) h ∙ get_or-drop 1 l k (pos 0) ∙ ap (at l) (omega arith)

pub tail_products : (a b : List ℤ) → length a ≡ 9 → length b ≡ 9 → l_products (tail a) (tail b) ≡ l_sum 8 (λ k. l_mult (at a (suc k)) (at b (suc k)))
unfolding l_products
tail_products a b h k =
    let n : min (length (tail a)) (length (tail b)) ≡ 8 = omega (arith, tail_length a h, tail_length b k) in
    ap (λ (m : ℕ). l_sum m (λ i. l_mult (at (tail a) i) (at (tail b) i))) n
    ∙ l_sum_ext 8 (λ i. l_mult (at (tail a) i) (at (tail b) i)) (λ i. l_mult (at a (suc i)) (at b (suc i))) (λ i l. ap₂ l_mult (tail_at a i l) (tail_at b i l))
