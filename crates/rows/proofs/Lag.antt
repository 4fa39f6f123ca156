-- A row and itself at a lag: the row against its back. Assumes nothing.
use mathlib.Core.Path.{◌≡◌, refl, ap, ap₂, ◌∙◌}
use mathlib.Core.List.{List}
use Prim.Native.Nat.{ℕ, ◌+◌, ◌-◌, ◌<◌, min}
use native.Mathlib.Nat.{add_comm}
use native.Mathlib.Omega.{arith}
use lib.IntN.{ℤ, pos}
use lib.ListN.{length, take, drop, length-take, length-drop}
use lib.Seq.{get_or-take, get_or-drop}
use Rattle.numbers.specs.Sum.{at}
use Rattle.operations.specs.Operations.{l_mult}
use Rattle.rows.specs.Rows.{l_products, l_lagged}
use Rattle.rows.proofs.Sum.{l_sum_ext}

module _ (l : List ℤ) (i : ℕ) (nine : length l ≡ 9) (h : i < 9) where
  abbrev rear : List ℤ
  rear = take (9 - i) (drop i l)

  rear_at : (k : ℕ) → k < 9 - i → at rear k ≡ at l (k + i)
  rear_at k u = get_or-take (9 - i) (drop i l) k (pos 0) u ∙ get_or-drop i l k (pos 0) ∙ ap (at l) (add_comm i k)

  pub rear_length : length rear ≡ 9 - i
  rear_length = simp (length-take, length-drop) (omega arith)

  count : min (length l) (length rear) ≡ 9 - i
  count = omega (arith, rear_length)

  pub products_lagged : l_products l rear ≡ l_lagged l i
  unfolding l_products l_lagged
  products_lagged = rw (count, nine) (l_sum_ext (9 - i) _ _ (λ k u. ap₂ l_mult refl (rear_at k u)))
