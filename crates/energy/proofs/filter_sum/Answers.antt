-- `energy::filter_sum` gives the filter sum: the products from the second on, then half of the first. Assumes nothing.
use Rattle.std.proofs.Common.{rules}
use mathlib.Core.Path.{◌≡◌, ap, ap₂, ◌∙◌}
use mathlib.Core.List.{List}
use Prim.Native.Nat.{ℕ, suc, ◌<◌}
use native.Mathlib.Omega.{arith}
use lib.IntN.{ℤ, pos}
use lib.ListN.{length}
use mir.Facts.{to_z-of_z}
use Rattle.numbers.specs.Sum.{at}
use Rattle.operations.specs.Operations.{l_add, l_mult, ◌>>◌}
use Rattle.operations.proofs.Laws.{l_mult_comm}
use Rattle.rows.specs.Rows.{row, l_products}
use Rattle.rows.proofs.Fill.{row_at, length_row}
use Rattle.rows.proofs.Sum.{l_sum_ext}
use Rattle.energy.specs.Energy.{sacf_of, filter_sum_of}
use Rattle.rows.proofs.Tail.{tail, tail_products}
use Rattle.energy.proofs.filter_sum.Goals as goal

-- ---- over plain rows
module _ (acf s rvad : List ℤ) (e : s ≡ row 9 (sacf_of acf)) (nine : length rvad ≡ 9) where
  s_at : (k : ℕ) → k < 9 → at s k ≡ sacf_of acf k
  s_at k h = ap (λ (l : List ℤ). at l k) e ∙ row_at 9 (sacf_of acf) k (pos 0) h

  others : (k : ℕ) → k < 8 → l_mult (at rvad (suc k)) (at s (suc k)) ≡ l_mult (sacf_of acf (suc k)) (at rvad (suc k))
  others k h = l_mult_comm (at rvad (suc k)) (at s (suc k)) ∙ ap (λ (z : ℤ). l_mult z (at rvad (suc k))) (s_at (suc k) (omega arith))

  sum_is : l_add (l_products (tail rvad) (tail s)) (l_mult (at s 0) (at rvad 0) >> pos 1) ≡ filter_sum_of acf rvad
  unfolding filter_sum_of
  sum_is =
      ap₂ l_add
      (tail_products rvad s nine (ap length e ∙ length_row 9 (sacf_of acf)) ∙ l_sum_ext 8 (λ k. l_mult (at rvad (suc k)) (at s (suc k))) (λ k. l_mult (sacf_of acf (suc k)) (at rvad (suc k))) others)
      (ap (λ (z : ℤ). l_mult z (at rvad 0) >> pos 1) (s_at 0 (omega arith)))

pub returns : goal.returns
returns c = let e = sum_is c.args.acf _ c.args.rvad c.sacf-s.ensures (search rules) in search (rules, to_z-of_z)
