-- `rows::lag_sum` gives the running sum, of a small row by twice the exact sum. Assumes nothing.
use borrow.Author.Rules.{rules}
use mathlib.Core.Path.{◌≡◌, sym, ap, ◌∙◌}
use mathlib.Core.Bool.{true}
use mathlib.Core.List.{List}
use Prim.Native.Nat.{ℕ, ◌-◌, ◌<◌, ◌≤◌}
use native.Mathlib.Omega.{arith}
use lib.IntN.{ℤ, pos, ◌*ℤ◌}
use lib.ListN.{length, take, drop}
use mir.Syntax.{w32}
use mir.Val.{SFits, to_z, of_z}
use mir.Facts.{to_z-of_z}
use Rattle.numbers.proofs.Read.{back}
use Rattle.rows.specs.Rows.{all, thirteen, product_sum, l_lagged}
use Rattle.rows.proofs.All.{all_part}
use Rattle.rows.proofs.Lag.{rear_length, products_lagged}
use Rattle.rows.proofs.Plain.{narrow_both}
use Rattle.rows.proofs.Sum.{l_products_fits}
use Rattle.rows.proofs.lag_sum.Goals as goal
use Rattle.rows.proofs.lag_sum.Goals.{After-exact}

-- ---- of a small row
module _ (a : List ℤ) (i : ℕ) (nine : length a ≡ 9) (h : i < 9) (small : all thirteen a ≡ true) where
  rear : (length (take (9 - i) (drop i a)) ≤ 9) × (all thirteen (take (9 - i) (drop i a)) ≡ true)
  rear = (omega (arith, rear_length a i nine h), all_part thirteen a i (9 - i) (pos 0) small)

  double : {s : ℤ} → s ≡ product_sum a (take (9 - i) (drop i a)) → s *ℤ pos 2 ≡ l_lagged a i
  double e = ap (λ (z : ℤ). z *ℤ pos 2) e ∙ sym (narrow_both a (take (9 - i) (drop i a)) rear.0 small rear.1) ∙ products_lagged a i nine h

-- ---- the goals
module _ (c : After-exact) where
  double_is : to_z w32 (of_z w32 c.exact.result) *ℤ pos 2 ≡ l_lagged c.args.a c.args.i
  double_is = double c.args.a c.args.i (search rules) c.requires.0 (c.requires.1 c.if-small.true) (back w32 c.exact.type_inv ∙ c.exact.ensures.value)

  double_fits : SFits w32 (to_z w32 (of_z w32 c.exact.result) *ℤ pos 2)
  double_fits = rw (double_is, sym (products_lagged c.args.a c.args.i (search rules) c.requires.0)) (l_products_fits c.args.a (take (9 - c.args.i) (drop c.args.i c.args.a)))

pub exact-requires : goal.exact-requires
exact-requires c = rear c.args.a c.args.i (search rules) c.requires.0 (c.requires.1 c.if-small.true)

pub overflow_mul-result : goal.overflow_mul-result
overflow_mul-result c = double_fits c

pub returns-then-small : goal.returns-then-small
returns-then-small c = to_z-of_z (double_fits c) ∙ double_is c

pub returns-else-small : goal.returns-else-small
returns-else-small c = back w32 c.clipped.type_inv ∙ c.clipped.ensures ∙ products_lagged c.args.a c.args.i (search rules) c.requires.0
