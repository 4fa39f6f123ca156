-- `predictor::whitened` gives the autocorrelation of the predictor, normalised. Assumes nothing.
use Rattle.std.proofs.Common.{rules, of_calls}
use mathlib.Core.Path.{◌≡◌, refl, ap, ap₂, ◌∙◌}
use mathlib.Core.List.{List}
use Prim.Native.Nat.{ℕ, ◌<◌}
use native.Mathlib.Omega.{arith}
use lib.IntN.{ℤ, pos}
use lib.ListN.{length}
use mir.Syntax.{w16, w32}
use mir.Val.{to_z, of_z}
use mir.Facts.{to_z-of_z}
use Rattle.numbers.specs.Sum.{at}
use Rattle.operations.specs.Operations.{norm}
use Rattle.rows.specs.Rows.{row, l_lagged}
use Rattle.rows.proofs.Fill.{row_at}
use Rattle.rows.proofs.Made.{mapped_fits}
use Rattle.predictor.specs.Filter.{l_work_of, whitened_of}
use Rattle.predictor.proofs.whitened.Goals as goal

-- the sums are the clause's
work_is : (aav1 work : List ℤ) → length aav1 ≡ 9 → work ≡ row 9 (l_lagged aav1) → (i : ℕ) → i < 9 → at work i ≡ l_work_of aav1 i
unfolding l_lagged l_work_of
work_is aav1 work n e i h = ap (λ (l : List ℤ). at l i) e ∙ row_at 9 _ i (pos 0) h ∙ rw n refl

pub returns : goal.returns
unfolding whitened_of
returns c =
    let w = work_is c.args.aav1 c.lagged-work.result (search rules) c.lagged-work.ensures in
    let first = w 0 (omega arith) in
    let n : to_z w16 (of_z w16 c.norm-normrav1.result) ≡ norm (l_work_of c.args.aav1 0) = search (rules, to_z-of_z) in
    ap₂ (λ (r : List ℤ) (z : ℤ). record { rav1 = r; normrav1 = z })
    (mapped_fits w32 _ _ _ _ _ 9 (pos 0) _ c.lagged-work.type_inv.1.1 (search rules)
    (λ i u r y q k. let e = w i u in (search (rules, of_calls, to_z-of_z), search (rules, of_calls))) c.map-rav1.ensures.items) n
