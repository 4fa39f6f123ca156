-- `state::weight` sums the true magnitudes: after some turns, so many of them. Assumes nothing.
use Rattle.std.proofs.Common.{rules, arith, add-one}
use mathlib.Core.Path.{◌≡◌, refl, ap, subst, ◌∙◌}
use Prim.Native.Nat.{ℕ, suc, ◌≤◌}
use lib.IntN.{nat_abs, pos}
use lib.ListN.{take, drop}
use lib.Seq.{get_or-take, get_or-drop}
use mir.Syntax.{w16}
use mir.Facts.{to_z-of_z}
use Rattle.numbers.specs.Sum.{at, total}
use Rattle.numbers.proofs.Magnitude.{fits_abs}
use Rattle.rows.proofs.Made.{fits_at}
use Rattle.state.specs.Valid.{weight_of}
use Rattle.state.proofs.weight.Goals as goal
use Rattle.state.proofs.weight.Goals.{After-magnitude-sum}

pub loop-x-init : goal.loop-x-init
unfolding total
loop-x-init c = (omega arith, refl)

-- the magnitude that is added
module _ (c : After-magnitude-sum) where
  is : c.magnitude-sum.result ≡ nat_abs (at c.args.rvad (suc c.loop-x.x-index))
  is =
      let rvad = c.args.rvad in
      let n = c.loop-x.x-index in
      let e : at (take 8 (drop 1 rvad)) n ≡ at rvad (suc n) =
      get_or-take 8 (drop 1 rvad) n (pos 0) (search (rules, arith)) ∙ get_or-drop 1 rvad n (pos 0) ∙ ap (at rvad) (omega arith) in
      search (rules, to_z-of_z)

  small : c.magnitude-sum.result ≤ 32768
  small =
      let n = suc c.loop-x.x-index in
      let f = fits_at w16 c.args.rvad _ c.well_formed.0.1.1 n (pos 0) (search (rules, arith)) in
      omega (arith, is, fits_abs w16 (at c.args.rvad n) f)

pub overflow_add-sum : goal.overflow_add-sum
overflow_add-sum c = search (arith, small c)

pub loop-x-preserved : goal.loop-x-preserved
unfolding total
loop-x-preserved c = (omega (arith, small c), rw add-one (omega (arith, c.loop-x.invariant.1, is c)))

pub returns : goal.returns
unfolding weight_of
returns c =
    let e : c.loop-x.x-index ≡ 8 = search rules in
    subst (λ (n : ℕ). c.loop-x.sum ≡ total n (λ i. nat_abs (at c.args.rvad (suc i)))) e c.loop-x.invariant.1
