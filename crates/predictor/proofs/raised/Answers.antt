-- `predictor::raised` gives the coefficients of an order from those of the order before: after the turns up to i, the entries below i. The others
-- are still as they were. Assumes nothing.
use Rattle.std.proofs.Common.{rules, arith}
use mathlib.Core.Path.{◌≡◌, refl, sym, ap, subst, ◌∙◌}
use mathlib.Core.List.{List}
use Prim.Native.Nat.{ℕ, ◌+◌, ◌-◌, ◌<◌}
use lib.IntN.{ℤ, pos}
use lib.ListN.{length}
use mir.Syntax.{w16, w32}
use mir.Val.{SFits, to_z, of_z}
use mir.Facts.{to_z-of_z}
use Rattle.numbers.specs.Sum.{at}
use Rattle.operations.specs.Operations.{l_add, l_mult, ◌>>◌}
use Rattle.predictor.proofs.StepUp.{held, made_more, order_start, order_end}
use Rattle.predictor.proofs.raised.Goals as goal

pub loop-i-init : goal.loop-i-init
loop-i-init c =
    let a = c.args in
    let e = c.requires.3 in
    let n : length a.coef ≡ 17 = search rules in (
      omega arith,
      omega (arith, c.requires.0, c.requires.1),
      n,
      λ k l. subst (λ (t : List ℤ). at t k ≡ at (held a.vpar a.m) k) (sym e) (order_start a.vpar a.m k c.requires.0 (omega arith)),
      λ k l. refl,
    )

pub loop-i-preserved : goal.loop-i-preserved
loop-i-preserved c =
    let a = c.args in
    let t = c.loop-i in
    let v = at a.vpar a.m in
    let f : SFits w16 v = search rules in
    let e : to_z w32 (of_z w32 c.lifted.result) ≡ l_add (at a.coef (8 + t.i)) (l_mult v (at a.coef (8 + a.m - t.i) >> pos 16)) = search (rules, to_z-of_z) in
    made_more a.vpar a.coef a.m a.n t.out t.i (to_z w32 (of_z w32 c.lifted.result)) c.requires.0 c.requires.1 c.requires.2 c.requires.3
    c.loop-i-test.true f e t.invariant

pub returns : goal.returns
returns c =
    let t = c.loop-i in
    let a = c.args in
    let n : t.i ≡ a.n = omega arith in
    order_end a.vpar a.m a.n t.out c.requires.0 c.requires.1 t.invariant.2
    (subst (λ (i : ℕ). (k : ℕ) → k < 8 + i → at t.out k ≡ at (held a.vpar a.m) k) n t.invariant.3)
    (λ k l. t.invariant.4 k (omega arith) ∙ ap (λ (l : List ℤ). at l k) c.requires.3)
