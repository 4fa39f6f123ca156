-- `predictor::recursion` gives the reflection coefficients. The invariants: what is left of each loop, from the arrays as they are, is what it was
-- at its start. Assumes nothing.
use borrow.Author.Rules.{rules}
use mathlib.Core.Path.{◌≡◌, refl, sym, ◌∙◌}
use mathlib.Core.List.{List}
use Prim.Native.Nat.{ℕ, ◌+◌}
use lib.IntN.{ℤ, pos}
use lib.ListN.{replicate}
use mir.Syntax.{w16}
use mir.Val.{to_z, of_z}
use Rattle.numbers.specs.Sum.{at}
use mir.Facts.{to_z-of_z}
use Rattle.rows.specs.Rows.{row}
use Rattle.predictor.specs.Schur.{leaves_of, coefficient_of, turned_of, outer_from, schur_of}
use Rattle.predictor.proofs.Turns.{arrays, inner_first, inner_kept, outer_first, outer_over, outer_stop, outer_full, outer_kept}
use Rattle.predictor.proofs.recursion.Goals as goal
use Rattle.predictor.proofs.recursion.Goals.{After-coefficient-c, After-leaves, After-turned, After-turned-in-loop-m, After-turned-in-loop-m-2, At-loop-m, At-outer, In-loop-m, In-outer}

-- where the loop begins is where the definition does
start_is : (N : ℕ) (sacf : List ℤ) → outer_from N N 1 (arrays N sacf sacf) (replicate 9 (pos 0)) ≡ schur_of N sacf
unfolding schur_of row
start_is N sacf = refl

-- a turn of the outer loop, from its head
abbrev Turn : Type 0
Turn = At-outer

abbrev p0 : Turn → ℤ
p0 o = at o.outer.p 0

abbrev p1 : Turn → ℤ
p1 o = at o.outer.p 1

-- what the calls of a turn give, in the recursion's words
leaves_is : (c : After-leaves) → c.leaves.result ≡ leaves_of (p0 c.before.before.before.before) (p1 c.before.before.before.before)
leaves_is c = search (rules, to_z-of_z)

coefficient_is : (c : After-coefficient-c)
    → to_z w16 (of_z w16 c.coefficient-c.result) ≡ coefficient_of (p0 c.before.before.before.before.before.before) (p1 c.before.before.before.before.before.before)
coefficient_is c = search (rules, to_z-of_z)

-- the first entry of P
module _ (c : After-turned) where
  abbrev head : Turn
  head = c.before.before.before.before.before.before.before.before

  abbrev v : ℤ
  v = to_z w16 (of_z w16 c.coefficient-c.result)

  turned_is : to_z w16 (of_z w16 c.turned.result) ≡ turned_of (p0 head) (p1 head) v
  turned_is = search (rules, to_z-of_z)

-- the two updates of a turn of the inner loop
module _ (c : After-turned-in-loop-m) where
  abbrev inner : At-loop-m
  inner = c.before.before.before.before

  abbrev x : ℤ
  x = at inner.loop-m.p (inner.loop-m.m + 1)

  abbrev y : ℤ
  y = at inner.loop-m.k inner.loop-m.m

  turned2_is : to_z w16 (of_z w16 c.turned-in-loop-m.result) ≡ turned_of x y (v inner.before)
  turned2_is = search (rules, to_z-of_z)

module _ (c : After-turned-in-loop-m-2) where
  turned3_is : to_z w16 (of_z w16 c.turned-in-loop-m-2.result) ≡ turned_of (y c.before) (x c.before) (v (inner c.before).before)
  turned3_is = search (rules, to_z-of_z)

pub outer-init : goal.outer-init
outer-init c = outer_first c.args.order _ _ _ (search rules) (search rules) (search rules)

pub loop-m-init : goal.loop-m-init
loop-m-init c =
    let o = head c in
    inner_first o.args.order o.outer.n (v c) o.outer.p o.outer.k (to_z w16 (of_z w16 c.turned.result))
    c.outer-test.true o.outer.invariant.2 o.outer.invariant.3

pub loop-m-preserved : goal.loop-m-preserved
loop-m-preserved c =
    let t = inner c.before in
    let o = head t.before in
    inner_kept o.args.order o.outer.n (v t.before) t.loop-m.m t.loop-m.p t.loop-m.k (to_z w16 (of_z w16 c.turned-in-loop-m.result)) (to_z w16 (of_z w16 c.turned-in-loop-m-2.result)) _ o.requires o.outer.invariant.0
    c.loop-m-test.true t.loop-m.invariant (turned2_is c.before) (turned3_is c)

pub outer-preserved : goal.outer-preserved
outer-preserved c =
    let t = c.before in
    let o = head t.before in
    let w = t.before.before.before in
    outer_kept o.args.order o.outer.n o.outer.p o.outer.k o.outer.v _ o.outer.invariant (v t.before)
    (sym (leaves_is w.before.before) ∙ w.if-leaves.false) (coefficient_is w) _ t.loop-m.p t.loop-m.k t.loop-m.m
    w.outer-test.true (turned_is t.before) c.loop-m-test.false t.loop-m.invariant

pub returns-after-outer : goal.returns-after-outer
returns-after-outer c =
    let o = c in
    let N = o.args.order in
    outer_over N o.outer.n o.outer.p o.outer.k o.outer.v _ o.outer.invariant c.outer-test.false ∙ start_is N o.args.sacf

pub returns-then-leaves : goal.returns-then-leaves
returns-then-leaves c =
    let h = c.before.before.before.before in
    let o = h in
    let N = o.args.order in
    outer_stop N o.outer.n o.outer.p o.outer.k o.outer.v _ o.outer.invariant h.outer-test.true (sym (leaves_is c.before) ∙ c.if-leaves.true)
    ∙ start_is N o.args.sacf

pub returns-then-n-order : goal.returns-then-n-order
returns-then-n-order c =
    let w = c.before in
    let o = w in
    let N = o.args.order in
    outer_full N o.outer.n o.outer.p o.outer.k o.outer.v _ o.outer.invariant _ (sym (leaves_is w.before.before) ∙ w.if-leaves.false) (coefficient_is w) c.if-n-order.true
    ∙ start_is N o.args.sacf
