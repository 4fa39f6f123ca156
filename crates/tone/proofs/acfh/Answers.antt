-- `tone::acfh` gives one autocorrelation: after j turns the sum is the exact one of j products, and at the end it is doubled. Assumes nothing.
use Rattle.std.proofs.Common.{rules}
use mathlib.Core.Path.{◌≡◌, refl, sym, ap, ap₂, subst, ◌∙◌}
use mathlib.Core.List.{List}
use Prim.Native.Nat.{ℕ, ◌+◌, ◌-◌}
use native.Mathlib.Numerals.{add-one}
use native.Mathlib.Omega.{arith}
use lib.IntN.{ℤ, pos, ◌+ℤ◌, ◌*ℤ◌}
use mir.Syntax.{w32}
use mir.Val.{SFits, to_z, of_z}
use mir.Facts.{to_z-of_z}
use Rattle.numbers.specs.Sum.{sum}
use Rattle.tone.proofs.Exact.{term, sum_fits, double_fits, acfh_exact}
use Rattle.tone.proofs.acfh.Goals as goal
use Rattle.tone.proofs.acfh.Goals.{After-loop-j, After-product-s, At-loop-j, Start}

-- the turn j
module _ (c : After-product-s) where
  abbrev head : At-loop-j
  head = c.before.before.before.before

  abbrev l : List ℤ
  l = head.args.sofh.now

  abbrev k : ℕ
  k = head.args.k

  abbrev j : ℕ
  j = head.loop-j.j

  product_is : to_z w32 (of_z w32 c.product-s.result) ≡ term l k j
  product_is = search (rules, to_z-of_z)

  one_more : to_z w32 head.loop-j.s-bits +ℤ to_z w32 (of_z w32 c.product-s.result) ≡ sum (j + 1) (term l k)
  unfolding sum
  one_more = rw (add-one j) (ap₂ ◌+ℤ◌ head.loop-j.invariant.1 product_is)

  fits : SFits w32 (to_z w32 head.loop-j.s-bits +ℤ to_z w32 (of_z w32 c.product-s.result))
  fits = subst (SFits w32) (sym one_more) (sum_fits l head.requires.1 k (j + 1) (omega arith))

pub loop-j-init : goal.loop-j-init
unfolding sum
loop-j-init c = (omega arith, refl)

pub overflow_add-s : goal.overflow_add-s
overflow_add-s c = fits c

pub loop-j-preserved : goal.loop-j-preserved
loop-j-preserved c = (omega arith, to_z-of_z (fits c) ∙ one_more c)

-- the whole sum, doubled
module _ (c : After-loop-j) where
  abbrev at-start : Start
  at-start = c.before.before

  abbrev sofh : List ℤ
  sofh = at-start.args.sofh.now

  abbrev lag : ℕ
  lag = at-start.args.k

  whole : to_z w32 c.loop-j.s-bits ≡ sum (160 - lag) (term sofh lag)
  whole = let e : c.loop-j.j ≡ 160 - lag = omega arith in subst (λ (n : ℕ). to_z w32 c.loop-j.s-bits ≡ sum n (term sofh lag)) e c.loop-j.invariant.1

  twice : SFits w32 (to_z w32 c.loop-j.s-bits *ℤ pos 2)
  twice = subst (λ (z : ℤ). SFits w32 (z *ℤ pos 2)) (sym whole) (double_fits sofh at-start.requires.1 lag (160 - lag) (omega arith))

pub overflow_mul-result : goal.overflow_mul-result
overflow_mul-result c = twice c

pub returns : goal.returns
returns c = to_z-of_z (twice c) ∙ ap (λ (z : ℤ). z *ℤ pos 2) (whole c) ∙ sym (acfh_exact (sofh c) (at-start c).requires.1 (lag c))
