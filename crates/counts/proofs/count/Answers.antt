-- `counts::count` counts an answer where it can. Assumes nothing.
use mathlib.Core.Path.{◌≡◌, sym, ap, ◌∙◌}
use native.Mathlib.Omega.{arith}
use Rattle.counts.specs.declared.Totals.{Totals}
use Rattle.counts.specs.declared.Counted.{Counted}
use Rattle.counts.proofs.Room.{kept, over, more}
use Rattle.counts.proofs.count.Goals as goal
use Rattle.counts.proofs.count.Goals.{Else-c-ne0}

pub returns-then-c-ne0 : goal.returns-then-c-ne0
returns-then-c-ne0 c = sym (kept _ _ c.if-c-ne0.true)

zero_is : (c : Else-c-ne0) → c.args.c.refusal ≡ 0
zero_is c = omega arith

pub returns-then-full : goal.returns-then-full
returns-then-full c = sym (over _ _ (zero_is c.before.before.before) (sym c.full.ensures ∙ c.if-full.true))

pub more-totals-requires : goal.more-totals-requires
more-totals-requires c = sym c.full.ensures ∙ c.if-full.false

abbrev counted : Totals → Counted
counted t = record { refusal = 0; totals = t }

pub returns : goal.returns
returns c =
    let e = c.before in
    ap counted c.more-totals.ensures ∙ sym (more _ _ (zero_is e.before.before.before) (sym e.full.ensures ∙ e.if-full.false))
