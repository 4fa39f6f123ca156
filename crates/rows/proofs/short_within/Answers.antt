-- `rows::short_within` tests both ends of a range. Assumes nothing.
use mathlib.Core.Path.{◌∙◌}
use Rattle.numbers.proofs.Read.{zreads}
use Rattle.rows.proofs.Choice.{contained}
use Rattle.rows.proofs.short_within.Goals as goal

pub returns : goal.returns
returns c =
    let f = c.ranges.lo in
    let g = c.ranges.hi in
    let h = c.ranges.z in
    let e = rw (c.new.ensures.start, c.new.ensures.end, c.new.ensures.exhausted) at c.contains.ensures.value in
    (simp zreads at e) ∙ contained c.args.lo c.args.hi c.args.z
