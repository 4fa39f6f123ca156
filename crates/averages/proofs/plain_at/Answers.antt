-- `averages::plain_at` adds four quarters. No sum leaves 32 bits, and so each is the clipped one. Assumes nothing.
use Rattle.std.proofs.Common.{arith, rules}
use Rattle.std.proofs.lemmas.Int.{ints}
use Rattle.averages.proofs.Quarters.{Four, four_at, av0_exact}
use Rattle.averages.proofs.plain_at.Goals as goal
use Rattle.averages.proofs.plain_at.Goals.{Start}

four : (c : Start) → Four c.args.sacf c.args.frame c.args.i
four c = four_at _ _ (search rules) (search rules) c.requires.1 c.requires.2 _ (omega arith)

pub overflow_add-result-3 : goal.overflow_add-result-3
overflow_add-result-3 c = let q = four (goal.at.overflow_add-result-3 c).Start in omega (arith, ints, q.first, q.new)

pub overflow_add-result-4 : goal.overflow_add-result-4
overflow_add-result-4 c = let q = four (goal.at.overflow_add-result-4 c).Start in omega (arith, ints, q.first, q.new, q.second)

pub overflow_add-result-5 : goal.overflow_add-result-5
overflow_add-result-5 c = let q = four (goal.at.overflow_add-result-5 c).Start in omega (arith, ints, q.first, q.new, q.second, q.third)

pub returns : goal.returns
returns c = let q = four (goal.at.returns c).Start in omega (arith, ints, av0_exact _ _ _ q, q.first, q.new, q.second, q.third)
