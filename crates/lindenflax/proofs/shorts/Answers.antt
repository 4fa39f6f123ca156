-- `lindenflax::shorts` tests the range of each number of the part. Assumes nothing.
use Prim.Native.Nat.{◌+◌, ◌-◌}
use mathlib.Core.Path.{◌≡◌, ap, ◌∙◌}
use native.Mathlib.Omega.{arith}
use lib.IntN.{pos, neg_ℤ}
use lib.ListN.{take, drop}
use Rattle.rows.specs.Choice.{within}
use Rattle.rows.specs.Rows.{all}
use Rattle.lindenflax.specs.Run.{part, shorts_of}
use Rattle.lindenflax.proofs.shorts.Goals as goal

pub returns : goal.returns
unfolding shorts_of part
returns c =
    let a = c.args in
    let n : a.first + a.count - a.first ≡ a.count = omega arith in
    c.all_within.ensures ∙ ap (λ k. all (within (neg_ℤ (pos 32768)) (pos 32767)) (take k (drop a.first a.run.now))) n
