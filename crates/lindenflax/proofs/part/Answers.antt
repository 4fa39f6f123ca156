-- `lindenflax::part` copies its numbers. Assumes nothing.
use native.Mathlib.Omega.{arith}
use Prim.Native.Nat.{◌+◌, ◌-◌}
use mathlib.Core.Path.{◌≡◌, ◌∙◌, ap}
use lib.ListN.{take, drop}
use Rattle.lindenflax.specs.Run.{part}
use Rattle.lindenflax.proofs.part.Goals as goal

pub returns : goal.returns
unfolding part
returns g c =
    let n : (c.args.first + g.row.N) - c.args.first ≡ g.row.N = omega arith in
    c.copy_from_slice.ensures.after ∙ ap (λ k. take k (drop c.args.first c.args.run.now)) n
