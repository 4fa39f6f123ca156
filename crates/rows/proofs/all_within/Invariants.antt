-- `rows::all_within` tests each entry: what was found and a test of the rest are the test of all. Assumes nothing.
use mathlib.Core.Path.{◌≡◌}
use mathlib.Core.Bool.{◌&&◌}
use lib.ListN.{drop}
use Rattle.rows.specs.Choice.{within}
use Rattle.rows.specs.Rows.{all}
use Rattle.rows.proofs.all_within.Given as goal

abbrev pub invariant-loop-z : goal.invariant-loop-z
invariant-loop-z l = l.ok && all (within l.lo l.hi) (drop l.z-index l.a) ≡ all (within l.lo l.hi) l.a
