-- `rows::narrow` tests each entry: what was found and a test of the rest are the test of all. Assumes nothing.
use mathlib.Core.Path.{◌≡◌}
use mathlib.Core.Bool.{◌&&◌}
use lib.ListN.{drop}
use Rattle.rows.specs.Rows.{all, thirteen}
use Rattle.rows.proofs.narrow.Given as goal

abbrev pub invariant-loop-x : goal.invariant-loop-x
invariant-loop-x l = l.ok && all (thirteen) (drop l.x-index l.a) ≡ all (thirteen) l.a
