-- `pieces::cut` puts the carried line together, and carries the rest on. Assumes nothing.
use mathlib.Core.Path.{sym, ap, ◌∙◌}
use mathlib.Core.List.{List, ◌++◌}
use Prim.Native.Nat.{ℕ, ◌-◌, ◌≤◌}
use native.Mathlib.Omega.{arith}
use lib.ListN.{length, drop, length-drop}
use lib.Seq.{length-take-le, take_all}
use Rattle.pieces.specs.Cut.{held_of, finder_of, to_of}
use Rattle.pieces.proofs.Found.{end_le}
use Rattle.pieces.proofs.Carried.{ending_in, cut_none, cut_some}
use Rattle.pieces.proofs.cut.Goals as goal
use Rattle.pieces.proofs.cut.Goals.{After-ending-from, After-last_end-to}

to_most : (c : After-last_end-to) → c.last_end-to.result ≤ length c.args.input.now
unfolding to_of
to_most c = omega (arith, end_le c.args.input.now (length c.args.input.now), c.last_end-to.ensures)

from_most : (c : After-ending-from) → c.ending-from.result ≤ length c.args.input.now
from_most c = omega (arith, ending_in c.args.f c.args.input.now, c.ending-from.ensures)

pub returns-then-to-eq0 : goal.returns-then-to-eq0
returns-then-to-eq0 c =
    cut_none c.args.f c.args.input.now c.joined-rest.result (sym c.last_end-to.ensures ∙ c.if-to-eq0.true) c.joined-rest.ensures

pub slice_bounds-joined-end : goal.slice_bounds-joined-end
slice_bounds-joined-end c = sym (length-take-le _ _ (from_most (goal.at.slice_bounds-joined-end c).After-ending-from))

pub slice_bounds-joined-count : goal.slice_bounds-joined-count
slice_bounds-joined-count c = to_most (goal.at.slice_bounds-joined-count c).After-last_end-to

pub slice_bounds-joined-start : goal.slice_bounds-joined-start
slice_bounds-joined-start c = to_most (goal.at.slice_bounds-joined-start c).After-last_end-to

pub returns : goal.returns
returns c =
    let a = c.args in
    let to = c.last_end-to.result in
    let n = length-drop to a.input.now in
    cut_some a.f a.input.now c.ending-from.result to c.joined-h.result c.start.result c.joined-rest-2.result (λ z. c.if-to-eq0.false (c.last_end-to.ensures ∙ z)) c.last_end-to.ensures c.ending-from.ensures c.joined-h.ensures c.start.ensures
    (c.joined-rest-2.ensures ∙ ap (λ (x : List ℕ). finder_of (held_of c.start.result ++ x)) (take_all (length a.input.now - to) (drop to a.input.now) (omega arith)))
