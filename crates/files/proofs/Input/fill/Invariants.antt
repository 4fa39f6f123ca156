-- `files::Input::fill` fills the piece from the front: what is filled stays within it, and the piece keeps its length. Assumes nothing.
use Rattle.std.proofs.Common.{◌≡◌, ◌-◌, ◌≤◌, length}
use Rattle.files.proofs.Input.fill.Given as goal

abbrev pub invariant-loop-n : goal.invariant-loop-n
invariant-loop-n l = (l.n ≤ length l.piece) × (length l.piece ≡ length l.fn.piece)

abbrev pub decreases-loop-n : goal.decreases-loop-n
decreases-loop-n l = length l.piece - l.n
