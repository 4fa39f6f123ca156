-- `why_trace::hear` asks for no more samples than there is room for. Assumes nothing of its own.
use Rattle.std.proofs.Common.{◌*◌, ◌≤◌, length, rules, arith, sym}
use lib.Seq.{length-take-le}
use Rattle.samples.proofs.Beside.{feeds_most}
use Rattle.why_trace.proofs.hear.Goals as goal
use Rattle.why_trace.proofs.hear.Goals.{After-feeds-bytes}

-- no more lines end in a piece than it has bytes
bytes_in : (c : After-feeds-bytes) → 320 * c.feeds-bytes.result ≤ length c.args.samples.now
bytes_in c = omega (arith, feeds_most c.args.piece.now)

pub overflow_mul-bytes : goal.overflow_mul-bytes
overflow_mul-bytes c = let h = bytes_in c in search rules

pub slice_bounds-fill-end : goal.slice_bounds-fill-end
slice_bounds-fill-end c = bytes_in (goal.at.slice_bounds-fill-end c).After-feeds-bytes

pub slice_bounds-fill-end-in-Some : goal.slice_bounds-fill-end-in-Some
slice_bounds-fill-end-in-Some c = sym (length-take-le _ _ (bytes_in (goal.at.slice_bounds-fill-end-in-Some c).After-feeds-bytes))
