-- `pieces::line_end` is one after the line feed. Assumes nothing.
use Rattle.std.proofs.Common.{◌≡◌, ◌-◌, length, drop, arith, length-drop, rules}
use Rattle.pieces.specs.Lines.{plain_of, first_of}
use Rattle.pieces.proofs.Found.{plain_le, plain_take}
use Rattle.pieces.proofs.line_end.Goals as goal
use Rattle.pieces.proofs.line_end.Goals.{After-find}

-- the rest of a text is its part up to the end
found : (c : After-find) → c.find.result ≡ plain_of (drop c.args.i c.args.s.now)
found c =
    let s = c.args.s.now in
    let d = length-drop c.args.i s in
    let l = plain_le (drop c.args.i s) in
    let t = plain_take (length s - c.args.i) (drop c.args.i s) in
    omega (arith, c.find.ensures)

pub returns-then-i-s : goal.returns-then-i-s
unfolding first_of
returns-then-i-s c = let d = length-drop c.args.i c.args.s.now in omega arith

pub overflow_add-k : goal.overflow_add-k
overflow_add-k c =
    let d = length-drop c.args.i c.args.s.now in
    let l = plain_le (drop c.args.i c.args.s.now) in
    let f = found c in
    search rules

pub returns-then-k-s : goal.returns-then-k-s
unfolding first_of
returns-then-k-s c =
    let d = length-drop c.args.i c.args.s.now in
    let f = found (goal.at.returns-then-k-s c).After-find in
    omega arith

pub returns-else-k-s : goal.returns-else-k-s
unfolding first_of
returns-else-k-s c =
    let d = length-drop c.args.i c.args.s.now in
    let l = plain_le (drop c.args.i c.args.s.now) in
    let f = found (goal.at.returns-else-k-s c).After-find in
    omega arith
