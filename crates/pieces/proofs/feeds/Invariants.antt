-- `pieces::feeds` counts the line feeds byte by byte. Assumes nothing.
use Rattle.std.proofs.Common.{◌≡◌, eqb, take}
use Rattle.std.specs.List.{count_by}
use Rattle.pieces.proofs.feeds.Given as goal

abbrev pub invariant-loop-b : goal.invariant-loop-b
invariant-loop-b l = l.n ≡ count_by (λ b. eqb b 10) (take l.b-index l.piece)
