-- `files::Steps::each` reads into a piece that keeps its length. Assumes nothing.
use Rattle.std.proofs.Common.{◌≡◌, length}
use Rattle.files.proofs.Steps.each.Given as goal

abbrev pub invariant-loop : goal.invariant-loop
invariant-loop g l = length l.piece ≡ g.row.N
