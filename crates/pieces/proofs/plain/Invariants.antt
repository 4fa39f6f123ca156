-- `pieces::plain` passes 81 bytes that are no line feed. Assumes nothing.
use Rattle.std.proofs.Common.{◌≡◌, eqb, take, not}
use Rattle.std.specs.List.{list_all}
use Rattle.pieces.proofs.plain.Given as goal

abbrev pub invariant-loop-b : goal.invariant-loop-b
invariant-loop-b l = l.ok ≡ list_all (λ b. not (eqb b 10)) (take l.b-index l.usual)
