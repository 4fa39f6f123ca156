-- `Formed::of` tests the last character, and each of the 81. Assumes nothing.
use Rattle.std.proofs.Common.{◌≡◌, ◌&&◌, take}
use Rattle.std.specs.List.{list_all}
use Rattle.lines.specs.Hex.{hex_of}
use Rattle.lines.proofs.Formed.of.Given as goal

abbrev pub invariant-loop-b : goal.invariant-loop-b
invariant-loop-b l = l.ok ≡ (l.initial.ok && list_all hex_of (take l.b-index l.b-items))
