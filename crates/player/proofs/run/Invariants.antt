-- `player::run` plays line after line, each with the next samples. Assumes nothing.
use Prim.Native.Nat.{◌-◌, ◌≤◌}
use lib.ListN.{length, drop}
use Rattle.pieces.proofs.Runs.{Runs}
use Rattle.samples.specs.Beside.{next_beside, text_beside}
use Rattle.player.specs.Played.{beside_of}
use Rattle.player.proofs.run.Given as goal

abbrev pub invariant-loop-i : goal.invariant-loop-i
invariant-loop-i g l =
    let h = g.H.Hearer in
    Runs (next_beside h.next) (text_beside h.text) h.MOST l.input (beside_of l.initial.hearer l.samples) l.at l.initial.out l.i (beside_of l.hearer (drop l.used l.samples)) l.wrote l.out × (l.used ≤ length l.samples)

abbrev pub decreases-loop-i : goal.decreases-loop-i
decreases-loop-i g l = length l.input - l.i
