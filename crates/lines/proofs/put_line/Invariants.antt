-- `lines::put_line` puts the numbers and the lags one after the other; what is before and behind them is as it was. Assumes nothing.
use Rattle.std.proofs.Common.{◌≡◌, ◌+◌, ◌*◌, ◌++◌, map, length, take, drop, w32, of_z}
use Rattle.lines.specs.Hex.{blocks_of}
use Rattle.lines.proofs.put_line.Given as goal

abbrev pub invariant-loop-i : goal.invariant-loop-i
invariant-loop-i l =
    (length l.line ≡ 82)
    × (take (8 * l.i) l.line ≡ blocks_of 8 (take l.i (map (of_z w32) l.fn.frame.acf)))
    × (drop (8 * l.i) l.line ≡ drop (8 * l.i) l.initial.line)

abbrev pub invariant-loop-k : goal.invariant-loop-k
invariant-loop-k l =
    (length l.line ≡ 82)
    × (take (73 + 2 * l.k) l.line ≡ take 73 l.initial.line ++ blocks_of 2 (take l.k l.fn.frame.lags))
    × (drop (73 + 2 * l.k) l.line ≡ drop (73 + 2 * l.k) l.initial.line)
