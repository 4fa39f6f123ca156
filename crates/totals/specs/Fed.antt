-- A night whose trace comes in pieces: the answers are counted one after the other, and what is unfinished is carried from piece to piece. Once a
-- line is refused with 7, the totals and the detector stay. `called` in `proofs/Calls.antt` shows that the end gives `night_of` of the whole trace, however
-- it is cut. Assumes nothing.
use Rattle.std.specs.Prelude.{List, [], ◌∷◌, ℕ, eqb}
use Rattle.rows.specs.Choice.{IF◌THEN◌ELSE◌}
use Rattle.counts.specs.declared.Counted.{Counted}
use Rattle.counts.specs.Counts.{totals_of, count_of}
use Rattle.state.specs.Valid.{reset_of}
use Rattle.pieces.specs.Lines.{lines_of}
use Rattle.pieces.specs.Cut.{finder_of, held_of, rest_of}
use Rattle.pieces.specs.Pieces.{state_after, handed_of}
use Rattle.runner.specs.Run.{next_of, reply_of}
use Rattle.totals.specs.declared.Tally.{Tally}
use Rattle.player.specs.declared.Player.{Player}

-- ---- lines one after the other

-- a line is answered, and its answer counted; where it is not, the detector stays as it was
unfoldable pub tallied_of : Tally → List ℕ → Tally
tallied_of t l =
    let c = count_of t.counted (reply_of t.state l) in
    record { counted = c; state = IF eqb c.refusal 0 THEN next_of t.state l ELSE t.state }

unfoldable pub ran_of : Tally → List (List ℕ) → Tally
ran_of t ls = state_after tallied_of t ls

-- ---- pieces

unfoldable pub start_of : Player Tally
start_of = record { hearer = record { counted = record { refusal = 0; totals = totals_of [] }; state = reset_of }; finder = finder_of [] }

-- the lines that end in a piece are counted, and the rest is carried
unfoldable pub fed_of : Player Tally → List ℕ → Player Tally
fed_of n p = record { hearer = ran_of n.hearer (handed_of n.finder p); finder = rest_of n.finder p }

-- at the end what is carried is a line
unfoldable pub finish_of : Player Tally → Counted
finish_of n = (ran_of n.hearer (lines_of (held_of n.finder))).counted

-- pieces one after the other, and then the end
unfoldable pub calls_from : Player Tally → List (List ℕ) → Counted
calls_from n [] = finish_of n
calls_from n (p ∷ ps) = calls_from (fed_of n p) ps
