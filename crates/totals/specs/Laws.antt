-- What a hearer of lines must be shown to keep, of the totals: nothing is written, and the first 85 bytes of a line are enough. Assumes nothing.
use Rattle.std.specs.Prelude.{◌≡◌, refl, List, ℕ, ◌≤◌, eqb, length}
use Rattle.std.proofs.Common.{ap, arith}
use Rattle.rows.specs.Choice.{IF◌THEN◌ELSE◌}
use Rattle.counts.specs.Counts.{count_of}
use Rattle.pieces.specs.Lines.{short}
use Rattle.runner.specs.declared.Said.{Said}
use Rattle.runner.specs.Run.{next_of as step_of, reply_of}
use Rattle.runner.proofs.Steps.{said_short}
use Rattle.totals.specs.declared.Tally.{Tally}
use Rattle.totals.specs.Fed.{tallied_of}
use Rattle.totals.specs.Hears.{next_of, text_of}

pub text_most : (t : Tally) (b l : List ℕ) → length (text_of t b l) ≤ 0
text_most t b l = omega arith

abbrev after : Tally → Said → Tally
after t x = let c = count_of t.counted x.reply in record { counted = c; state = IF eqb c.refusal 0 THEN x.next ELSE t.state }

pub short_next : (t : Tally) (b l : List ℕ) → next_of t b (short l) ≡ next_of t b l
unfolding tallied_of reply_of step_of
short_next t b l = ap (after t) (said_short t.state l)

pub short_text : (t : Tally) (b l : List ℕ) → text_of t b (short l) ≡ text_of t b l
short_text t b l = refl
