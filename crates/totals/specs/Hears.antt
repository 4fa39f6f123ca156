-- The totals as they hear the lines of a trace: each is answered and counted, and nothing is written. Assumes nothing.
use Rattle.std.specs.Prelude.{List, [], ℕ}
use Rattle.totals.specs.declared.Tally.{Tally}
use Rattle.totals.specs.Fed.{tallied_of}

abbrev pub next_of : Tally → List ℕ → List ℕ → Tally
next_of t block l = tallied_of t l

abbrev pub text_of : Tally → List ℕ → List ℕ → List ℕ
text_of t block l = []
