-- The bank of a card as it hears the lines of a trace: it looks at no samples. Assumes nothing.
use Rattle.std.specs.Prelude.{false, List, ℕ}
use Rattle.runner.specs.Said as runner
use Rattle.exchange.specs.declared.Bank.{Bank}
use Rattle.exchange.specs.Run as run

unfoldable pub next_of : Bank → List ℕ → List ℕ → Bank
next_of b block l = record { states = run.next_of b.states l }

unfoldable pub text_of : Bank → List ℕ → List ℕ → List ℕ
text_of b block l = run.write_of b.states l

-- a line that the end of the input cut is malformed
abbrev pub cut_of : Bank → List ℕ
cut_of b = runner.text_of (record { refusal = 6; vad = false; vvad = false })
