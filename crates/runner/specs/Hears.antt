-- The detector as it hears the lines of a trace: it looks at no samples. Assumes nothing.
use Rattle.std.specs.Prelude.{false, List, ℕ}
use Rattle.runner.specs.declared.Uplink.{Uplink}
use Rattle.runner.specs.Said as one
use Rattle.runner.specs.Run as run

unfoldable pub next_of : Uplink → List ℕ → List ℕ → Uplink
next_of u block l = record { state = run.next_of u.state l }

unfoldable pub text_of : Uplink → List ℕ → List ℕ → List ℕ
text_of u block l = run.answer_of u.state l

-- a line that the end of the input cut is malformed
abbrev pub cut_of : Uplink → List ℕ
cut_of u = one.text_of (record { refusal = 6; vad = false; vvad = false })
