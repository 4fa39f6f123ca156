-- The detector as it hears the lines of a trace on the downlink, each beside its samples. Assumes nothing.
use Rattle.std.specs.Prelude.{false, List, ℕ}
use Rattle.listener.specs.declared.Downlink.{Downlink}
use Rattle.listener.specs.Said as one
use Rattle.listener.specs.Run as run

unfoldable pub next_of : Downlink → List ℕ → List ℕ → Downlink
next_of d block l = record { state = run.next_of d.state block l }

unfoldable pub text_of : Downlink → List ℕ → List ℕ → List ℕ
text_of d block l = run.answer_of d.state block l

-- a line that the end of the trace cut has no line feed, and is malformed
abbrev pub cut_of : Downlink → List ℕ
cut_of d = one.text_of (record { refusal = 6; vad = false; vvad = false; tone = d.state.tone })
