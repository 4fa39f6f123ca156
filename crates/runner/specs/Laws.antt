-- What a hearer of lines must be shown to keep, of the detector: an answer has four bytes, and the first 85 bytes of a line are enough. Assumes nothing.
use Rattle.std.specs.Prelude.{◌≡◌, List, ℕ, ◌≤◌, length}
use Rattle.std.proofs.Common.{ap, arith}
use Rattle.lines.proofs.Malformed.{decoded_short}
use Rattle.state.specs.declared.State.{State}
use Rattle.pieces.specs.Lines.{short}
use Rattle.runner.specs.declared.Uplink.{Uplink}
use Rattle.runner.specs.declared.Said.{Said}
use Rattle.runner.specs.Said as one
use Rattle.runner.specs.Said.{said_of, stepped_of, denied_of}
use Rattle.runner.specs.Run as run
use Rattle.runner.specs.Hears.{next_of, text_of}

pub text_most : (u : Uplink) (b l : List ℕ) → length (text_of u b l) ≤ 4
unfolding text_of run.answer_of one.text_of
text_most u b l = omega arith

-- a line is known by what is read of it
said_short : (s : State) (l : List ℕ) → said_of s (short l) ≡ said_of s l
unfolding said_of
said_short s l = rw (decoded_short l)

pub short_next : (u : Uplink) (b l : List ℕ) → next_of u b (short l) ≡ next_of u b l
unfolding next_of run.next_of
short_next u b l = ap (λ (x : Said). record { state = x.next }) (said_short u.state l)

pub short_text : (u : Uplink) (b l : List ℕ) → text_of u b (short l) ≡ text_of u b l
unfolding text_of run.answer_of run.reply_of
short_text u b l = ap (λ (x : Said). one.text_of x.reply) (said_short u.state l)
