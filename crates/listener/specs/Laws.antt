-- What a hearer of lines must be shown to keep, of the detector on the downlink: an answer has five bytes, and the first 85 bytes of a line are enough.
-- Assumes nothing.
use Rattle.std.specs.Prelude.{◌≡◌, List, ℕ, ◌≤◌, length}
use Rattle.std.proofs.Common.{ap, arith}
use Rattle.lines.proofs.Malformed.{decoded_short}
use Rattle.state.specs.declared.State.{State}
use Rattle.pieces.specs.Lines.{short}
use Rattle.listener.specs.declared.Downlink.{Downlink}
use Rattle.listener.specs.declared.Said.{Said}
use Rattle.listener.specs.Said as one
use Rattle.listener.specs.Said.{said_of, stepped_of, denied_of}
use Rattle.listener.specs.Run as run
use Rattle.listener.specs.Hears.{next_of, text_of}

pub text_most : (d : Downlink) (b l : List ℕ) → length (text_of d b l) ≤ 5
unfolding text_of run.answer_of one.text_of
text_most d b l = omega arith

-- a line is known by what is read of it
pub said_short : (s : State) (b l : List ℕ) → said_of s b (short l) ≡ said_of s b l
unfolding said_of
said_short s b l = rw (decoded_short l)

pub short_next : (d : Downlink) (b l : List ℕ) → next_of d b (short l) ≡ next_of d b l
unfolding next_of run.next_of
short_next d b l = ap (λ (x : Said). record { state = x.next }) (said_short d.state b l)

pub short_text : (d : Downlink) (b l : List ℕ) → text_of d b (short l) ≡ text_of d b l
unfolding text_of run.answer_of run.reply_of
short_text d b l = ap (λ (x : Said). one.text_of x.reply) (said_short d.state b l)
