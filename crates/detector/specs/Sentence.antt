-- The hangover as a sentence about frames one after the other from reset. Of those that are accepted, counted from 0 in their order, vad is 1 at a
-- frame exactly if vvad is 1 there, or three consecutive raw speech frames ended at one of the five frames before it. A refused frame between them is
-- not counted. `hangover_sentence` in `proofs/Sentence.antt` shows it. Assumes nothing.
use Rattle.std.specs.Prelude.{Bool, List, ℕ, ◌<◌, length}
use Rattle.hangover.specs.Bursts.{by_place}
use Rattle.hangover.specs.Sentence.{Sentence}
use Rattle.frames.specs.Frame.{Frame}
use Rattle.state.specs.Valid.{reset_of}
use Rattle.detector.specs.Answer.{Answer}
use Rattle.detector.specs.Run.{accepted_from, flags_of, raws_of}

-- the answers of `step` to the accepted ones of some frames: to all of them, if each is accepted
unfoldable pub accepted : List Frame → List Answer
accepted frames = accepted_from reset_of frames

-- what it answers to frame i of them
unfoldable pub vad : List Frame → ℕ → Bool
vad frames i = by_place (flags_of (accepted frames)) i

unfoldable pub vvad : List Frame → ℕ → Bool
vvad frames i = by_place (raws_of (accepted frames)) i

unfoldable pub HangoverSentence : Type 0
HangoverSentence = (frames : List Frame) (i : ℕ) → i < length (accepted frames) → Sentence (vad frames) (vvad frames) i
