-- Two histories that differ in all but what channel 0 has heard: every frame is answered alike there. Assumes nothing.
use mathlib.Core.Path.{◌≡◌, sym, ◌∙◌}
use Rattle.frames.specs.Frame.{Frame}
use Rattle.card.specs.Card.{call, answer_of}
use Rattle.card.specs.History.{all_reset, bank_from}
use Rattle.card.proofs.Asked.{asked}
use Rattle.card_cases.specs.Worked.{one_history, another, histories}

pub alike : (f : Frame) → answer_of (bank_from (all_reset 3) one_history) (call 0 f) ≡ answer_of (bank_from (all_reset 3) another) (call 0 f)
alike f = asked.only 3 0 one_history another f (histories.0 ∙ sym histories.1)
