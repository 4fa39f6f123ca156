-- Orders on a bank of three, whatever its states are, and the ends of a bank, computed. Assumes nothing.
use Rattle.std.specs.Prelude.{◌≡◌, true, false, List, [], ◌∷◌, pos}
use Rattle.std.proofs.Math.Path.{refl}
use Rattle.rows.specs.Choice.{IF◌THEN◌ELSE◌}
use Rattle.frames.specs.Frame.{up, down, Frame, lengths_ok, samples_ok}
use Rattle.state.specs.declared.State.{State}
use Rattle.state.specs.Valid.{reset_of}
use Rattle.detector.specs.Refusal.{refusal_of}
use Rattle.detector.specs.Step.{answer_for, refused_of}
use Rattle.detector.specs.Run.{answer_to}
use Rattle.card.specs.Card.{call, reset, channel_of, in_bank, state_at, called_of, number_only, next_for, said_for, answer_of, bank_after}

-- a bank has 1 to 64 channels, and they are counted from 0
pub ends : (in_bank 0 0 ≡ false) × (in_bank 1 0 ≡ true) × (in_bank 1 1 ≡ false) × (in_bank 64 63 ≡ true) × (in_bank 64 64 ≡ false) × (in_bank 65 0 ≡ false)
unfolding in_bank
ends = (refl, refl, refl, refl, refl, refl)

-- a frame of no numbers and no lags, on the uplink and on the downlink: refusal 1
abbrev pub empty : Frame
empty = record { direction = up; l_acf = []; lags = []; scalvad = pos 0 }

abbrev pub empty_down : Frame
empty_down = record { direction = down []; l_acf = []; lags = []; scalvad = pos 0 }

module _ (s t u : State) where
  abbrev pub three : List State
  three = s ∷ t ∷ u ∷ []

  -- 9 before 1; and 1 leaves every state
  pub refusals :
      (answer_of three (call 1 empty) ≡ number_only 1) × (answer_of three (call 1 empty_down) ≡ number_only 1)
      × (answer_of three (call 3 empty) ≡ number_only 9) × (answer_of three (call 3 empty_down) ≡ number_only 9) × (answer_of [] (call 0 empty) ≡ number_only 9)
      × (bank_after three (call 1 empty) ≡ three) × (bank_after three (call 1 empty_down) ≡ three)
  unfolding answer_of bank_after channel_of in_bank state_at next_for said_for called_of number_only IF◌THEN◌ELSE◌ answer_to answer_for refusal_of refused_of lengths_ok samples_ok
  refusals = (refl, refl, refl, refl, refl, refl, refl)

  -- one state is the next, and the others are as they were
  pub banks : (f : Frame)
      → (bank_after three (call 1 f) ≡ s ∷ (answer_to t f).next ∷ u ∷ [])
      × (bank_after three (reset 1) ≡ s ∷ reset_of ∷ u ∷ [])
      × (bank_after three (call 3 f) ≡ three)
      × (bank_after three (reset 3) ≡ three)
  unfolding bank_after channel_of in_bank state_at next_for IF◌THEN◌ELSE◌
  banks f = (refl, refl, refl, refl)
