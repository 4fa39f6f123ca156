-- What the theorems on the tone flag suppose is met (crates/detector/specs/Directions.antt): frames of zeros have their samples and no tone in them, as
-- `toneless_run` asks; a frame of 1000 Hz, from reset, leaves the flag set, by `samples_later`; and the frame after it is accepted, so that
-- `nothing_learned` and `not_read` speak of it. Assumes nothing.
use mathlib.Core.Path.{◌≡◌, refl, ap, ◌∙◌}
use mathlib.Core.Bool.{Bool, true, false}
use mathlib.Core.List.{List, [], ◌∷◌}
use Prim.Native.Nat.{ℕ, zero, suc}
use native.Mathlib.Omega.{arith}
use lib.IntN.{ℤ, pos}
use Rattle.rows.specs.Choice.{IF◌THEN◌ELSE◌, within}
use Rattle.rows.specs.Rows.{row, all}
use Rattle.tone.specs.Tone.{flag_of}
use Rattle.tone.specs.Worked.{periods, zeros, thousand, flags}
use Rattle.lags.specs.Lags.{lag_ok}
use Rattle.frames.specs.Frame.{Direction, up, down, Frame, lengths_ok, samples_ok, scale_ok, acf_ok, lags_ok, frame_refusal_of}
use Rattle.state.specs.declared.State.{State}
use Rattle.state.specs.Valid.{valid_of, reset_of}
use Rattle.detector.specs.Refusal.{refusal_of}
use Rattle.detector.specs.Step.{tone_kept, step_of, downlink_of}
use Rattle.detector.specs.Directions.{AllToneless, Unlearned}
use Rattle.detector.proofs.Flags.{samples_later, nothing_learned}
use Rattle.demands.specs.Worked.{forty}
use Rattle.demands.specs.Idle.{quiet}
use Rattle.demands.proofs.Meets.{numbered, demand_2, reset_meets}
use Rattle.demands.proofs.Idle.{numbers}

-- a flag of the table in crates/tone/specs/Worked.antt, by its place
nth : ℕ → List Bool → Bool
nth n [] = false
nth zero (b ∷ bs) = b
nth (suc n) (b ∷ bs) = nth n bs

-- a quiet frame with these samples
abbrev frame : List ℤ → Frame
frame sof = record { direction = down sof; l_acf = quiet; lags = forty; scalvad = pos 0 }

pub toneless : AllToneless (frame zeros ∷ frame zeros ∷ [])
unfolding nth AllToneless samples_ok tone_kept zeros row flag_of IF◌THEN◌ELSE◌
toneless = ((refl, ap (nth 0) flags), ((refl, ap (nth 0) flags), tt))

-- in either direction such a frame is accepted from every valid state, if its samples are there
taken : (d : Direction) → samples_ok d ≡ true → (s : State) → valid_of s ≡ true → refusal_of (samples_ok d) quiet forty (pos 0) s ≡ 0
unfolding refusal_of frame_refusal_of lengths_ok scale_ok acf_ok lags_ok lag_ok within all IF◌THEN◌ELSE◌
taken d h s t = rw h (rw t)

-- the state after a frame of 1000 Hz
unfoldable pub after : State
after = (downlink_of quiet forty (pos 0) thousand reset_of).next

pub set : after.tone ≡ true
unfolding nth after samples_ok thousand periods flag_of IF◌THEN◌ELSE◌
set =
    (samples_later quiet forty (pos 0) thousand reset_of refl).kept
    (numbered (down thousand) quiet forty (pos 0) reset_of ∙ taken (down thousand) refl reset_of reset_meets.0)
    ∙ ap (nth 2) flags

valid : valid_of after ≡ true
unfolding after
valid = (demand_2 (down thousand) quiet forty (pos 0) reset_of (numbers 1 (omega arith)) reset_meets.1).kept reset_meets.0

pub next_down : ((downlink_of quiet forty (pos 0) zeros after).refusal ≡ 0) × Unlearned after (downlink_of quiet forty (pos 0) zeros after)
unfolding samples_ok zeros row
next_down = let e = numbered (down zeros) quiet forty (pos 0) after ∙ taken (down zeros) refl after valid in (e, nothing_learned quiet forty (pos 0) zeros after set e)

pub next_up : (step_of quiet forty (pos 0) after).refusal ≡ 0
unfolding samples_ok
next_up = numbered up quiet forty (pos 0) after ∙ taken up refl after valid
