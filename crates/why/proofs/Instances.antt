-- There are runs of any length, so also one after which no number is left: n quiet frames from reset are all accepted. Assumes nothing.
use mathlib.Core.Path.{◌≡◌, refl, ap, ◌∙◌}
use mathlib.Core.Bool.{true}
use Prim.Native.Nat.{ℕ, zero, suc}
use native.Mathlib.Omega.{arith}
use lib.ListN.{length, replicate}
use Rattle.rows.specs.Choice.{IF◌THEN◌ELSE◌, within}
use Rattle.rows.specs.Rows.{all}
use Rattle.lags.specs.Lags.{lag_ok}
use Rattle.frames.specs.Frame.{up, lengths_ok, samples_ok, scale_ok, acf_ok, lags_ok, frame_refusal_of}
use Rattle.state.specs.declared.State.{State}
use Rattle.state.specs.Valid.{valid_of, Shaped, reset_of}
use Rattle.state.proofs.Facts.{reset_valid, reset_shaped}
use Rattle.detector.specs.Refusal.{refusal_of}
use Rattle.detector.specs.Step.{refused_of}
use Rattle.detector.specs.Run.{answer_to, state_from, accepted_from}
use Rattle.detector.specs.Worked.{quiet}
use Rattle.detector.proofs.Table.{accepted_number}
use Rattle.detector.proofs.Keeps.{Numbers, zeros_fit, step_keeps}
use Rattle.detector.proofs.Run.{accepted_more}
use Rattle.why.specs.Explain.{limit}
use Rattle.why.specs.Asked.{count, Denies}
use Rattle.why.proofs.Asked.{asked}

numbers : Numbers quiet.l_acf
numbers zero = record { sfits = omega arith }
numbers (suc k) = zeros_fit 8 k

-- a quiet frame is accepted from any valid state, and leaves one
module _ (s : State) (t : valid_of s ≡ true) where
  not_refused : refusal_of (samples_ok up) quiet.l_acf quiet.lags quiet.scalvad s ≡ 0
  unfolding refusal_of samples_ok frame_refusal_of lengths_ok scale_ok acf_ok lags_ok lag_ok within all IF◌THEN◌ELSE◌
  not_refused = rw t

  taken : (answer_to s quiet).refusal ≡ 0
  unfolding answer_to
  taken = accepted_number up quiet.l_acf quiet.lags quiet.scalvad s not_refused

  kept : Shaped s → (valid_of (answer_to s quiet).next ≡ true) × Shaped (answer_to s quiet).next
  unfolding answer_to
  kept h = step_keeps quiet.l_acf quiet.lags quiet.scalvad s numbers h up t

all_taken : (n : ℕ) (s : State) → valid_of s ≡ true → Shaped s → length (accepted_from s (replicate n quiet)) ≡ n
unfolding accepted_from
all_taken zero s t h = refl
all_taken (suc n) s t h =
    let k = kept s t h in
    ap length (accepted_more s quiet (replicate n quiet) (taken s t)) ∙ ap suc (all_taken n (answer_to s quiet).next k.0 k.1)

still_valid : (n : ℕ) (s : State) → valid_of s ≡ true → Shaped s → valid_of (state_from s (replicate n quiet)) ≡ true
unfolding state_from
still_valid zero s t h = t
still_valid (suc n) s t h = let k = kept s t h in still_valid n (answer_to s quiet).next k.0 k.1

-- n frames are n numbers
pub numbered : (n : ℕ) → count (replicate n quiet) ≡ n
numbered n = all_taken n reset_of reset_valid reset_shaped

-- and after as many as there are, one more is refusal 7
pub seven : (n : ℕ) → n ≡ limit → Denies (replicate n quiet) quiet (refused_of 7 (state_from reset_of (replicate n quiet)))
seven n e = (asked (replicate n quiet) quiet).beyond (taken _ (still_valid n reset_of reset_valid reset_shaped)) (numbered n ∙ e)
