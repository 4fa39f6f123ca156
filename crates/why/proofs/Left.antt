-- What the threshold's reason says of the next state: 6.6 has left what stands for this way in `left_by`. So a frame that waits has left its count, and
-- one that adapted the filter and the threshold that were learned. Assumes nothing.
use mathlib.Core.Path.{◌≡◌, sym, ap, subst, ◌∙◌}
use lib.IntN.{ℤ, pos}
use lib.Signed.{◌≤ℤ◌}
use Rattle.threshold.specs.declared.Kept.{Kept}
use Rattle.threshold.specs.declared.Way.{Way}
use Rattle.threshold.specs.Ways.{left_by}
use Rattle.threshold.proofs.Ways.{by_way}
use Rattle.frames.specs.Frame.{Frame, samples_ok}
use Rattle.state.specs.declared.State.{State}
use Rattle.detector.specs.Answer.{Answer}
use Rattle.detector.specs.Step.{spectral_of, accepted_of, tone_read, tone_kept}
use Rattle.detector.specs.Run.{answer_to}
use Rattle.detector.proofs.Table.{accepted_0, step_accepted}
use Rattle.detector.proofs.Keeps.{accepted}
use Rattle.why.specs.Explain.{threshold_reason}
use Rattle.why.proofs.Range.{WaitingIn, waiting_in}

-- what 6.6 keeps in a state
abbrev pub kept_of : State → Kept
kept_of s = record { thvad = s.thvad; adaptcount = s.adaptcount; rvad = s.rvad; normrvad = s.normrvad }

-- an answer a to a frame, from the state s
abbrev pub Left : State → Frame → Answer → Type 0
Left s f a =
    kept_of a.next ≡ left_by (threshold_reason (tone_read f.direction s) s a.acf0 a.stat) a.pvad (spectral_of f.l_acf f.scalvad s).rav1 (spectral_of f.l_acf f.scalvad s).normrav1 (kept_of s)

accepted_left : (s : State) (f : Frame) → Left s f (accepted_of (tone_read f.direction s) (tone_kept f.direction) f.l_acf f.lags f.scalvad s)
unfolding accepted_of threshold_reason
accepted_left s f = by_way _ _ _ _ (kept_of s) _ _ _

module _ (s : State) (f : Frame) (ok : (answer_to s f).refusal ≡ 0) where
  pub left_by_lem : Left s f (answer_to s f)
  unfolding answer_to
  left_by_lem = subst (Left s f) (sym (step_accepted f.direction f.l_acf f.lags f.scalvad s (accepted_0 f.direction f.l_acf f.lags f.scalvad s ok))) (accepted_left s f)

  -- a count that is waited for is that of the next state, and one of 1..8
  pub waiting_count : (k : ℤ) → threshold_reason (tone_read f.direction s) s (answer_to s f).acf0 (answer_to s f).stat ≡ Way.Waiting k → ((answer_to s f).next.adaptcount ≡ k) × (pos 1 ≤ℤ k) × (k ≤ℤ pos 8)
  unfolding answer_to left_by threshold_reason
  waiting_count k e =
      let v = (accepted (samples_ok f.direction) f.l_acf f.lags f.scalvad s (accepted_0 f.direction f.l_acf f.lags f.scalvad s ok)).state in
      let a = answer_to s f in
      let w = subst WaitingIn e (waiting_in a.acf0 _ a.stat _ s.adaptcount v.adaptcount.from v.adaptcount.to) in
      let l = left_by_lem ∙ ap (λ (x : Way). left_by x a.pvad (spectral_of f.l_acf f.scalvad s).rav1 (spectral_of f.l_acf f.scalvad s).normrav1 (kept_of s)) e in
      (ap (λ (x : Kept). x.adaptcount) l, w.0, w.1)
