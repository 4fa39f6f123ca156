-- The run that a reset or an accepted frame leaves is never refused by itself: its numbers fit, and the state in it is valid. What the type of
-- the filter says by itself is that its entries are of 16 bits. Assumes nothing.
use mathlib.Core.Path.{◌≡◌, refl, ap, ◌∙◌}
use mathlib.Core.Bool.{Bool, true, false}
use mathlib.Core.List.{List}
use Prim.Native.Nat.{ℕ}
use native.Mathlib.Omega.{arith}
use lib.IntN.{ℤ, pos, neg_ℤ}
use lib.ListN.{length}
use lib.Signed.{◌≤ℤ◌}
use mir.Syntax.{w16}
use mir.Val.{SFits}
use Rattle.numbers.specs.Sum.{at}
use Rattle.numbers.proofs.Parts.{zarith, of}
use Rattle.rows.specs.Choice.{IF◌THEN◌ELSE◌, eqZ, within}
use Rattle.rows.specs.Rows.{row, all}
use Rattle.rows.proofs.Choice.{both}
use Rattle.frames.specs.Frame.{Direction, samples_ok}
use Rattle.state.specs.declared.State.{State}
use Rattle.state.specs.Valid.{valid_of, reset_of, Between, Valid, Shaped}
use Rattle.state.proofs.Facts.{valid, between_back}
use Rattle.detector.specs.Refusal.{refusal_of}
use Rattle.detector.specs.Step.{answer_for}
use Rattle.detector.proofs.Table.{number_0, accepted_0}
use Rattle.detector.proofs.Keeps.{Numbers, step_keeps}
use Rattle.lindenflax.specs.Run.{bit_of, flag_of, part, run_of, state_of, shorts_of, narrow_of, step_number, step_run}
use Rattle.lindenflax.proofs.Parted.{spread, part_length}
use Rattle.lindenflax.proofs.Lossless.{sacf_pointer_back, sav0_pointer_back, oldlag_back, tone_back, state_run}
use Rattle.lindenflax.proofs.Answers.{readable, none_lent, none_given, done_run}

abbrev Short : ℤ → Bool
Short = within (neg_ℤ (pos 32768)) (pos 32767)

-- a number of 16 bits, and one of a narrower range
short : (z : ℤ) → SFits w16 z → Short z ≡ true
short z f = between_back (neg_ℤ (pos 32768)) (pos 32767) z (record { from = omega (zarith, of z, f.sfits); to = omega (zarith, of z, f.sfits) })

inner : (lo hi z : ℤ) → neg_ℤ (pos 32768) ≤ℤ lo → hi ≤ℤ pos 32767 → Between lo hi z → Short z ≡ true
inner lo hi z l h b = between_back (neg_ℤ (pos 32768)) (pos 32767) z (record { from = omega (zarith, l, b.from); to = omega (zarith, h, b.to) })

-- the number of a flag
bit_narrow : (b : Bool) → within (pos 0) (pos 1) (bit_of b) ≡ true
unfolding within bit_of IF◌THEN◌ELSE◌
bit_narrow true = refl
bit_narrow false = refl

-- the run of a valid state
module _ (s : State) (shape : Shaped s) (v : Valid s) (filter : (k : ℕ) → SFits w16 (at s.rvad k)) where
  front_short : shorts_of (part 0 10 (run_of s)) ≡ true
  unfolding shorts_of all part run_of row
  front_short =
      rw (spread s.rvad 9 shape.rvad)
      (both (short (at s.rvad 0) (filter 0))
      (both (short (at s.rvad 1) (filter 1))
      (both (short (at s.rvad 2) (filter 2))
      (both (short (at s.rvad 3) (filter 3))
      (both (short (at s.rvad 4) (filter 4))
      (both (short (at s.rvad 5) (filter 5))
      (both (short (at s.rvad 6) (filter 6))
      (both (short (at s.rvad 7) (filter 7))
      (both (short (at s.rvad 8) (filter 8))
      (both (inner (pos 2) (pos 9) s.normrvad (omega zarith) (omega zarith) v.normrvad) refl))))))))))

  counts_short : shorts_of (part 76 7 (run_of s)) ≡ true
  unfolding shorts_of all part run_of row
  counts_short =
      rw (spread s.rvad 9 shape.rvad, spread s.sacf 27 shape.sacf, spread s.sav0 36 shape.sav0)
      (both (inner (neg_ℤ (pos 32)) (pos 64) s.thvad.e (omega zarith) (omega zarith) v.exponent)
      (both (inner (pos 16384) (pos 32767) s.thvad.m (omega zarith) (omega zarith) v.mantissa)
      (both (inner (pos 0) (pos 9) s.adaptcount (omega zarith) (omega zarith) v.adaptcount)
      (both (inner (pos 0) (pos 3) s.burstcount (omega zarith) (omega zarith) v.burstcount)
      (both (inner (neg_ℤ (pos 1)) (pos 5) s.hangcount (omega zarith) (omega zarith) v.hangcount)
      (both (inner (pos 0) (pos 4) s.oldlagcount (omega zarith) (omega zarith) v.oldlagcount)
      (both (inner (pos 0) (pos 4) s.veryoldlagcount (omega zarith) (omega zarith) v.veryoldlagcount) refl)))))))

  pub run_narrow : narrow_of (run_of s) ≡ true
  unfolding narrow_of
  run_narrow =
      rw (sacf_pointer_back s shape, sav0_pointer_back s shape, oldlag_back s shape, tone_back s shape)
      (both front_short
      (both counts_short
      (both (between_back (pos 0) (pos 27) (pos s.ptsacf) (record { from = omega zarith; to = omega (zarith, v.ptsacf_last) }))
      (both (between_back (pos 0) (pos 27) (pos s.ptsav0) (record { from = omega zarith; to = omega (zarith, v.ptsav0_last) }))
      (both (between_back (pos 0) (pos 65535) (pos s.oldlag) (record { from = omega zarith; to = omega (zarith, v.oldlag.1) })) (bit_narrow s.tone))))))

-- ---- after a reset
pub reset_state : state_of (run_of reset_of) ≡ reset_of
unfolding state_of run_of bit_of flag_of IF◌THEN◌ELSE◌ eqZ part reset_of row
reset_state = refl

pub reset_narrow : narrow_of (run_of reset_of) ≡ true
unfolding narrow_of shorts_of all within run_of bit_of IF◌THEN◌ELSE◌ part reset_of row
reset_narrow = refl

-- ---- after an accepted frame
module _ (d : Direction) (acf : List ℤ) (lags : List ℕ) (scale : ℤ) (run answer : List ℤ) (none : step_number d acf lags scale run answer ≡ 0) where
  accepted : refusal_of (samples_ok d) acf lags scale (state_of run) ≡ 0
  accepted = accepted_0 d acf lags scale (state_of run) (none_given d acf lags scale run answer none)

  run_long : length run ≡ 85
  run_long = (readable d acf lags scale run answer (none_lent d acf lags scale run answer none)).0

  shape : Shaped (state_of run)
  unfolding state_of
  shape =
      record {
        rvad = part_length 0 9 run (omega (arith, run_long));
        sacf = part_length 10 27 run (omega (arith, run_long));
        sav0 = part_length 38 36 run (omega (arith, run_long));
      }

  abbrev next : State
  next = (answer_for d acf lags scale (state_of run)).next

  module _ (fits : Numbers acf) where
    good : (valid_of next ≡ true) × Shaped next
    good = step_keeps acf lags scale (state_of run) fits shape d ((number_0 (samples_ok d) acf lags scale (state_of run)).0 accepted).2

    -- the next frame finds the state that this one left
    pub state_left : state_of (step_run d acf lags scale run answer) ≡ next
    state_left = ap state_of (done_run d acf lags scale run answer none) ∙ state_run next good.1

    -- and it is valid, in numbers that fit
    pub left_valid : valid_of (state_of (step_run d acf lags scale run answer)) ≡ true
    left_valid = ap valid_of state_left ∙ good.0

    pub left_narrow : ((k : ℕ) → SFits w16 (at next.rvad k)) → narrow_of (step_run d acf lags scale run answer) ≡ true
    left_narrow f = ap narrow_of (done_run d acf lags scale run answer none) ∙ run_narrow next good.1 (valid next good.0) f
