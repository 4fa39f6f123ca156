-- The number of a refusal is exactly document 01's table: each number is given exactly when its row's condition holds and none of a row checked
-- before it does. And a refusal answers with flags 0, energies 0 in both parts, and the state as given. Assumes nothing.
use mathlib.Core.Path.{◌≡◌, refl, sym, ap, ◌∙◌, subst}
use mathlib.Core.Bool.{Bool, true, false}
use mathlib.Core.List.{List}
use mathlib.Core.Logic.{◌↔◌}
use Prim.Native.Nat.{ℕ, ◌<◌}
use native.Mathlib.Omega.{arith}
use lib.Dec.{T, eqb}
use borrow.Author.Tests.{eq-eqb, ne_eqb, eqb-true, eqb-false}
use lib.IntN.{ℤ, pos}
use Rattle.rows.specs.Choice.{IF◌THEN◌ELSE◌}
use Rattle.rows.proofs.Choice.{by_yes, by_no, by_test, either}
use Rattle.pairs.specs.Pairs.{pair}
use Rattle.frames.proofs.Frame.{frame_digit}
use Rattle.frames.specs.Frame.{Direction, lengths_ok, samples_ok, scale_ok, acf_ok, lags_ok, frame_refusal_of}
use Rattle.state.specs.declared.State.{State}
use Rattle.state.specs.Valid.{valid_of}
use Rattle.detector.specs.Answer.{Answer}
use Rattle.detector.specs.Refusal.{refusal_of}
use Rattle.detector.specs.Step.{accepted_of, refused_of, tone_read, tone_kept, answer_for}

-- ---- the table over its six tests
abbrev number : Bool → Bool → Bool → Bool → Bool → Bool → ℕ
number false p b c d e = 1
number true false b c d e = 8
number true true false c d e = 5
number true true true false d e = 2
number true true true true false e = 3
number true true true true true false = 4
number true true true true true true = 0

off : {A : Type 0} → true ≡ false → A
off e = absurd (subst T e tt)

row_1 : (a p b c d e : Bool) → (number a p b c d e ≡ 1) ↔ ((a ≡ false))
row_1 false p b c d e = (λ h. refl, λ h. refl)
row_1 true false b c d e = (λ h. absurd (omega arith), λ h. off (h))
row_1 true true false c d e = (λ h. absurd (omega arith), λ h. off (h))
row_1 true true true false d e = (λ h. absurd (omega arith), λ h. off (h))
row_1 true true true true false e = (λ h. absurd (omega arith), λ h. off (h))
row_1 true true true true true false = (λ h. absurd (omega arith), λ h. off (h))
row_1 true true true true true true = (λ h. absurd (omega arith), λ h. off (h))

row_8 : (a p b c d e : Bool) → (number a p b c d e ≡ 8) ↔ ((a ≡ true) × (p ≡ false))
row_8 false p b c d e = (λ h. absurd (omega arith), λ h. off (sym h.0))
row_8 true false b c d e = (λ h. (refl, refl), λ h. refl)
row_8 true true false c d e = (λ h. absurd (omega arith), λ h. off h.1)
row_8 true true true false d e = (λ h. absurd (omega arith), λ h. off h.1)
row_8 true true true true false e = (λ h. absurd (omega arith), λ h. off h.1)
row_8 true true true true true false = (λ h. absurd (omega arith), λ h. off h.1)
row_8 true true true true true true = (λ h. absurd (omega arith), λ h. off h.1)

row_5 : (a p b c d e : Bool) → (number a p b c d e ≡ 5) ↔ ((a ≡ true) × (p ≡ true) × (b ≡ false))
row_5 false p b c d e = (λ h. absurd (omega arith), λ h. off (sym h.0))
row_5 true false b c d e = (λ h. absurd (omega arith), λ h. off (sym h.1))
row_5 true true false c d e = (λ h. (refl, refl, refl), λ h. refl)
row_5 true true true false d e = (λ h. absurd (omega arith), λ h. off h.2)
row_5 true true true true false e = (λ h. absurd (omega arith), λ h. off h.2)
row_5 true true true true true false = (λ h. absurd (omega arith), λ h. off h.2)
row_5 true true true true true true = (λ h. absurd (omega arith), λ h. off h.2)

row_2 : (a p b c d e : Bool) → (number a p b c d e ≡ 2) ↔ ((a ≡ true) × (p ≡ true) × (b ≡ true) × (c ≡ false))
row_2 false p b c d e = (λ h. absurd (omega arith), λ h. off (sym h.0))
row_2 true false b c d e = (λ h. absurd (omega arith), λ h. off (sym h.1))
row_2 true true false c d e = (λ h. absurd (omega arith), λ h. off (sym h.2))
row_2 true true true false d e = (λ h. (refl, refl, refl, refl), λ h. refl)
row_2 true true true true false e = (λ h. absurd (omega arith), λ h. off h.3)
row_2 true true true true true false = (λ h. absurd (omega arith), λ h. off h.3)
row_2 true true true true true true = (λ h. absurd (omega arith), λ h. off h.3)

row_3 : (a p b c d e : Bool) → (number a p b c d e ≡ 3) ↔ ((a ≡ true) × (p ≡ true) × (b ≡ true) × (c ≡ true) × (d ≡ false))
row_3 false p b c d e = (λ h. absurd (omega arith), λ h. off (sym h.0))
row_3 true false b c d e = (λ h. absurd (omega arith), λ h. off (sym h.1))
row_3 true true false c d e = (λ h. absurd (omega arith), λ h. off (sym h.2))
row_3 true true true false d e = (λ h. absurd (omega arith), λ h. off (sym h.3))
row_3 true true true true false e = (λ h. (refl, refl, refl, refl, refl), λ h. refl)
row_3 true true true true true false = (λ h. absurd (omega arith), λ h. off h.4)
row_3 true true true true true true = (λ h. absurd (omega arith), λ h. off h.4)

row_4 : (a p b c d e : Bool) → (number a p b c d e ≡ 4) ↔ ((a ≡ true) × (p ≡ true) × (b ≡ true) × (c ≡ true) × (d ≡ true) × (e ≡ false))
row_4 false p b c d e = (λ h. absurd (omega arith), λ h. off (sym h.0))
row_4 true false b c d e = (λ h. absurd (omega arith), λ h. off (sym h.1))
row_4 true true false c d e = (λ h. absurd (omega arith), λ h. off (sym h.2))
row_4 true true true false d e = (λ h. absurd (omega arith), λ h. off (sym h.3))
row_4 true true true true false e = (λ h. absurd (omega arith), λ h. off (sym h.4))
row_4 true true true true true false = (λ h. (refl, refl, refl, refl, refl, refl), λ h. refl)
row_4 true true true true true true = (λ h. absurd (omega arith), λ h. off h.5)

row_0 : (a p b c d e : Bool) → (number a p b c d e ≡ 0) ↔ ((a ≡ true) × (p ≡ true) × (b ≡ true) × (c ≡ true) × (d ≡ true) × (e ≡ true))
row_0 false p b c d e = (λ h. absurd (omega arith), λ h. off (sym h.0))
row_0 true false b c d e = (λ h. absurd (omega arith), λ h. off (sym h.1))
row_0 true true false c d e = (λ h. absurd (omega arith), λ h. off (sym h.2))
row_0 true true true false d e = (λ h. absurd (omega arith), λ h. off (sym h.3))
row_0 true true true true false e = (λ h. absurd (omega arith), λ h. off (sym h.4))
row_0 true true true true true false = (λ h. absurd (omega arith), λ h. off (sym h.5))
row_0 true true true true true true = (λ h. (refl, refl, refl, refl, refl, refl), λ h. refl)

-- ---- of a frame
module _ (samples : Bool) (l_acf : List ℤ) (lags : List ℕ) (scalvad : ℤ) (s : State) where
  is : refusal_of samples l_acf lags scalvad s ≡ number (lengths_ok l_acf lags) samples (valid_of s) (scale_ok scalvad) (acf_ok l_acf) (lags_ok lags)
  unfolding refusal_of frame_refusal_of IF◌THEN◌ELSE◌
  is = by (lengths_ok l_acf lags) samples (valid_of s) (scale_ok scalvad) (acf_ok l_acf) (lags_ok lags)
    where
      by : (a p b c d e : Bool) → (IF a THEN IF p THEN IF b THEN IF c THEN IF d THEN IF e THEN 0 ELSE 4 ELSE 3 ELSE 2 ELSE 5 ELSE 8 ELSE 1) ≡ number a p b c d e
      by false p b c d e = refl
      by true false b c d e = refl
      by true true false c d e = refl
      by true true true false d e = refl
      by true true true true false e = refl
      by true true true true true false = refl
      by true true true true true true = refl

  -- 1: a lent buffer has the wrong length
  pub number_1 : (refusal_of samples l_acf lags scalvad s ≡ 1) ↔ ((lengths_ok l_acf lags ≡ false))
  number_1 = let h = row_1 (lengths_ok l_acf lags) samples (valid_of s) (scale_ok scalvad) (acf_ok l_acf) (lags_ok lags) in (λ e. h.0 (sym is ∙ e), λ k. is ∙ h.1 k)

  -- 8: the frame has not the samples that its direction asks for
  pub number_8 : (refusal_of samples l_acf lags scalvad s ≡ 8) ↔ ((lengths_ok l_acf lags ≡ true) × (samples ≡ false))
  number_8 = let h = row_8 (lengths_ok l_acf lags) samples (valid_of s) (scale_ok scalvad) (acf_ok l_acf) (lags_ok lags) in (λ e. h.0 (sym is ∙ e), λ k. is ∙ h.1 k)

  -- 5: the state is not valid
  pub number_5 : (refusal_of samples l_acf lags scalvad s ≡ 5) ↔ ((lengths_ok l_acf lags ≡ true) × (samples ≡ true) × (valid_of s ≡ false))
  number_5 = let h = row_5 (lengths_ok l_acf lags) samples (valid_of s) (scale_ok scalvad) (acf_ok l_acf) (lags_ok lags) in (λ e. h.0 (sym is ∙ e), λ k. is ∙ h.1 k)

  -- 2: the scale is outside 0..4
  pub number_2 : (refusal_of samples l_acf lags scalvad s ≡ 2) ↔ ((lengths_ok l_acf lags ≡ true) × (samples ≡ true) × (valid_of s ≡ true) × (scale_ok scalvad ≡ false))
  number_2 = let h = row_2 (lengths_ok l_acf lags) samples (valid_of s) (scale_ok scalvad) (acf_ok l_acf) (lags_ok lags) in (λ e. h.0 (sym is ∙ e), λ k. is ∙ h.1 k)

  -- 3: the frame's first number is negative, or another one is larger in magnitude
  pub number_3 : (refusal_of samples l_acf lags scalvad s ≡ 3) ↔ ((lengths_ok l_acf lags ≡ true) × (samples ≡ true) × (valid_of s ≡ true) × (scale_ok scalvad ≡ true) × (acf_ok l_acf ≡ false))
  number_3 = let h = row_3 (lengths_ok l_acf lags) samples (valid_of s) (scale_ok scalvad) (acf_ok l_acf) (lags_ok lags) in (λ e. h.0 (sym is ∙ e), λ k. is ∙ h.1 k)

  -- 4: a lag is outside 40..120
  pub number_4 : (refusal_of samples l_acf lags scalvad s ≡ 4) ↔ ((lengths_ok l_acf lags ≡ true) × (samples ≡ true) × (valid_of s ≡ true) × (scale_ok scalvad ≡ true) × (acf_ok l_acf ≡ true) × (lags_ok lags ≡ false))
  number_4 = let h = row_4 (lengths_ok l_acf lags) samples (valid_of s) (scale_ok scalvad) (acf_ok l_acf) (lags_ok lags) in (λ e. h.0 (sym is ∙ e), λ k. is ∙ h.1 k)

  -- 0: accepted
  pub number_0 : (refusal_of samples l_acf lags scalvad s ≡ 0) ↔ ((lengths_ok l_acf lags ≡ true) × (samples ≡ true) × (valid_of s ≡ true) × (scale_ok scalvad ≡ true) × (acf_ok l_acf ≡ true) × (lags_ok lags ≡ true))
  number_0 = let h = row_0 (lengths_ok l_acf lags) samples (valid_of s) (scale_ok scalvad) (acf_ok l_acf) (lags_ok lags) in (λ e. h.0 (sym is ∙ e), λ k. is ∙ h.1 k)

-- ---- the answer, in either direction
module _ (d : Direction) (l_acf : List ℤ) (lags : List ℕ) (scalvad : ℤ) (s : State) where
  pub step_accepted : refusal_of (samples_ok d) l_acf lags scalvad s ≡ 0 → answer_for d l_acf lags scalvad s ≡ accepted_of (tone_read d s) (tone_kept d) l_acf lags scalvad s
  unfolding answer_for
  step_accepted e = by_yes _ _ (eq-eqb (refusal_of (samples_ok d) l_acf lags scalvad s) 0 e)

  pub step_refused : (refusal_of (samples_ok d) l_acf lags scalvad s ≡ 0 → ⊥) → answer_for d l_acf lags scalvad s ≡ refused_of (refusal_of (samples_ok d) l_acf lags scalvad s) s
  unfolding answer_for
  step_refused h = by_no _ _ (ne_eqb (refusal_of (samples_ok d) l_acf lags scalvad s) 0 h)

-- a refusal: flags 0, stat false, energies 0 in both parts, the state as given, and the number
pub record Refusing (number : ℕ) (s : State) (r : Answer) : Type 0 where
  pub numbered : r.refusal ≡ number
  pub no_flag : (r.vad ≡ false) × (r.vvad ≡ false)
  pub no_stat : r.stat ≡ false
  pub no_energy : (r.acf0 ≡ pair (pos 0) (pos 0)) × (r.pvad ≡ pair (pos 0) (pos 0))
  pub as_given : r.next ≡ s

refusing : (n : ℕ) (s : State) → Refusing n s (refused_of n s)
unfolding refused_of
refusing n s = record { numbered = refl; no_flag = (refl, refl); no_stat = refl; no_energy = (refl, refl); as_given = refl }

pub refused_answer : (d : Direction) (l_acf : List ℤ) (lags : List ℕ) (scalvad : ℤ) (s : State) → (refusal_of (samples_ok d) l_acf lags scalvad s ≡ 0 → ⊥) → Refusing (refusal_of (samples_ok d) l_acf lags scalvad s) s (answer_for d l_acf lags scalvad s)
refused_answer d l_acf lags scalvad s h = subst (Refusing (refusal_of (samples_ok d) l_acf lags scalvad s) s) (sym (step_refused d l_acf lags scalvad s h)) (refusing (refusal_of (samples_ok d) l_acf lags scalvad s) s)

pub accepted_number : (d : Direction) (l_acf : List ℤ) (lags : List ℕ) (scalvad : ℤ) (s : State) → refusal_of (samples_ok d) l_acf lags scalvad s ≡ 0 → (answer_for d l_acf lags scalvad s).refusal ≡ 0
unfolding accepted_of
accepted_number d l_acf lags scalvad s e = ap (λ (r : Answer). r.refusal) (step_accepted d l_acf lags scalvad s e)

-- an answer with number 0 is that of a frame that is not refused
pub accepted_0 : (d : Direction) (l_acf : List ℤ) (lags : List ℕ) (scalvad : ℤ) (s : State) → (answer_for d l_acf lags scalvad s).refusal ≡ 0 → refusal_of (samples_ok d) l_acf lags scalvad s ≡ 0
accepted_0 d l_acf lags scalvad s e =
    either (refusal_of (samples_ok d) l_acf lags scalvad s ≡ 0) (eqb (refusal_of (samples_ok d) l_acf lags scalvad s) 0) (eqb-true (refusal_of (samples_ok d) l_acf lags scalvad s) 0)
    (λ t. sym (refused_answer d l_acf lags scalvad s (eqb-false (refusal_of (samples_ok d) l_acf lags scalvad s) 0 t)).numbered ∙ e)

-- ---- a number is a digit
refusal_digit : (samples : Bool) (l_acf : List ℤ) (lags : List ℕ) (scalvad : ℤ) (s : State) → refusal_of samples l_acf lags scalvad s < 10
unfolding refusal_of
refusal_digit samples l_acf lags scalvad s =
    let Digit : ℕ → Type 0 = λ (n : ℕ). n < 10 in
    by_test Digit (lengths_ok l_acf lags) _ _
    (λ t. by_test Digit samples _ _ (λ u. by_test Digit (valid_of s) _ _ (λ v. frame_digit l_acf lags scalvad) (λ v. omega arith)) (λ u. omega arith))
    (λ t. omega arith)

pub answer_digit : (d : Direction) (l_acf : List ℤ) (lags : List ℕ) (scalvad : ℤ) (s : State) → (answer_for d l_acf lags scalvad s).refusal < 10
unfolding answer_for accepted_of refused_of
answer_digit d l_acf lags scalvad s =
    by_test (λ (r : Answer). r.refusal < 10) (eqb (refusal_of (samples_ok d) l_acf lags scalvad s) 0) _ _ (λ t. omega arith) (λ t. refusal_digit (samples_ok d) l_acf lags scalvad s)
