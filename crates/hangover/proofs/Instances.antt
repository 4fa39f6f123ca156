-- The sentence says something in both directions, by itself: of frames of which only the first n are raw speech, or only frame n is. Assumes nothing.
use mathlib.Core.Path.{◌≡◌, refl}
use mathlib.Core.Bool.{Bool, true}
use mathlib.Core.Logic.{inl, inr, ⊎_elim}
use Prim.Native.Nat.{ℕ, ◌-◌}
use native.Mathlib.Omega.{arith}
use borrow.Author.Tests.{lt-ltb, ltb-true}
use lib.Dec.{eqb, ltb}
use Rattle.hangover.specs.Sentence.{Before, EndedBefore, Sentence}

abbrev pub first : ℕ → ℕ → Bool
first n i = ltb i n

abbrev pub lone : ℕ → ℕ → Bool
lone n i = eqb i n

module _ (vad : ℕ → Bool) where
  -- from right to left: a frame of raw speech needs no burst, and where three in a row ended at frame 2, frame 7 is held
  pub alone : Sentence vad (lone 2) 2 → vad 2 ≡ true
  unfolding Sentence
  alone s = s.1 (inl refl)

  pub held : Sentence vad (first 3) 7 → vad 7 ≡ true
  unfolding Sentence EndedBefore Before
  held s = s.1 (inr (2, (omega arith, omega arith), record { inside = omega arith; each = λ m h. lt-ltb (2 - m) 3 (omega arith) }))

  -- from left to right: frame 8 is not, as none of frames 3 to 7 is raw speech; nor is frame 2 after two frames, as no three end before it
  pub over : Sentence vad (first 3) 8 → vad 8 ≡ true → ⊥
  unfolding Sentence EndedBefore Before
  over s h =
      ⊎_elim
      (λ r. let k = ltb-true 8 3 r in omega arith)
      (λ (j, (before, near), ended). let k = ltb-true (j - 0) 3 (ended.each 0 (omega arith)) in omega arith)
      (s.0 h)

  pub short : Sentence vad (first 2) 2 → vad 2 ≡ true → ⊥
  unfolding Sentence EndedBefore Before
  short s h =
      ⊎_elim
      (λ r. let k = ltb-true 2 2 r in omega arith)
      (λ (j, (before, near), ended). let k = ended.inside in omega arith)
      (s.0 h)
