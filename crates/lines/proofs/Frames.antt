-- The frames of a trace with a line more at the front. Assumes nothing.
use Rattle.std.proofs.Common.{◌≡◌, ℕ, List, ◌∷◌, eq-eqb, ne_eqb}
use Rattle.rows.proofs.Choice.{by_yes, by_no}
use Rattle.lines.specs.Answers.{decoded_of}
use Rattle.lines.specs.Frames.{frame_in, frames_of}

module _ (l : List ℕ) (ls : List (List ℕ)) where
  pub frames_yes : (decoded_of l).refusal ≡ 0 → frames_of (l ∷ ls) ≡ frame_in l ∷ frames_of ls
  unfolding frames_of
  frames_yes h = by_yes _ _ (eq-eqb (decoded_of l).refusal 0 h)

  pub frames_no : ((decoded_of l).refusal ≡ 0 → ⊥) → frames_of (l ∷ ls) ≡ frames_of ls
  unfolding frames_of
  frames_no h = by_no _ _ (ne_eqb (decoded_of l).refusal 0 h)
