-- The hangover's sentence holds of the flags that clause 6.8 gives, frame after frame from reset, and of no others; so document 01's rows follow from
-- it. Assumes nothing.
use mathlib.Core.Path.{◌≡◌, refl, sym, ◌∙◌}
use mathlib.Core.Bool.{Bool, true, false}
use mathlib.Core.List.{List}
use Prim.Native.Nat.{ℕ}
use native.Mathlib.Omega.{arith}
use lib.ListN.{length}
use Rattle.numbers.specs.Clamp.{clamp}
use Rattle.operations.specs.Operations.{add, sub}
use Rattle.rows.specs.Choice.{IF◌THEN◌ELSE◌}
use Rattle.rows.specs.Rows.{row}
use Rattle.rows.proofs.Fill.{row_ext}
use Rattle.hangover.specs.Hangover.{burst_of, run_down_of}
use Rattle.hangover.specs.Bursts.{by_place}
use Rattle.hangover.specs.Sentence.{Sentence, bits, Gives, Rows}
use Rattle.hangover.proofs.Bursts.{started_with, hangover_with, hung_at, flag_at, sentence}

pub clause : (vvad : ℕ → Bool) (i : ℕ) → Sentence (flag_at 3 5 vvad) vvad i
unfolding Sentence
clause vvad i = sentence 3 5 (omega arith) (omega arith) (omega arith) vvad i

module _ (vad vvad : ℕ → Bool) (i : ℕ) where
  pub spoken : vad i ≡ flag_at 3 5 vvad i → Sentence vad vvad i
  unfolding Sentence
  spoken e = (λ h. (clause vvad i).0 (sym e ∙ h), λ h. e ∙ (clause vvad i).1 h)

  pub only : Sentence vad vvad i → vad i ≡ flag_at 3 5 vvad i
  unfolding Sentence
  only s = same (vad i) (flag_at 3 5 vvad i) (λ h. (clause vvad i).1 (s.0 h)) (λ h. s.1 ((clause vvad i).0 h))
    where
      same : (a b : Bool) → (a ≡ true → b ≡ true) → (b ≡ true → a ≡ true) → a ≡ b
      same true b f g = sym (f refl)
      same false true f g = g refl
      same false false f g = refl

-- ---- document 01's rows
gives : (raws flags : List ℕ) → row (length raws) (flag_at 3 5 (by_place (bits raws))) ≡ bits flags → Gives raws flags
unfolding Gives
gives raws flags e vad s = row_ext (length raws) vad (flag_at 3 5 (by_place (bits raws))) (λ i h. only vad (by_place (bits raws)) i (s i h)) ∙ e

pub rows : Rows
unfolding Rows row bits by_place flag_at hung_at hangover_with started_with burst_of run_down_of IF◌THEN◌ELSE◌ add sub clamp
rows = (gives _ _ refl, gives _ _ refl, gives _ _ refl)
