-- The lines of a trace, explained: the run that they leave is that of their frames, so a line is told what is asked of the explainer. Assumes nothing.
use mathlib.Core.Path.{◌≡◌, refl, ap, sym, ◌∙◌}
use mathlib.Core.Bool.{Bool}
use mathlib.Core.List.{List, [], ◌∷◌}
use Prim.Native.Nat.{ℕ}
use borrow.Author.Tests.{eqb-true, eqb-false}
use lib.Dec.{eqb}
use lib.ListN.{drop}
use Rattle.rows.proofs.Choice.{by_yes, by_no, either}
use Rattle.lines.specs.Answers.{decoded_of}
use Rattle.pieces.specs.Pieces.{state_after}
use Rattle.samples.specs.Samples.{frame_bytes}
use Rattle.samples.specs.Beside.{block_of, next_beside}
use Rattle.why.specs.Why.{Why}
use Rattle.why.specs.declared.Explainer.{Explainer}
use Rattle.why.specs.Asked.{explained_to, explainer_from, told}
use Rattle.teller.specs.declared.Hearing.{Hearing}
use Rattle.teller.specs.Told.{Told}
use Rattle.teller.specs.Run.{sent_of, denied_of, told_of, next_of, hearing_of, start_of}
use Rattle.teller.specs.Frames.{frame_in, frames_of}
use Rattle.teller.proofs.Steps.{told_no, told_ok}

abbrev hearing : Bool → Explainer → Hearing
hearing d e = record { downlink = d; explainer = e }

-- the run that lines leave is that of their frames
pub lines_run : (ls : List (List ℕ)) (d : Bool) (e : Explainer) (left : List ℕ)
    → (hearing_of (record { state = hearing d e; left = left }) ls).state ≡ hearing d (explainer_from e (frames_of d left ls))
unfolding hearing_of state_after next_beside next_of sent_of denied_of explainer_from explained_to frames_of frame_in
lines_run [] d e left = refl
lines_run (l ∷ ls) d e left =
    let b = block_of left in
    let rest = drop frame_bytes left in
    let after : Told → Hearing = λ (x : Told). (state_after (next_beside next_of) (record { state = x.next; left = rest }) ls).state in
    either (after (told_of (hearing d e) b l) ≡ hearing d (explainer_from e (frames_of d left (l ∷ ls)))) (eqb (decoded_of l).refusal 0)
    (λ t.
    let h = eqb-true (decoded_of l).refusal 0 t in
    ap after (told_ok (hearing d e) b l h)
    ∙ (lines_run ls d (explained_to e (frame_in d b l)).next rest ∙ ap (λ fs. hearing d (explainer_from e fs)) (sym (by_yes _ _ t))))
    (λ t.
    let h = eqb-false (decoded_of l).refusal 0 t in
    ap after (told_no (hearing d e) b l h) ∙ (lines_run ls d e rest ∙ ap (λ fs. hearing d (explainer_from e fs)) (sym (by_no _ _ t))))

-- a line after others, with the bytes `block` for it: what it is told is what is asked of its frame after theirs, or the number of its refusal
module _ (d : Bool) (samples : List ℕ) (ls : List (List ℕ)) (block l : List ℕ) where
  abbrev before : Hearing
  before = (hearing_of (record { state = start_of d; left = samples }) ls).state

  pub line_explained : (decoded_of l).refusal ≡ 0 → (told_of before block l).why ≡ (told (frames_of d samples ls) (frame_in d block l)).why
  unfolding sent_of explained_to frame_in
  line_explained h =
      ap (λ (x : Hearing). (told_of x block l).why) (lines_run ls d _ samples)
      ∙ ap (λ (x : Told). x.why) (told_ok (hearing d _) block l h)

  pub line_denied : ((decoded_of l).refusal ≡ 0 → ⊥) → (told_of before block l).why ≡ Why.Refused (decoded_of l).refusal
  unfolding denied_of
  line_denied h = ap (λ (x : Told). x.why) (told_no before block l h)
