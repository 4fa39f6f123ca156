-- The hangover's sentence holds of every run from reset: the flags that are answered are those of 6.8 over the raw flags that are. Assumes nothing.
use mathlib.Core.Path.{◌≡◌, sym, ap, subst, ◌∙◌}
use mathlib.Core.Bool.{Bool}
use mathlib.Core.List.{List, [], ◌∷◌, ◌++◌}
use Prim.Native.Nat.{ℕ, ◌<◌}
use native.Mathlib.Omega.{arith}
use borrow.Author.Tests.{ltb-true, ltb-false}
use lib.Dec.{ltb}
use lib.ListN.{length, length-append}
use Rattle.rows.proofs.Choice.{either}
use Rattle.hangover.specs.Bursts.{by_place}
use Rattle.hangover.proofs.Bursts.{flag_at, more_last, more_before, more_flag}
use Rattle.hangover.proofs.Sentence.{spoken}
use Rattle.frames.specs.Frame.{Frame}
use Rattle.state.specs.declared.State.{State}
use Rattle.state.specs.Valid.{reset_of}
use Rattle.detector.specs.Answer.{Answer}
use Rattle.detector.specs.Run.{answer_to, flags_of, raws_of}
use Rattle.detector.specs.Sentence.{accepted, vad, vvad, HangoverSentence}
use Rattle.detector.proofs.Run.{step_hangs, Counted, counted_start, flag_more, counted_more, raws_length, flags_length, raws_more, flags_more, kept}

-- the flags so far are those of 6.8, and so are the counts that go on
record Flagged (rs : List Answer) (s : State) : Type 0 where
  counted : Counted (raws_of rs) s
  each : (i : ℕ) → i < length rs → by_place (flags_of rs) i ≡ flag_at 3 5 (by_place (raws_of rs)) i

start : Flagged [] reset_of
unfolding raws_of
start = record { counted = counted_start; each = λ i h. absurd (omega arith) }

-- an accepted frame more: those before it stay as they are, and it has its own
module _ (rs : List Answer) (s : State) (f : Frame) (p : Flagged rs s) (ok : (answer_to s f).refusal ≡ 0) where
  abbrev r : Answer
  r = answer_to s f

  abbrev raws : List Bool
  raws = raws_of rs ++ (r.vvad ∷ [])

  flag_old : (i : ℕ) → i < length rs → by_place (flags_of rs ++ (r.vad ∷ [])) i ≡ flag_at 3 5 (by_place raws) i
  flag_old i h =
      let n = raws_length rs in
      let m = flags_length rs in
      more_before (flags_of rs) r.vad i (omega arith) ∙ (p.each i h ∙ sym (more_flag (raws_of rs) r.vvad 3 5 i (omega arith)))

  flag_new : (i : ℕ) → i ≡ length rs → by_place (flags_of rs ++ (r.vad ∷ [])) i ≡ flag_at 3 5 (by_place raws) i
  flag_new i e =
      ap (by_place (flags_of rs ++ (r.vad ∷ []))) (e ∙ sym (flags_length rs))
      ∙ (more_last (flags_of rs) r.vad ∙ (flag_more (raws_of rs) s r p.counted (step_hangs s f ok) ∙ ap (flag_at 3 5 (by_place raws)) (raws_length rs ∙ sym e)))

  flag_all : (i : ℕ) → i < length (rs ++ (r ∷ [])) → by_place (flags_of rs ++ (r.vad ∷ [])) i ≡ flag_at 3 5 (by_place raws) i
  flag_all i h =
      let n = length-append rs (r ∷ []) in
      either (by_place (flags_of rs ++ (r.vad ∷ [])) i ≡ flag_at 3 5 (by_place raws) i) (ltb i (length rs))
      (λ t. flag_old i (ltb-true i (length rs) t))
      (λ t. let k = ltb-false i (length rs) t in flag_new i (omega arith))

  next : Flagged (rs ++ (r ∷ [])) r.next
  next = record {
    counted = subst (λ (l : List Bool). Counted l r.next) (sym (raws_more rs r)) (counted_more (raws_of rs) s r p.counted (step_hangs s f ok));
    each = λ i h. ap (λ (l : List Bool). by_place l i) (flags_more rs r) ∙ (flag_all i h ∙ ap (λ (l : List Bool). flag_at 3 5 (by_place l) i) (sym (raws_more rs r)));
  }

pub hangover_sentence : HangoverSentence
unfolding HangoverSentence accepted vad vvad
hangover_sentence frames i h = spoken (vad frames) (vvad frames) i ((kept Flagged next frames [] reset_of start).each i h)
