-- The hangover's sentence holds of every trace: its accepted answers are the detector's, to the frames of its lines. Assumes nothing.
use mathlib.Core.Path.{◌≡◌, refl, sym, ap, subst, ◌∙◌}
use mathlib.Core.Bool.{Bool}
use mathlib.Core.List.{List, [], ◌∷◌, map, map-map}
use Prim.Native.Nat.{ℕ, ◌<◌}
use native.Mathlib.Omega.{arith}
use borrow.Author.Tests.{eqb-true, eqb-false}
use lib.Dec.{eqb}
use lib.ListN.{length, length-map}
use Rattle.rows.proofs.Choice.{by_yes, by_no, by_test, either}
use Rattle.hangover.specs.Bursts.{by_place}
use Rattle.hangover.specs.Sentence.{Sentence}
use Rattle.counts.specs.declared.Reply.{Reply}
use Rattle.frames.specs.Frame.{Frame}
use Rattle.state.specs.declared.State.{State}
use Rattle.state.specs.Valid.{reset_of}
use Rattle.pieces.specs.Lines.{lines_of}
use Rattle.pieces.specs.Pieces.{flat}
use Rattle.lines.specs.Answers.{decoded_of}
use Rattle.lines.specs.Frames.{frame_in, frames_of}
use Rattle.lines.proofs.Answers.{accepted_formed}
use Rattle.lines.proofs.Whole.{formed_line}
use Rattle.lines.proofs.Frames.{frames_yes, frames_no}
use Rattle.detector.specs.Answer.{Answer}
use Rattle.detector.specs.Run.{answer_to, accepted_from, flags_of, raws_of}
use Rattle.detector.specs.Sentence as detector
use Rattle.detector.proofs.Run.{accepted_more, refused_more, as_given}
use Rattle.detector.proofs.Sentence.{hangover_sentence}
use Rattle.runner.specs.declared.Said.{Said}
use Rattle.runner.specs.Said.{said_of, stepped_of, denied_of}
use Rattle.runner.specs.Run.{next_of, reply_of, replies_from, replies_of}
use Rattle.runner.specs.Sentence.{replies_taken, accepted, vad, vvad, lines_taken, without_refused, TraceSentence}
use Rattle.runner.proofs.Steps.{said_no, said_ok}

-- ---- one line: its answer is the detector's to its frame, or a refusal that leaves the state
abbrev pub replied : Answer → Reply
replied r = (stepped_of r).reply

module _ (s : State) (l : List ℕ) where
  abbrev a : Answer
  a = answer_to s (frame_in l)

  said_frame : (decoded_of l).refusal ≡ 0 → said_of s l ≡ stepped_of a
  unfolding answer_to frame_in
  said_frame h = said_ok s l h

  -- a line that is accepted was read, and one that is not leaves the state
  read : (reply_of s l).refusal ≡ 0 → (decoded_of l).refusal ≡ 0
  unfolding reply_of denied_of
  read h =
      either ((decoded_of l).refusal ≡ 0) (eqb (decoded_of l).refusal 0)
      (λ t. eqb-true (decoded_of l).refusal 0 t)
      (λ t. sym (ap (λ (x : Said). x.reply.refusal) (said_no s l (eqb-false (decoded_of l).refusal 0 t))) ∙ h)

  left : ((reply_of s l).refusal ≡ 0 → ⊥) → next_of s l ≡ s
  unfolding reply_of next_of stepped_of denied_of
  left h =
      either (next_of s l ≡ s) (eqb (decoded_of l).refusal 0)
      (λ t.
      let e = said_frame (eqb-true (decoded_of l).refusal 0 t) in
      ap (λ (x : Said). x.next) e ∙ as_given s (frame_in l) (λ z. h (ap (λ (x : Said). x.reply.refusal) e ∙ z)))
      (λ t. ap (λ (x : Said). x.next) (said_no s l (eqb-false (decoded_of l).refusal 0 t)))

-- ---- the accepted answers of a trace are the detector's to the frames of its lines
-- one frame before others
front : (s : State) (f : Frame) (fs : List Frame) (rs : List Reply) → replies_taken rs ≡ map replied (accepted_from (answer_to s f).next fs)
    → replies_taken (replied (answer_to s f) ∷ rs) ≡ map replied (accepted_from s (f ∷ fs))
unfolding replies_taken stepped_of
front s f fs rs ih =
    by_test (λ (x : List Reply). x ≡ map replied (accepted_from s (f ∷ fs))) (eqb (answer_to s f).refusal 0) _ _
    (λ t. ap (λ (x : List Reply). replied (answer_to s f) ∷ x) ih ∙ ap (map replied) (sym (accepted_more s f fs (eqb-true _ 0 t))))
    (λ t. ih ∙ ap (map replied) (sym (refused_more s f fs (eqb-false _ 0 t))))

pub replies_frames : (ls : List (List ℕ)) (s : State) → replies_taken (replies_from s ls) ≡ map replied (accepted_from s (frames_of ls))
unfolding replies_taken replies_from frames_of accepted_from next_of reply_of stepped_of denied_of
replies_frames [] s = refl
replies_frames (l ∷ ls) s =
    either (replies_taken (replies_from s (l ∷ ls)) ≡ map replied (accepted_from s (frames_of (l ∷ ls)))) (eqb (decoded_of l).refusal 0)
    (λ t.
    let h = eqb-true (decoded_of l).refusal 0 t in
    ap (λ (x : Said). replies_taken (x.reply ∷ replies_from x.next ls)) (said_frame s l h)
    ∙ (front s (frame_in l) (frames_of ls) (replies_from (answer_to s (frame_in l)).next ls) (replies_frames ls (answer_to s (frame_in l)).next) ∙ ap (λ (fs : List Frame). map replied (accepted_from s fs)) (sym (frames_yes l ls h))))
    (λ t.
    let h = eqb-false (decoded_of l).refusal 0 t in
    ap (λ (x : Said). replies_taken (x.reply ∷ replies_from x.next ls)) (said_no s l h)
    ∙ (by_no ((denied_of (decoded_of l).refusal s).reply ∷ replies_taken (replies_from s ls)) _ t ∙ (replies_frames ls s ∙ ap (λ (fs : List Frame). map replied (accepted_from s fs)) (sym (frames_no l ls h)))))

-- ---- so the sentence holds of them
abbrev Says : List Reply → Type 0
Says rs = (i : ℕ) → i < length rs → Sentence (by_place (map (λ (r : Reply). r.vad) rs)) (by_place (map (λ (r : Reply). r.vvad) rs)) i

says : (frames : List Frame) → Says (map replied (detector.accepted frames))
unfolding detector.HangoverSentence detector.vad detector.vvad flags_of raws_of stepped_of
says frames i h =
    let rs = detector.accepted frames in
    subst (λ (q : List Bool). Sentence (by_place q) (by_place (map (λ (r : Reply). r.vvad) (map replied rs))) i) (sym (map-map (λ (r : Reply). r.vad) replied rs))
    (subst (λ (q : List Bool). Sentence (by_place (flags_of rs)) (by_place q) i) (sym (map-map (λ (r : Reply). r.vvad) replied rs))
    (hangover_sentence frames i (let n = length-map rs replied in omega arith)))

-- ---- and the trace of the accepted lines alone is answered as they are
taken_lines : (ls : List (List ℕ)) (s : State) → lines_of (flat (lines_taken s ls)) ≡ lines_taken s ls
unfolding lines_taken flat lines_of
taken_lines [] s = refl
taken_lines (l ∷ ls) s =
    by_test (λ (x : List (List ℕ)). lines_of (flat x) ≡ x) (eqb (reply_of s l).refusal 0) _ _
    (λ t. formed_line l _ (accepted_formed l (read s l (eqb-true _ 0 t))).0 ∙ ap (λ (x : List (List ℕ)). l ∷ x) (taken_lines ls (next_of s l)))
    (λ t. taken_lines ls (next_of s l))

taken_replies : (ls : List (List ℕ)) (s : State) → replies_from s (lines_taken s ls) ≡ replies_taken (replies_from s ls)
unfolding lines_taken replies_from replies_taken
taken_replies [] s = refl
taken_replies (l ∷ ls) s =
    let r = reply_of s l in
    let n = next_of s l in
    either (replies_from s (lines_taken s (l ∷ ls)) ≡ replies_taken (r ∷ replies_from n ls)) (eqb r.refusal 0)
    (λ t. ap (replies_from s) (by_yes (l ∷ lines_taken n ls) (lines_taken n ls) t) ∙ (ap (λ (x : List Reply). r ∷ x) (taken_replies ls n) ∙ sym (by_yes _ _ t)))
    (λ t.
    ap (replies_from s) (by_no (l ∷ lines_taken n ls) (lines_taken n ls) t)
    ∙ (ap (λ (z : State). replies_from z (lines_taken n ls)) (sym (left s l (eqb-false _ 0 t))) ∙ (taken_replies ls n ∙ sym (by_no _ _ t))))

pub trace_sentence : (input : List ℕ) → TraceSentence input
unfolding accepted vad vvad without_refused replies_of detector.accepted
trace_sentence input =
    let ls = lines_of input in
    record {
      sentence = subst Says (sym (replies_frames ls reset_of)) (says (frames_of ls));
      unmoved = ap (replies_from reset_of) (taken_lines ls reset_of) ∙ taken_replies ls reset_of;
    }
