-- The tone flag in the two directions, as specs/Directions.antt says it. Assumes nothing.
use mathlib.Core.Path.{◌≡◌, refl, sym, ap, subst, ◌∙◌}
use mathlib.Core.Bool.{Bool, true, false, not, ◌||◌}
use mathlib.Core.List.{List, [], ◌∷◌}
use mathlib.Core.Logic.{◌⊎◌, inl, inr}
use Prim.Native.Nat.{ℕ}
use borrow.Author.Tests.{eq-eqb, eqb-true, eqb-false}
use lib.Dec.{eqb}
use lib.IntN.{ℤ}
use lib.ListN.{length}
use Rattle.rows.specs.Choice.{IF◌THEN◌ELSE◌}
use Rattle.rows.proofs.Choice.{by_yes, by_test, either}
use Rattle.pairs.specs.declared.Pair.{Pair}
use Rattle.pairs.specs.Pairs.{greater_of}
use Rattle.tone.specs.Tone.{tone_of}
use Rattle.threshold.specs.Threshold.{PTH, PLEV, adapt_of}
use Rattle.threshold.specs.declared.Kept.{Kept}
use Rattle.frames.specs.Frame.{Direction, up, down, samples_ok}
use Rattle.state.specs.declared.State.{State}
use Rattle.state.specs.Valid.{counts_ok, valid_of}
use Rattle.detector.specs.Answer.{Answer}
use Rattle.detector.specs.Refusal.{refusal_of}
use Rattle.detector.specs.Step.{spectral_of, accepted_of, refused_of, tone_read, tone_kept, answer_for, step_of}
use Rattle.detector.specs.Run.{answer_to}
use Rattle.detector.specs.Directions.{toned, uplinked, AllToneless, answers_from, TonelessRun, FlagNotRead, Alike, SamplesLater, Unlearned, NothingLearned}
use Rattle.detector.proofs.Table.{step_accepted, refused_answer, accepted_0, accepted_number}

-- ---- no tone: the flag that is read and the one that is kept are false, as on the uplink
read_false : (d : Direction) (s : State) → s.tone ≡ false → tone_read d s ≡ false
unfolding tone_read
read_false up s e = refl
read_false (down sof) s e = e

module _ (l_acf : List ℤ) (lags : List ℕ) (scalvad : ℤ) (s : State) where
  -- the answer, from what a direction says of the samples and of the flags
  abbrev by_flags : Bool → Bool → Bool → Answer
  by_flags samples tone found =
      let number = refusal_of samples l_acf lags scalvad s in
      IF eqb number 0 THEN accepted_of tone found l_acf lags scalvad s ELSE refused_of number s

  answer_is : (d : Direction) → answer_for d l_acf lags scalvad s ≡ by_flags (samples_ok d) (tone_read d s) (tone_kept d)
  unfolding answer_for
  answer_is d = refl

  up_is : by_flags true false false ≡ step_of l_acf lags scalvad s
  unfolding answer_for samples_ok tone_read tone_kept
  up_is = refl

  pub no_tone : (d : Direction) → s.tone ≡ false → samples_ok d ≡ true → tone_kept d ≡ false → answer_for d l_acf lags scalvad s ≡ step_of l_acf lags scalvad s
  no_tone d was full none = answer_is d ∙ (rw (full, read_false d s was, none) up_is)

-- an uplink step leaves false where it found false
still_false : (l_acf : List ℤ) (lags : List ℕ) (scalvad : ℤ) (s : State) → s.tone ≡ false → (step_of l_acf lags scalvad s).next.tone ≡ false
unfolding answer_for samples_ok tone_read tone_kept accepted_of refused_of
still_false l_acf lags scalvad s e = by_test (λ (r : Answer). r.next.tone ≡ false) (eqb (refusal_of true l_acf lags scalvad s) 0) _ _ (λ t. refl) (λ t. e)

pub toneless_run : TonelessRun
unfolding answers_from AllToneless uplinked answer_to
toneless_run s [] was all = refl
toneless_run s (f ∷ fs) was (now, all) =
    let e = no_tone f.l_acf f.lags f.scalvad s f.direction was now.0 now.1 in
    rw e (ap (λ (rs : List Answer). step_of f.l_acf f.lags f.scalvad s ∷ rs)
    (toneless_run (step_of f.l_acf f.lags f.scalvad s).next fs (still_false f.l_acf f.lags f.scalvad s was) all))

-- ---- the uplink
module _ (l_acf : List ℤ) (lags : List ℕ) (scalvad : ℤ) (s : State) (b : Bool) where
  number_toned : refusal_of true l_acf lags scalvad (toned b s) ≡ refusal_of true l_acf lags scalvad s
  unfolding refusal_of valid_of counts_ok toned
  number_toned = refl

  accepted_same : accepted_of false false l_acf lags scalvad (toned b s) ≡ accepted_of false false l_acf lags scalvad s
  unfolding accepted_of spectral_of toned
  accepted_same = refl

  abbrev n : ℕ
  n = refusal_of true l_acf lags scalvad s

  -- an uplink answer has the number of the table
  pub up_number : (t : State) → (step_of l_acf lags scalvad t).refusal ≡ refusal_of true l_acf lags scalvad t
  unfolding samples_ok
  up_number t =
      let m = refusal_of true l_acf lags scalvad t in
      either ((step_of l_acf lags scalvad t).refusal ≡ m) (eqb m 0)
      (λ h. let z = eqb-true m 0 h in accepted_number up l_acf lags scalvad t z ∙ sym z)
      (λ h. (refused_answer up l_acf lags scalvad t (eqb-false m 0 h)).numbered)

  same_answer : n ≡ 0 → step_of l_acf lags scalvad (toned b s) ≡ step_of l_acf lags scalvad s
  unfolding samples_ok tone_read tone_kept
  same_answer z = step_accepted up l_acf lags scalvad (toned b s) (number_toned ∙ z) ∙ accepted_same ∙ sym (step_accepted up l_acf lags scalvad s z)

  stored : n ≡ 0 → (step_of l_acf lags scalvad s).next.tone ≡ false
  unfolding samples_ok tone_read tone_kept accepted_of
  stored z = ap (λ (r : Answer). r.next.tone) (step_accepted up l_acf lags scalvad s z)

pub not_read : FlagNotRead
not_read l_acf lags scalvad s b =
    let n = up_number l_acf lags scalvad s b s in
    record {
      number = up_number l_acf lags scalvad s b (toned b s) ∙ number_toned l_acf lags scalvad s b ∙ sym n;
      answer = λ e. same_answer l_acf lags scalvad s b (sym n ∙ e);
      stores = λ e. stored l_acf lags scalvad s b (sym n ∙ e);
    }

-- ---- the samples of this frame
module _ (l_acf : List ℤ) (lags : List ℕ) (scalvad : ℤ) (s : State) where
  by_found : (samples tone found other : Bool) → Alike (by_flags l_acf lags scalvad s samples tone found) (by_flags l_acf lags scalvad s samples tone other)
  unfolding accepted_of toned IF◌THEN◌ELSE◌
  by_found samples tone found other =
      let n = refusal_of samples l_acf lags scalvad s in
      either (Alike (by_flags l_acf lags scalvad s samples tone found) (by_flags l_acf lags scalvad s samples tone other)) (eqb n 0)
      (λ t. rw t (record { refusal = refl; vad = refl; vvad = refl; stat = refl; acf0 = refl; pvad = refl; next = refl }))
      (λ t. rw t (record { refusal = refl; vad = refl; vvad = refl; stat = refl; acf0 = refl; pvad = refl; next = refl }))

full : (sof : List ℤ) → length sof ≡ 160 → samples_ok (down sof) ≡ true
unfolding samples_ok
full sof h = eq-eqb (length sof) 160 h

found_kept : (d : Direction) (l_acf : List ℤ) (lags : List ℕ) (scalvad : ℤ) (s : State) → (answer_for d l_acf lags scalvad s).refusal ≡ 0 → (answer_for d l_acf lags scalvad s).next.tone ≡ tone_kept d
unfolding accepted_of
found_kept d l_acf lags scalvad s e = ap (λ (r : Answer). r.next.tone) (step_accepted d l_acf lags scalvad s (accepted_0 d l_acf lags scalvad s e))

pub samples_later : SamplesLater
unfolding tone_kept tone_read
samples_later l_acf lags scalvad sof s h =
    record {
      kept = found_kept (down sof) l_acf lags scalvad s;
      alike =
          λ other k.
          let a = answer_is l_acf lags scalvad s (down sof) ∙ ap (λ (x : Bool). by_flags l_acf lags scalvad s x s.tone (tone_of sof)) (full sof h) in
          let b = answer_is l_acf lags scalvad s (down other) ∙ ap (λ (x : Bool). by_flags l_acf lags scalvad s x s.tone (tone_of other)) (full other k) in
          rw (a, b) (by_found l_acf lags scalvad s true s.tone (tone_of sof) (tone_of other));
    }

-- ---- a frame after one with a tone
abbrev UnlearnedBy : Kept → Kept → Type 0
UnlearnedBy k q = (q.rvad ≡ k.rvad) × (q.normrvad ≡ k.normrvad) × ((q.thvad ≡ k.thvad) ⊎ (q.thvad ≡ PLEV))

any_or : (ptch stat : Bool) → ptch || (not stat || true) ≡ true
any_or true stat = refl
any_or false true = refl
any_or false false = refl

adapt_toned : (acf0 pvad : Pair) (ptch stat : Bool) (rav1 : List ℤ) (normrav1 : ℤ) (k : Kept) → UnlearnedBy k (adapt_of acf0 pvad ptch stat true rav1 normrav1 k)
unfolding adapt_of
adapt_toned acf0 pvad ptch stat rav1 normrav1 k =
    by_test (UnlearnedBy k) (greater_of PTH acf0) _ _ (λ t. (refl, refl, inr refl))
    (λ t. subst (UnlearnedBy k) (sym (by_yes _ _ (any_or ptch stat))) (refl, refl, inl refl))

accepted_toned : (found : Bool) (l_acf : List ℤ) (lags : List ℕ) (scalvad : ℤ) (s : State) → Unlearned s (accepted_of true found l_acf lags scalvad s)
unfolding accepted_of
accepted_toned found l_acf lags scalvad s = let u = adapt_toned _ _ _ _ _ _ _ in record { rvad = u.0; normrvad = u.1; thvad = u.2 }

pub nothing_learned : NothingLearned
unfolding tone_read
nothing_learned l_acf lags scalvad sof s was e =
    let a = step_accepted (down sof) l_acf lags scalvad s (accepted_0 (down sof) l_acf lags scalvad s e) in
    subst (Unlearned s) (sym (a ∙ ap (λ (b : Bool). accepted_of b (tone_kept (down sof)) l_acf lags scalvad s) was)) (accepted_toned (tone_kept (down sof)) l_acf lags scalvad s)
