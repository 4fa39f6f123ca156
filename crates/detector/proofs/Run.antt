-- Frames one after the other from reset: flag and counts of an accepted frame are 6.8 of its raw flag, so the counts that a run leaves are those of
-- 6.8 over its raw flags. What an accepted frame keeps holds after any frames, as a refused one changes nothing. Assumes nothing.
use mathlib.Core.Path.{◌≡◌, refl, sym, ap, ap₂, subst, ◌∙◌}
use mathlib.Core.Bool.{Bool}
use mathlib.Core.List.{List, [], ◌∷◌, ◌++◌, append_assoc, append-nil, map-append}
use Prim.Native.Nat.{ℕ, suc, ◌+◌}
use native.Mathlib.Omega.{arith}
use borrow.Author.Tests.{eq-eqb, ne_eqb, eqb-true, eqb-false}
use lib.Dec.{eqb}
use lib.IntN.{ℤ}
use lib.ListN.{length, length-append, length-map}
use Rattle.rows.proofs.Choice.{by_yes, by_no, either}
use Rattle.hangover.specs.declared.Hung.{Hung}
use Rattle.hangover.specs.Hangover.{hangover_of}
use Rattle.hangover.specs.Bursts.{by_place}
use Rattle.hangover.proofs.Bursts.{hung_at, flag_at, with_is, more_hung}
use Rattle.frames.specs.Frame.{Frame}
use Rattle.state.specs.declared.State.{State}
use Rattle.state.specs.Valid.{reset_of}
use Rattle.detector.specs.Answer.{Answer}
use Rattle.detector.specs.Step.{accepted_of}
use Rattle.detector.specs.Run.{answer_to, state_from, accepted_from, flags_of, raws_of}
use Rattle.detector.proofs.Table.{accepted_0, accepted_number, step_accepted, refused_answer}

-- ---- an accepted frame
pub record Hangs (s : State) (r : Answer) : Type 0 where
  pub flag : r.vad ≡ (hangover_of r.vvad s.burstcount s.hangcount).vad
  pub burst : r.next.burstcount ≡ (hangover_of r.vvad s.burstcount s.hangcount).burstcount
  pub hang : r.next.hangcount ≡ (hangover_of r.vvad s.burstcount s.hangcount).hangcount

accepted_hangs : (tone found : Bool) (l_acf : List ℤ) (lags : List ℕ) (scalvad : ℤ) (s : State) → Hangs s (accepted_of tone found l_acf lags scalvad s)
unfolding accepted_of
accepted_hangs tone found l_acf lags scalvad s = record { flag = refl; burst = refl; hang = refl }

pub step_hangs : (s : State) (f : Frame) → (answer_to s f).refusal ≡ 0 → Hangs s (answer_to s f)
unfolding answer_to
step_hangs s f e =
    subst (Hangs s) (sym (step_accepted f.direction f.l_acf f.lags f.scalvad s (accepted_0 f.direction f.l_acf f.lags f.scalvad s e))) (accepted_hangs _ _ f.l_acf f.lags f.scalvad s)

-- ---- the counts of a state are those of 6.8 over the raw flags of the frames before it
pub record Counted (raws : List Bool) (s : State) : Type 0 where
  pub burst : s.burstcount ≡ (hung_at 3 5 (by_place raws) (length raws)).burstcount
  pub hang : s.hangcount ≡ (hung_at 3 5 (by_place raws) (length raws)).hangcount

pub counted_start : Counted [] reset_of
unfolding reset_of hung_at
counted_start = record { burst = refl; hang = refl }

-- an accepted frame more
module _ (raws : List Bool) (s : State) (r : Answer) (c : Counted raws s) (h : Hangs s r) where
  abbrev more : List Bool
  more = raws ++ (r.vvad ∷ [])

  hung_more : hangover_of r.vvad s.burstcount s.hangcount ≡ hung_at 3 5 (by_place more) (suc (length raws))
  hung_more = ap₂ (hangover_of r.vvad) c.burst c.hang ∙ sym (more_hung raws r.vvad 3 5 ∙ with_is r.vvad _ _)

  pub flag_more : r.vad ≡ flag_at 3 5 (by_place more) (length raws)
  unfolding flag_at
  flag_more = h.flag ∙ ap (λ (x : Hung). x.vad) hung_more

  pub burst_more : r.next.burstcount ≡ (hung_at 3 5 (by_place more) (suc (length raws))).burstcount
  burst_more = h.burst ∙ ap (λ (x : Hung). x.burstcount) hung_more

  pub counted_more : Counted more r.next
  counted_more =
      let n : suc (length raws) ≡ length more = sym (length-append raws (r.vvad ∷ []) ∙ (let e : length raws + 1 ≡ suc (length raws) = omega arith in e)) in
      record {
        burst = burst_more ∙ ap (λ (i : ℕ). (hung_at 3 5 (by_place more) i).burstcount) n;
        hang = h.hang ∙ (ap (λ (x : Hung). x.hangcount) hung_more ∙ ap (λ (i : ℕ). (hung_at 3 5 (by_place more) i).hangcount) n);
      }

-- ---- the flags of answers
pub raws_length : (rs : List Answer) → length (raws_of rs) ≡ length rs
unfolding raws_of
raws_length rs = length-map rs (λ (r : Answer). r.vvad)

pub flags_length : (rs : List Answer) → length (flags_of rs) ≡ length rs
unfolding flags_of
flags_length rs = length-map rs (λ (r : Answer). r.vad)

pub raws_more : (rs : List Answer) (r : Answer) → raws_of (rs ++ (r ∷ [])) ≡ raws_of rs ++ (r.vvad ∷ [])
unfolding raws_of
raws_more rs r = map-append (λ (x : Answer). x.vvad) rs (r ∷ [])

pub flags_more : (rs : List Answer) (r : Answer) → flags_of (rs ++ (r ∷ [])) ≡ flags_of rs ++ (r.vad ∷ [])
unfolding flags_of
flags_more rs r = map-append (λ (x : Answer). x.vad) rs (r ∷ [])

-- ---- a frame more at the front
module _ (s : State) (f : Frame) (fs : List Frame) where
  abbrev a : Answer
  a = answer_to s f

  pub accepted_more : a.refusal ≡ 0 → accepted_from s (f ∷ fs) ≡ a ∷ accepted_from a.next fs
  unfolding accepted_from
  accepted_more h = by_yes _ _ (eq-eqb a.refusal 0 h)

  pub refused_more : (a.refusal ≡ 0 → ⊥) → accepted_from s (f ∷ fs) ≡ accepted_from a.next fs
  unfolding accepted_from
  refused_more h = by_no _ _ (ne_eqb a.refusal 0 h)

-- what is refused leaves the state
pub as_given : (s : State) (f : Frame) → ((answer_to s f).refusal ≡ 0 → ⊥) → (answer_to s f).next ≡ s
unfolding answer_to
as_given s f h = (refused_answer f.direction f.l_acf f.lags f.scalvad s (λ z. h (accepted_number f.direction f.l_acf f.lags f.scalvad s z))).as_given

-- ---- what each accepted frame keeps, of the answers so far and the state, holds after any frames
module _ (P : List Answer → State → Type 0) (next : (rs : List Answer) (s : State) (f : Frame) → P rs s → (answer_to s f).refusal ≡ 0 → P (rs ++ (answer_to s f ∷ [])) (answer_to s f).next) where
  pub kept : (fs : List Frame) (rs : List Answer) (s : State) → P rs s → P (rs ++ accepted_from s fs) (state_from s fs)
  unfolding state_from accepted_from
  kept [] rs s p = subst (λ (q : List Answer). P q s) (sym (append-nil rs)) p
  kept (f ∷ fs) rs s p =
      let a = answer_to s f in
      either (P (rs ++ accepted_from s (f ∷ fs)) (state_from a.next fs)) (eqb a.refusal 0)
      (λ t.
      let ok = eqb-true a.refusal 0 t in
      subst (λ (q : List Answer). P q (state_from a.next fs))
      (append_assoc rs (a ∷ []) (accepted_from a.next fs) ∙ ap (λ (x : List Answer). rs ++ x) (sym (accepted_more s f fs ok)))
      (kept fs (rs ++ (a ∷ [])) a.next (next rs s f p ok)))
      (λ t.
      let not_0 = eqb-false a.refusal 0 t in
      subst (λ (q : List Answer). P q (state_from a.next fs))
      (ap (λ (x : List Answer). rs ++ x) (sym (refused_more s f fs not_0)))
      (kept fs rs a.next (subst (P rs) (sym (as_given s f not_0)) p)))
