-- What is asked of the explainer holds: over a run from reset it holds the detector's state, the number of accepted frames, and the latest of them
-- that completed a burst. Assumes nothing.
use mathlib.Core.Path.{◌≡◌, refl, sym, ap, ap₂, subst, ◌∙◌}
use mathlib.Core.Bool.{Bool, true, false}
use mathlib.Core.List.{List, [], ◌∷◌, ◌++◌, append_assoc, append-nil}
use mathlib.Core.Logic.{◌↔◌}
use Prim.Native.Nat.{ℕ, suc, ◌+◌, ◌<◌, ◌≤◌}
use native.Mathlib.Omega.{arith}
use borrow.Author.Tests.{eqb-true, eqb-false}
use lib.Dec.{eqb}
use lib.IntN.{ℤ, pos}
use lib.ListN.{length, length-append}
use lib.Signed.{le_z}
use Rattle.rows.specs.Choice.{IF◌THEN◌ELSE◌}
use Rattle.rows.proofs.Choice.{either}
use Rattle.hangover.specs.Bursts.{by_place, Latest}
use Rattle.hangover.proofs.Bursts.{hung_at, latest_at, latest_is, latest_next, latest_quiet, held_by, more_last, more_latest}
use Rattle.threshold.specs.declared.Way.{Way}
use Rattle.frames.specs.Frame.{Frame}
use Rattle.state.specs.declared.State.{State}
use Rattle.state.specs.Valid.{reset_of}
use Rattle.detector.specs.Answer.{Answer}
use Rattle.detector.specs.Step.{refused_of, tone_read}
use Rattle.detector.specs.Run.{answer_to, state_from, accepted_from, raws_of}
use Rattle.detector.proofs.Run.{Hangs, step_hangs, Counted, counted_start, flag_more, burst_more, counted_more, raws_length, raws_more, accepted_more, refused_more, as_given}
use Rattle.why.specs.declared.Flag.{Flag}
use Rattle.why.specs.declared.Reasons.{Reasons}
use Rattle.why.specs.Why.{Why}
use Rattle.why.specs.declared.Explainer.{Explainer}
use Rattle.why.specs.Explained.{Explained}
use Rattle.why.specs.Explain.{limit, start_of, flag_reason, latest_after, threshold_reason, accepted_of, denied_of, explained_for}
use Rattle.why.specs.Fits.{Fitting}
use Rattle.why.specs.Asked.{explained_to, explainer_from, explainer, count, answer, FittingAt, Explains, Denies, Asked}
use Rattle.why.proofs.Steps.{numbered_refused, numbered_beyond, numbered_within, explained_accepted, explained_denied}
use Rattle.why.proofs.Fits.{flag_fits, flag_only, way_fits, way_only}

-- ---- a flag that is explained by the hangover
abbrev Unheld : Flag → Type 0
Unheld Flag.Energy = Unit
Unheld (Flag.Hangover n) = ⊥
Unheld Flag.Quiet = Unit

is_hangover : (vvad vad : Bool) (l n : ℕ) → flag_reason vvad vad l ≡ Flag.Hangover n → (vvad ≡ false) × (vad ≡ true) × (l ≡ n)
unfolding flag_reason IF◌THEN◌ELSE◌
is_hangover true vad l n e = absurd (subst Unheld e tt)
is_hangover false false l n e = absurd (subst Unheld e tt)
is_hangover false true l n e = (refl, refl, ap of e)
  where
    of : Flag → ℕ
    of Flag.Energy = 0
    of (Flag.Hangover k) = k
    of Flag.Quiet = 0

-- ---- what a frame is answered: one that the detector accepts, one that has no number, and one that it refuses
-- the flag that 6.6 reads in a frame
abbrev heard : State → Frame → Bool
heard s f = tone_read f.direction s

module _ (e : Explainer) (f : Frame) where
  abbrev a : Answer
  a = answer_to e.state f

  to_accepted : a.refusal ≡ 0 → e.number < limit → explained_to e f ≡ accepted_of (heard e.state f) e a
  unfolding explained_to explained_for answer_to
  to_accepted h l =
      let n = numbered_within e a l in
      explained_accepted _ e a (ap (λ (r : Answer). r.refusal) n ∙ h) ∙ ap (accepted_of (heard e.state f) e) n

  to_beyond : a.refusal ≡ 0 → limit ≤ e.number → explained_to e f ≡ denied_of e (refused_of 7 e.state)
  unfolding explained_to explained_for answer_to refused_of
  to_beyond h l =
      let n = numbered_beyond e a h l in
      explained_denied _ e a (λ z. seven (sym (ap (λ (r : Answer). r.refusal) n) ∙ z)) ∙ ap (denied_of e) n
    where
      seven : ◌≡◌ {A = ℕ} 7 0 → ⊥
      seven q = omega arith

  to_refused : (a.refusal ≡ 0 → ⊥) → explained_to e f ≡ denied_of e a
  unfolding explained_to explained_for answer_to
  to_refused h =
      let n = numbered_refused e a h in
      explained_denied _ e a (λ z. h (sym (ap (λ (r : Answer). r.refusal) n) ∙ z)) ∙ ap (denied_of e) n

-- ---- a run: rs are the answers to the frames that were accepted
record Holding (rs : List Answer) (e : Explainer) : Type 0 where
  counted : Counted (raws_of rs) e.state
  number : e.number ≡ length (raws_of rs)
  latest : e.latest ≡ latest_at 3 (by_place (raws_of rs)) (length (raws_of rs))

-- an accepted frame more
module _ (rs : List Answer) (e : Explainer) (f : Frame) (h : Holding rs e) (ok : (answer_to e.state f).refusal ≡ 0) where
  abbrev r : Answer
  r = answer_to e.state f

  abbrev raws : List Bool
  raws = raws_of rs

  abbrev more : List Bool
  more = raws_of rs ++ (r.vvad ∷ [])

  abbrev now : ℕ
  now = latest_after r.next.burstcount (e.number + 1) e.latest

  hangs : Hangs e.state r
  hangs = step_hangs e.state f ok

  latest_by : now ≡ (IF le_z (pos 3) (hung_at 3 5 (by_place more) (suc (length raws))).burstcount THEN suc (length raws) ELSE latest_at 3 (by_place more) (length raws))
  unfolding latest_after
  latest_by =
      let n : e.number + 1 ≡ suc (length raws) = let k = h.number in omega arith in
      ap (λ (b : ℤ). IF le_z (pos 3) b THEN e.number + 1 ELSE e.latest) (burst_more raws e.state r h.counted hangs)
      ∙ ap₂ (λ (k l : ℕ). IF le_z (pos 3) (hung_at 3 5 (by_place more) (suc (length raws))).burstcount THEN k ELSE l) n (h.latest ∙ sym (more_latest raws r.vvad 3))

  latest_now : now ≡ latest_at 3 (by_place more) (suc (length raws))
  latest_now = latest_by ∙ sym (latest_next 3 5 (omega arith) (omega arith) (omega arith) (by_place more) (length raws))

  -- where the hangover holds the flag up there is one, at one of the five frames before
  held : r.vvad ≡ false → r.vad ≡ true → (0 < now) × (now < e.number + 1) × (e.number + 1 ≤ now + 5)
  held v w =
      let not_raw = more_last raws r.vvad ∙ v in
      let k = held_by 3 5 (omega arith) (omega arith) (omega arith) (by_place more) (length raws) not_raw (sym (flag_more raws e.state r h.counted hangs) ∙ w) in
      let l = latest_quiet 3 5 (omega arith) (omega arith) (omega arith) (by_place more) (length raws) not_raw in
      let m = (latest_is 3 (by_place more) (length raws)).among in
      let n = h.number in
      let q = latest_now in
      (omega arith, omega arith, omega arith)

  length_more : suc (length raws) ≡ length more
  length_more = let l = length-append raws (r.vvad ∷ []) in omega arith

  latest_so : Latest 3 (by_place (raws_of (rs ++ (r ∷ [])))) (length (raws_of (rs ++ (r ∷ [])))) now
  latest_so =
      subst (λ (l : List Bool). Latest 3 (by_place l) (length l) now) (sym (raws_more rs r))
      (subst (λ (n : ℕ). Latest 3 (by_place more) (length more) n) (sym (latest_now ∙ ap (latest_at 3 (by_place more)) length_more)) (latest_is 3 (by_place more) (length more)))

  holding_more : Holding (rs ++ (r ∷ [])) (accepted_of (heard e.state f) e r).next
  unfolding accepted_of
  holding_more =
      let n : e.number + 1 ≡ length more = let k = h.number in let l = length_more in omega arith in
      record {
        counted = subst (λ (l : List Bool). Counted l r.next) (sym (raws_more rs r)) (counted_more raws e.state r h.counted hangs);
        number = n ∙ ap length (sym (raws_more rs r));
        latest = latest_now ∙ (ap (latest_at 3 (by_place more)) length_more ∙ ap (λ (l : List Bool). latest_at 3 (by_place l) (length l)) (sym (raws_more rs r)));
      }

  -- the reasons that are answered
  abbrev made : ℕ → Flag → Way → Reasons
  made n f w = record { number = n; flag = f; threshold = w }

  abbrev reasons : Reasons
  reasons = record { number = e.number + 1; flag = flag_reason r.vvad r.vad now; threshold = threshold_reason (heard e.state f) e.state r.acf0 r.stat }

  numbered : e.number + 1 ≡ suc (length rs)
  numbered = let k = h.number in let l = raws_length rs in omega arith

  fitting : Fitting rs (heard e.state f) e.state r reasons
  fitting = record { number = numbered; flag = flag_fits (raws_of (rs ++ (r ∷ []))) r now latest_so (λ v w. (held v w).0); threshold = way_fits (heard e.state f) e.state r }

  fitting_only : (q : Reasons) → Fitting rs (heard e.state f) e.state r q → reasons ≡ q
  fitting_only q g =
      let n : e.number + 1 ≡ q.number = numbered ∙ sym g.number in
      let j = flag_only (raws_of (rs ++ (r ∷ []))) r now latest_so fitting.flag g.flag in
      let w = way_only (heard e.state f) e.state r fitting.threshold g.threshold in
      ap (λ (k : ℕ). made k reasons.flag reasons.threshold) n ∙ (ap (λ (k : Flag). made q.number k reasons.threshold) j ∙ ap (made q.number q.flag) w)

  -- a hangover that fits is this one
  fitting_near : (q : Reasons) (n : ℕ) → Fitting rs (heard e.state f) e.state r q → q.flag ≡ Flag.Hangover n → (n < q.number) × (q.number ≤ n + 5)
  fitting_near q n g e₁ =
      let s = fitting_only q g in
      let f = ap (λ (x : Reasons). x.flag) s ∙ e₁ in
      let k = ap (λ (x : Reasons). x.number) s in
      let h = is_hangover r.vvad r.vad now n f in
      let b = held h.0 h.1 in
      let c = h.2 in
      (omega arith, omega arith)

-- ---- frames one after the other
record Ran (rs : List Answer) (s : State) (e : Explainer) : Type 0 where
  holding : Holding rs e
  state : e.state ≡ s

same_run : {rs rs' : List Answer} {s s' : State} {e e' : Explainer} → rs ≡ rs' → s ≡ s' → e ≡ e' → Ran rs s e → Ran rs' s' e'
same_run {rs} {rs'} {s} {s'} {e} {e'} p q z r = subst (λ (x : Explainer). Ran rs' s' x) z (subst (λ (x : State). Ran rs' x e) q (subst (λ (x : List Answer). Ran x s e) p r))

runs : (fs : List Frame) (rs : List Answer) (e : Explainer) → Holding rs e → length rs + length (accepted_from e.state fs) ≤ limit
    → Ran (rs ++ accepted_from e.state fs) (state_from e.state fs) (explainer_from e fs)
unfolding state_from explainer_from accepted_of denied_of accepted_from
runs [] rs e h l = record { holding = subst (λ (q : List Answer). Holding q e) (sym (append-nil rs)) h; state = refl }
runs (f ∷ fs) rs e h l =
    let a = answer_to e.state f in
    either (Ran (rs ++ accepted_from e.state (f ∷ fs)) (state_from a.next fs) (explainer_from (explained_to e f).next fs)) (eqb a.refusal 0)
    (λ t.
    let ok = eqb-true a.refusal 0 t in
    let m = accepted_more e.state f fs ok in
    let n = ap length m in
    let k = length-append rs (a ∷ []) in
    let i = h.number in
    let j = raws_length rs in
    same_run
    (append_assoc rs (a ∷ []) (accepted_from a.next fs) ∙ ap (λ (x : List Answer). rs ++ x) (sym m))
    refl
    (ap (λ (x : Explained). explainer_from x.next fs) (sym (to_accepted e f ok (omega arith))))
    (runs fs (rs ++ (a ∷ [])) (accepted_of (heard e.state f) e a).next (holding_more rs e f h ok) (omega arith)))
    (λ t.
    let not_0 = eqb-false a.refusal 0 t in
    let g = as_given e.state f not_0 in
    let m = refused_more e.state f fs not_0 ∙ ap (λ (s : State). accepted_from s fs) g in
    let n = ap length m in
    same_run
    (ap (λ (x : List Answer). rs ++ x) (sym m))
    (ap (λ (s : State). state_from s fs) (sym g))
    (ap (λ (x : Explained). explainer_from x.next fs) (sym (to_refused e f not_0)))
    (runs fs rs e h (omega arith)))

-- from reset on
holding_start : Holding [] start_of
unfolding start_of raws_of latest_at
holding_start = record { counted = counted_start; number = refl; latest = refl }

ran : (before : List Frame) → count before ≤ limit → Ran (accepted_from reset_of before) (state_from reset_of before) (explainer before)
unfolding start_of
ran before l = runs before [] start_of holding_start (omega arith)

-- ---- what is asked
because : {r q : Reasons} → Why.Because r ≡ Why.Because q → r ≡ q
because {r} {q} e = ap of e
  where
    of : Why → Reasons
    of (Why.Refused n) = r
    of (Why.Because x) = x

-- over any explainer that holds the state and the answers of a run
module _ (rs : List Answer) (e : Explainer) (f : Frame) (h : Holding rs e) (ok : (answer_to e.state f).refusal ≡ 0) (l : length rs < limit) where
  is : explained_to e f ≡ accepted_of (heard e.state f) e (answer_to e.state f)
  is = let i = h.number in let j = raws_length rs in to_accepted e f ok (omega arith)

  own : (explained_to e f).answer ≡ answer_to e.state f
  unfolding accepted_of
  own = ap (λ (x : Explained). x.answer) is

  why : (explained_to e f).why ≡ Why.Because (reasons rs e f h ok)
  unfolding accepted_of
  why = ap (λ (x : Explained). x.why) is

  near : (r : Reasons) (n : ℕ) → Fitting rs (heard e.state f) e.state (answer_to e.state f) r → r.flag ≡ Flag.Hangover n → (n < r.number) × (r.number ≤ n + 5)
  near = fitting_near rs e f h ok

  exactly : (r : Reasons) → ((explained_to e f).why ≡ Why.Because r) ↔ Fitting rs (heard e.state f) e.state (answer_to e.state f) r
  exactly r = (
    λ w. subst (Fitting rs (heard e.state f) e.state (answer_to e.state f)) (because (sym why ∙ w)) (fitting rs e f h ok),
    λ g. why ∙ ap (λ (q : Reasons). Why.Because q) (fitting_only rs e f h ok r g),
  )

module _ (before : List Frame) (f : Frame) where
  abbrev e : Explainer
  e = explainer before

  abbrev Fit : Reasons → State → Type 0
  Fit r s = Fitting (accepted_from reset_of before) (heard s f) s (answer_to s f) r

  -- what the detector answers, by the explainer's state
  own_refusal : (s : State) → e.state ≡ s → (answer_to e.state f).refusal ≡ (answer_to s f).refusal
  own_refusal s z = ap (λ (x : State). (answer_to x f).refusal) z

  explains : (answer before f).refusal ≡ 0 → count before < limit → Explains before f
  explains ok l =
      let x = ran before (omega arith) in
      let z = x.state in
      let h = x.holding in
      let k = own_refusal _ z ∙ ok in
      let rs = accepted_from reset_of before in
      record {
        own = own rs e f h k l ∙ ap (λ (s : State). answer_to s f) z;
        some = (reasons rs e f h k, subst (Fit (reasons rs e f h k)) z (fitting rs e f h k));
        exactly = λ r. let g = exactly rs e f h k l r in (λ w. subst (Fit r) z (g.0 w), λ y. g.1 (subst (Fit r) (sym z) y));
        near = λ r n y. near rs e f h k l r n (subst (Fit r) (sym z) y);
      }

  beyond : (answer before f).refusal ≡ 0 → count before ≡ limit → Denies before f (refused_of 7 (state_from reset_of before))
  unfolding denied_of refused_of
  beyond ok l =
      let x = ran before (omega arith) in
      let z = x.state in
      let i = x.holding.number in
      let j = raws_length (accepted_from reset_of before) in
      let t = to_beyond e f (own_refusal _ z ∙ ok) (omega arith) in
      record {
        own = ap (λ (y : Explained). y.answer) t ∙ ap (refused_of 7) z;
        number = ap (λ (y : Explained). y.why) t;
        stays = ap (λ (y : Explained). y.next) t;
      }

  refused : ((answer before f).refusal ≡ 0 → ⊥) → count before ≤ limit → Denies before f (answer before f)
  unfolding denied_of
  refused not_0 l =
      let z = (ran before l).state in
      let t = to_refused e f (λ k. not_0 (sym (own_refusal _ z) ∙ k)) in
      record {
        own = ap (λ (y : Explained). y.answer) t ∙ ap (λ (s : State). answer_to s f) z;
        number = ap (λ (y : Explained). y.why) t ∙ ap (λ (n : ℕ). Why.Refused n) (own_refusal _ z);
        stays = ap (λ (y : Explained). y.next) t;
      }

  pub asked : Asked before f
  asked = record { accepted = explains; beyond = beyond; refused = refused }

-- so one and only one fits
pub one_fits : (before : List Frame) (f : Frame) → (answer before f).refusal ≡ 0 → count before < limit → (r q : Reasons) → FittingAt before f r → FittingAt before f q → r ≡ q
one_fits before f ok l r q x y = let e = (asked before f).accepted ok l in because (sym ((e.exactly r).1 x) ∙ (e.exactly q).1 y)

-- beyond the last number nothing changes, whatever comes
pub stays : (e : Explainer) (f : Frame) → limit ≤ e.number → (explained_to e f).next ≡ e
unfolding denied_of
stays e f l =
    either ((explained_to e f).next ≡ e) (eqb (answer_to e.state f).refusal 0)
    (λ t. ap (λ (y : Explained). y.next) (to_beyond e f (eqb-true _ 0 t) l))
    (λ t. ap (λ (y : Explained). y.next) (to_refused e f (eqb-false _ 0 t)))
