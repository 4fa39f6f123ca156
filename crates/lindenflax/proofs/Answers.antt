-- What is lent to a step in either direction, case by case; then the number that the step answers and the runs that it leaves. Assumes nothing.
use mathlib.Core.Path.{◌≡◌, sym, ap, ◌∙◌}
use mathlib.Core.Bool.{Bool, true, false, ◌&&◌}
use mathlib.Core.List.{List, [], ◌∷◌}
use Prim.Native.Nat.{ℕ, ◌≤◌}
use native.Mathlib.Omega.{arith}
use lib.Dec.{eqb}
use borrow.Author.Tests.{eq-eqb, ne_eqb, eqb-true, eqb-false}
use lib.IntN.{ℤ}
use lib.ListN.{length}
use Rattle.rows.specs.Choice.{IF◌THEN◌ELSE◌}
use Rattle.rows.proofs.Choice.{both, and_left, and_right, either}
use Rattle.frames.specs.Frame.{Direction, samples_ok}
use Rattle.detector.specs.Answer.{Answer}
use Rattle.detector.specs.Step.{answer_for}
use Rattle.detector.proofs.Table.{accepted_0}
use Rattle.detector.proofs.Keeps.{next_pointers}
use Rattle.lindenflax.specs.Run.{run_of, state_of, narrow_of, answer_of, lengths_of, lent_number, step_number, run_after, answer_after, step_run, step_answer}

-- six numbers that are known
pub six : {a b c d e f p q r s t u : ℤ} → a ≡ p → b ≡ q → c ≡ r → d ≡ s → e ≡ t → f ≡ u
    → a ∷ b ∷ c ∷ d ∷ e ∷ f ∷ [] ≡ p ∷ q ∷ r ∷ s ∷ t ∷ u ∷ []
six e0 e1 e2 e3 e4 e5 = cc

-- ---- what is lent
module _ (acf : List ℤ) (lags : List ℕ) (run answer : List ℤ) where
  pub all_lengths : length acf ≡ 9 → length lags ≡ 4 → length run ≡ 85 → length answer ≡ 6 → lengths_of acf lags run answer ≡ true
  unfolding lengths_of
  all_lengths a b c d = both (eq-eqb (length acf) 9 a) (both (eq-eqb (length lags) 4 b) (both (eq-eqb (length run) 85 c) (eq-eqb (length answer) 6 d)))

  pub no_acf : (length acf ≡ 9 → ⊥) → lengths_of acf lags run answer ≡ false
  unfolding lengths_of
  no_acf h = rw (ne_eqb (length acf) 9 h)

  pub no_lags : length acf ≡ 9 → (length lags ≡ 4 → ⊥) → lengths_of acf lags run answer ≡ false
  unfolding lengths_of
  no_lags a h = rw (eq-eqb (length acf) 9 a, ne_eqb (length lags) 4 h)

  pub no_run : length acf ≡ 9 → length lags ≡ 4 → (length run ≡ 85 → ⊥) → lengths_of acf lags run answer ≡ false
  unfolding lengths_of
  no_run a b h = rw (eq-eqb (length acf) 9 a, eq-eqb (length lags) 4 b, ne_eqb (length run) 85 h)

  pub no_answer : length acf ≡ 9 → length lags ≡ 4 → length run ≡ 85 → (length answer ≡ 6 → ⊥) → lengths_of acf lags run answer ≡ false
  unfolding lengths_of
  no_answer a b c h = rw (eq-eqb (length acf) 9 a, eq-eqb (length lags) 4 b, eq-eqb (length run) 85 c, ne_eqb (length answer) 6 h)

  -- the two runs
  pub runs_long : lengths_of acf lags run answer ≡ true → (length run ≡ 85) × (length answer ≡ 6)
  unfolding lengths_of
  runs_long t =
      let a = eqb (length run) 85 && eqb (length answer) 6 in
      let b = eqb (length lags) 4 && a in
      let c = and_right (eqb (length lags) 4) a (and_right (eqb (length acf) 9) b t) in (
        eqb-true (length run) 85 (and_left (eqb (length run) 85) (eqb (length answer) 6) c),
        eqb-true (length answer) 6 (and_right (eqb (length run) 85) (eqb (length answer) 6) c),
      )

  module _ (samples : Bool) where
    abbrev number : ℕ
    number = lent_number samples acf lags run answer

    pub lent_1 : lengths_of acf lags run answer ≡ false → number ≡ 1
    unfolding lent_number IF◌THEN◌ELSE◌
    lent_1 t = rw t

    pub lent_8 : lengths_of acf lags run answer ≡ true → samples ≡ false → number ≡ 8
    unfolding lent_number IF◌THEN◌ELSE◌
    lent_8 t u = rw (t, u)

    pub lent_5 : lengths_of acf lags run answer ≡ true → samples ≡ true → narrow_of run ≡ false → number ≡ 5
    unfolding lent_number IF◌THEN◌ELSE◌
    lent_5 t u v = rw (t, u, v)

    pub lent_0 : lengths_of acf lags run answer ≡ true → samples ≡ true → narrow_of run ≡ true → number ≡ 0
    unfolding lent_number IF◌THEN◌ELSE◌
    lent_0 t u v = rw (t, u, v)

    -- 0 says that the lengths are right, that the samples are there, and that the numbers of the run fit
    pub lent_right : number ≡ 0 → (lengths_of acf lags run answer ≡ true) × (samples ≡ true) × (narrow_of run ≡ true)
    lent_right z =
        let Right = (lengths_of acf lags run answer ≡ true) × (samples ≡ true) × (narrow_of run ≡ true) in
        either Right (lengths_of acf lags run answer)
        (λ t.
        either Right samples
        (λ u. either Right (narrow_of run) (λ v. (t, u, v)) (λ v. absurd (let e = sym (lent_5 t u v) ∙ z in omega arith)))
        (λ u. absurd (let e = sym (lent_8 t u) ∙ z in omega arith)))
        (λ t. absurd (let e = sym (lent_1 t) ∙ z in omega arith))

-- ---- a step
module _ (d : Direction) (acf : List ℤ) (lags : List ℕ) (scale : ℤ) (run answer : List ℤ) where
  abbrev lent : ℕ
  lent = lent_number (samples_ok d) acf lags run answer

  abbrev given : Answer
  given = answer_for d acf lags scale (state_of run)

  -- the number n is answered, and r and w are left
  abbrev Left : ℕ → List ℤ → List ℤ → Type 0
  Left n r w = (n ≡ step_number d acf lags scale run answer) × ((r ≡ step_run d acf lags scale run answer) × (w ≡ step_answer d acf lags scale run answer))

  number_lent : (lent ≡ 0 → ⊥) → step_number d acf lags scale run answer ≡ lent
  unfolding step_number IF◌THEN◌ELSE◌
  number_lent h = rw (ne_eqb lent 0 h)

  number_given : lent ≡ 0 → step_number d acf lags scale run answer ≡ given.refusal
  unfolding step_number IF◌THEN◌ELSE◌
  number_given e = rw (eq-eqb lent 0 e)

  -- where what is lent is refused
  pub refused : {n : ℕ} → n ≡ lent → (n ≡ 0 → ⊥) → Left n run answer
  unfolding step_run step_answer run_after answer_after IF◌THEN◌ELSE◌
  refused e h =
      let m = number_lent (λ z. h (e ∙ z)) in
      let t = ne_eqb (step_number d acf lags scale run answer) 0 (λ z. h (e ∙ (sym m ∙ z))) in
      (e ∙ sym m, (rw t, rw t))

  -- and where it is not: the number of the detector's answer, and the runs after it
  pub stepped : lent ≡ 0 → {a : Answer} → a ≡ given → {n : ℕ} {r w : List ℤ} → n ≡ a.refusal → r ≡ run_after a.refusal a run → w ≡ answer_after a.refusal a answer → Left n r w
  unfolding step_run step_answer
  stepped z e p q t = rw (number_given z, sym e) (p, (q, t))

  -- what is needed to take the state, and to store the answer
  pub readable : lent ≡ 0 → (length run ≡ 85) × (narrow_of run ≡ true)
  readable z = let h = lent_right acf lags run answer (samples_ok d) z in ((runs_long acf lags run answer h.0).0, h.2)

  pub storable : lent ≡ 0 → {a : Answer} → a ≡ given → (length run ≡ 85) × (length answer ≡ 6) × (a.refusal ≡ 0 → (a.next.ptsacf ≤ 27) × (a.next.ptsav0 ≤ 27))
  storable z {a} e =
      let l = runs_long acf lags run answer (lent_right acf lags run answer (samples_ok d) z).0 in (
        l.0,
        l.1,
        λ n.
            let p = next_pointers d acf lags scale (state_of run) (accepted_0 d acf lags scale (state_of run) (ap (λ (x : Answer). x.refusal) (sym e) ∙ n)) in
            rw e (omega (arith, p.0.within), p.1.within),
      )

  -- ---- number 0
  -- nothing that is lent is refused, nor the frame
  pub none_lent : step_number d acf lags scale run answer ≡ 0 → lent ≡ 0
  none_lent z = either (lent ≡ 0) (eqb lent 0) (eqb-true lent 0) (λ t. sym (number_lent (eqb-false lent 0 t)) ∙ z)

  pub none_given : step_number d acf lags scale run answer ≡ 0 → given.refusal ≡ 0
  none_given z = sym (number_given (none_lent z)) ∙ z

  pub done_run : step_number d acf lags scale run answer ≡ 0 → step_run d acf lags scale run answer ≡ run_of given.next
  unfolding step_run run_after IF◌THEN◌ELSE◌
  done_run e = rw (eq-eqb (step_number d acf lags scale run answer) 0 e)

  pub done_answer : step_number d acf lags scale run answer ≡ 0 → step_answer d acf lags scale run answer ≡ answer_of given
  unfolding step_answer answer_after IF◌THEN◌ELSE◌
  done_answer e = rw (eq-eqb (step_number d acf lags scale run answer) 0 e)
