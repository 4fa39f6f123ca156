-- A card does what is asked of it, in `specs/Asked.antt`. Assumes nothing.
use mathlib.Core.Path.{◌≡◌, refl, sym, ap, ap₂, subst, ◌∙◌}
use mathlib.Core.Logic.{◌≢◌}
use mathlib.Core.Bool.{Bool, true, false}
use mathlib.Core.List.{List}
use Prim.Native.Nat.{ℕ, ◌<◌}
use native.Mathlib.Omega.{arith}
use borrow.Author.Tests.{eqb-true, eqb-false}
use lib.Dec.{eqb}
use lib.IntN.{ℤ}
use lib.ListN.{length, set}
use lib.Seq.{set_comm}
use Rattle.rows.specs.Choice.{IF◌THEN◌ELSE◌}
use Rattle.rows.proofs.Choice.{either}
use Rattle.frames.specs.Frame.{Frame, lengths_ok, samples_ok, scale_ok, acf_ok, lags_ok, frame_refusal_of}
use Rattle.state.specs.declared.State.{State}
use Rattle.state.specs.Valid.{valid_of, reset_of}
use Rattle.detector.specs.Refusal.{refusal_of}
use Rattle.detector.specs.Run.{answer_to, state_from}
use Rattle.detector.proofs.Table.{refused_answer, accepted_number}
use Rattle.card.specs.Called.{Called}
use Rattle.card.specs.Card.{Order, call, reset, channel_of, in_bank, state_at, called_of, number_only, next_for, said_for, answer_of, bank_after}
use Rattle.card.specs.History.{all_reset, bank_from, heard}
use Rattle.card.specs.Asked.{OneOrder, TwoOrders, OnChannel, Asked}
use Rattle.card.proofs.Orders.{answer_in, answer_out}
use Rattle.card.proofs.Histories.{size, others, refused, stepped, sizes, heard_state, own, reset_size, reset_state}

-- ---- the number 9 is the card's own
refusal_below : (samples : Bool) (l_acf : List ℤ) (lags : List ℕ) (scalvad : ℤ) (s : State) → refusal_of samples l_acf lags scalvad s < 9
unfolding refusal_of frame_refusal_of IF◌THEN◌ELSE◌
refusal_below samples l_acf lags scalvad s = go (lengths_ok l_acf lags) samples (valid_of s) (scale_ok scalvad) (acf_ok l_acf) (lags_ok lags)
  where
    go : (a b c d e f : Bool) → (IF a THEN IF b THEN IF c THEN IF d THEN IF e THEN IF f THEN 0 ELSE 4 ELSE 3 ELSE 2 ELSE 5 ELSE 8 ELSE 1) < 9
    go false b c d e f = omega arith
    go true false c d e f = omega arith
    go true true false d e f = omega arith
    go true true true false e f = omega arith
    go true true true true false f = omega arith
    go true true true true true false = omega arith
    go true true true true true true = omega arith

step_below : (s : State) (f : Frame) → (answer_to s f).refusal < 9
unfolding answer_to
step_below s f =
    let number = refusal_of (samples_ok f.direction) f.l_acf f.lags f.scalvad s in
    let h = refusal_below (samples_ok f.direction) f.l_acf f.lags f.scalvad s in
    either ((answer_to s f).refusal < 9) (eqb number 0)
    (λ t. let e = accepted_number f.direction f.l_acf f.lags f.scalvad s (eqb-true number 0 t) in omega arith)
    (λ t. let e = (refused_answer f.direction f.l_acf f.lags f.scalvad s (eqb-false number 0 t)).numbered in omega arith)

said_below : (o : Order) (s : State) → (said_for o s).refusal < 9
unfolding said_for called_of number_only
said_below (call i f) s = step_below s f
said_below (reset i) s = omega arith

-- ---- what is refused on a channel has its number and no more
said_only : (o : Order) (s : State) → (said_for o s).refusal ≢ 0 → said_for o s ≡ number_only (said_for o s).refusal
unfolding said_for called_of number_only answer_to
said_only (call i f) s h =
    let r = refused_answer f.direction f.l_acf f.lags f.scalvad s (λ z. h (accepted_number f.direction f.l_acf f.lags f.scalvad s z)) in
    rw (r.no_flag.0, r.no_flag.1, r.no_stat, r.no_energy.0, r.no_energy.1)
said_only (reset i) s h = absurd (h refl)

-- ---- one order
module _ (bank : List State) (o : Order) where
  abbrev inside : Bool
  inside = in_bank (length bank) (channel_of o)

  nine_only : (answer_of bank o).refusal ≡ 9 → inside ≡ false
  nine_only e =
      either (inside ≡ false) inside
      (λ t. let h = said_below o (state_at bank (channel_of o)) in let d = ap (λ (a : Called). a.refusal) (answer_in bank o t) in absurd (omega arith))
      (λ t. t)

  silent : (answer_of bank o).refusal ≢ 0 → answer_of bank o ≡ number_only (answer_of bank o).refusal
  unfolding number_only
  silent h =
      either (answer_of bank o ≡ number_only (answer_of bank o).refusal) inside
      (λ t.
      let e = answer_in bank o t in
      subst (λ (a : Called). a ≡ number_only a.refusal) (sym e) (said_only o (state_at bank (channel_of o)) (λ z. h (ap (λ (a : Called). a.refusal) e ∙ z))))
      (λ t. subst (λ (a : Called). a ≡ number_only a.refusal) (sym (answer_out bank o t)) refl)

  pub one_order : OneOrder bank o
  one_order = record { nine = answer_out bank o; nine_only = nine_only; silent = silent; refused = refused bank o; others = others bank o; size = size bank o }

-- ---- two orders on different channels
module _ (bank : List State) (o p : Order) (h : channel_of o ≢ channel_of p) where
  -- an order goes by the bank's size and its channel's state, and another leaves both
  after_answer : answer_of (bank_after bank o) p ≡ answer_of bank p
  unfolding answer_of
  after_answer =
      ap₂ (λ (n : ℕ) (s : State). IF in_bank n (channel_of p) THEN said_for p s ELSE number_only 9) (size bank o) (others bank o (channel_of p) (λ e. h (sym e)))

  -- the bank after both, by what each makes of its channel's first state
  abbrev put : Bool → Order → List State → List State
  put t q b = IF t THEN set b (channel_of q) (next_for q (state_at bank (channel_of q))) ELSE b

  after_bank : bank_after (bank_after bank o) p ≡ put (in_bank (length bank) (channel_of p)) p (put (in_bank (length bank) (channel_of o)) o bank)
  unfolding bank_after
  after_bank =
      ap₂ (λ (n : ℕ) (s : State). IF in_bank n (channel_of p) THEN set (bank_after bank o) (channel_of p) (next_for p s) ELSE bank_after bank o) (size bank o) (others bank o (channel_of p) (λ e. h (sym e)))

  puts_alike : (t u : Bool) → put u p (put t o bank) ≡ put t o (put u p bank)
  unfolding IF◌THEN◌ELSE◌
  puts_alike true true = set_comm bank (channel_of o) (channel_of p) _ _ h
  puts_alike true false = refl
  puts_alike false true = refl
  puts_alike false false = refl

pub two_orders : (bank : List State) (o p : Order) → channel_of o ≢ channel_of p → TwoOrders bank o p
two_orders bank o p h =
    let k : channel_of p ≢ channel_of o = λ e. h (sym e) in
    record {
      bank_alike = after_bank bank o p h ∙ (puts_alike bank o p h (in_bank (length bank) (channel_of o)) (in_bank (length bank) (channel_of p)) ∙ sym (after_bank bank p o k));
      first_alike = after_answer bank p o k;
      second_alike = after_answer bank o p h;
    }

-- ---- a channel of the bank
pub on_channel : (bank : List State) (i : ℕ) → in_bank (length bank) i ≡ true → OnChannel bank i
unfolding channel_of said_for next_for
on_channel bank i t =
    record {
      answers = λ f. answer_in bank (call i f) t;
      steps = λ f. stepped bank (call i f) t;
      reset_answers = answer_in bank (reset i) t;
      restarts = stepped bank (reset i) t;
    }

-- ---- whole histories
alone : (bank : List State) (i : ℕ) (os : List Order) (f : Frame) → in_bank (length bank) i ≡ true → state_at bank i ≡ reset_of
    → answer_of (bank_from bank os) (call i f) ≡ called_of (answer_to (state_from reset_of (heard bank i os)) f)
alone bank i os f t h =
    (on_channel (bank_from bank os) i (ap (λ (k : ℕ). in_bank k i) (sizes bank os) ∙ t)).answers f
    ∙ ap (λ (s : State). called_of (answer_to s f)) (heard_state bank i os t h)

module _ (n i : ℕ) (f : Frame) where
  abbrev said : List Order → Called
  said os = answer_of (bank_from (all_reset n) os) (call i f)

  in_it : (t : Bool) → in_bank n i ≡ t → in_bank (length (all_reset n)) i ≡ t
  in_it t e = ap (λ (k : ℕ). in_bank k i) (reset_size n) ∙ e

  not_in : (os : List Order) → in_bank n i ≡ false → said os ≡ number_only 9
  unfolding channel_of
  not_in os t = answer_out (bank_from (all_reset n) os) (call i f) (ap (λ (k : ℕ). in_bank k i) (sizes (all_reset n) os) ∙ in_it false t)

  only : (os os' : List Order) → heard (all_reset n) i os ≡ heard (all_reset n) i os' → said os ≡ said os'
  only os os' e =
      either (said os ≡ said os') (in_bank n i)
      (λ t.
      let a : (ps : List Order) → said ps ≡ called_of (answer_to (state_from reset_of (heard (all_reset n) i ps)) f) = λ ps. alone (all_reset n) i ps f (in_it true t) (reset_state n i t) in
      a os ∙ (ap (λ (fs : List Frame). called_of (answer_to (state_from reset_of fs) f)) e ∙ sym (a os')))
      (λ t. not_in os t ∙ sym (not_in os' t))

pub asked : Asked
asked = record { one = one_order; two = two_orders; on = on_channel; alone = alone; own = own; only = λ n i os os' f. only n i f os os' }
