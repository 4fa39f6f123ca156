-- Orders one after the other: the bank keeps its size, the state of a channel is what its own accepted frames since its own last reset leave, and which
-- these are goes by the orders on that channel alone. Assumes nothing.
use mathlib.Core.Path.{◌≡◌, refl, sym, ap, ap₂, subst, ◌∙◌}
use mathlib.Core.Logic.{◌≢◌}
use mathlib.Core.Bool.{true, false, ◌&&◌}
use mathlib.Core.List.{List, [], ◌∷◌, ◌++◌}
use Prim.Native.Nat.{ℕ}
use borrow.Author.Tests.{eqb-true, eqb-false}
use lib.Dec.{T as Holds, eqb}
use lib.ListN.{length, set, length-set, get_or-replicate, length-replicate}
use lib.Seq.{get_or-set_same, get_or-set_other, set-get_or}
use Rattle.rows.specs.Choice.{IF◌THEN◌ELSE◌}
use Rattle.rows.proofs.Choice.{by_test, by_yes, by_no, either, and_left}
use Rattle.frames.specs.Frame.{Frame}
use Rattle.state.specs.declared.State.{State}
use Rattle.state.specs.Valid.{reset_of}
use Rattle.detector.specs.Run.{answer_to, state_from}
use Rattle.detector.proofs.Run.{as_given}
use Rattle.card.specs.Called.{Called}
use Rattle.card.specs.Card.{Order, call, reset, channel_of, in_bank, state_at, called_of, number_only, next_for, said_for, answer_of, bank_after}
use Rattle.card.specs.History.{all_reset, bank_from, heard_from, heard, orders_on}
use Rattle.card.proofs.Orders.{answer_in, bank_in, bank_out}
use Rattle.card.proofs.Shared.{inside}

-- ---- one order
said_given : (o : Order) (s : State) → (said_for o s).refusal ≢ 0 → next_for o s ≡ s
unfolding said_for called_of number_only next_for
said_given (call i f) s h = as_given s f h
said_given (reset i) s h = absurd (h refl)

module _ (bank : List State) (o : Order) where
  pub size : length (bank_after bank o) ≡ length bank
  unfolding bank_after
  size = by_test (λ (b : List State). length b ≡ length bank) (in_bank (length bank) (channel_of o)) _ _ (λ _. length-set bank (channel_of o) _) (λ _. refl)

  pub others : (i : ℕ) → i ≢ channel_of o → state_at (bank_after bank o) i ≡ state_at bank i
  unfolding bank_after state_at
  others i h = by_test (λ (b : List State). state_at b i ≡ state_at bank i) (in_bank (length bank) (channel_of o)) _ _ (λ _. get_or-set_other bank (channel_of o) i _ reset_of h) (λ _. refl)

  pub stepped : in_bank (length bank) (channel_of o) ≡ true → state_at (bank_after bank o) (channel_of o) ≡ next_for o (state_at bank (channel_of o))
  unfolding state_at
  stepped t =
      ap (λ (b : List State). state_at b (channel_of o)) (bank_in bank o t)
      ∙ get_or-set_same bank (channel_of o) _ reset_of (inside (length bank) (channel_of o) (subst Holds (sym t) tt))

  -- what is refused leaves every state as it was
  pub refused : (answer_of bank o).refusal ≢ 0 → bank_after bank o ≡ bank
  unfolding state_at
  refused h =
      either (bank_after bank o ≡ bank) (in_bank (length bank) (channel_of o))
      (λ t.
      bank_in bank o t
      ∙ (ap (set bank (channel_of o)) (said_given o (state_at bank (channel_of o)) (λ e. h (ap (λ (a : Called). a.refusal) (answer_in bank o t) ∙ e)))
      ∙ set-get_or bank (channel_of o) reset_of))
      (bank_out bank o)

-- ---- orders one after the other
pub sizes : (bank : List State) (os : List Order) → length (bank_from bank os) ≡ length bank
unfolding bank_from
sizes bank [] = refl
sizes bank (o ∷ os) = sizes (bank_after bank o) os ∙ size bank o

-- a frame more
state_more : (s : State) (fs : List Frame) (f : Frame) → state_from s (fs ++ (f ∷ [])) ≡ (answer_to (state_from s fs) f).next
unfolding state_from
state_more s [] f = refl
state_more s (g ∷ fs) f = state_more (answer_to s g).next fs f

-- channel i, which is in the bank, where fs are its frames so far
module _ (i : ℕ) where
  On : List State → List Frame → Type 0
  On bank fs = state_at bank i ≡ state_from reset_of fs

  on_call : (bank : List State) (fs : List Frame) (j : ℕ) (f : Frame) → in_bank (length bank) i ≡ true → On bank fs → j ≡ i → On (bank_after bank (call j f)) (fs ++ (f ∷ []))
  unfolding On channel_of next_for
  on_call bank fs j f t h e =
      ap (λ (k : ℕ). state_at (bank_after bank (call k f)) i) e
      ∙ (stepped bank (call i f) t ∙ (ap (λ (s : State). (answer_to s f).next) h ∙ sym (state_more reset_of fs f)))

  on_reset : (bank : List State) (j : ℕ) → in_bank (length bank) i ≡ true → j ≡ i → On (bank_after bank (reset j)) []
  unfolding On channel_of next_for state_from
  on_reset bank j t e = ap (λ (k : ℕ). state_at (bank_after bank (reset k)) i) e ∙ stepped bank (reset i) t

  on_other : (bank : List State) (fs : List Frame) (o : Order) → On bank fs → (channel_of o ≡ i → ⊥) → On (bank_after bank o) fs
  unfolding On
  on_other bank fs o h n = others bank o i (λ e. n (sym e)) ∙ h

  pub on_all : (os : List Order) (bank : List State) (fs : List Frame) → in_bank (length bank) i ≡ true → state_at bank i ≡ state_from reset_of fs → state_at (bank_from bank os) i ≡ state_from reset_of (heard_from bank i fs os)
  unfolding bank_from heard_from On channel_of
  on_all [] bank fs t h = h
  on_all (call j f ∷ os) bank fs t h =
      let o = call j f in
      let a = (answer_of bank o).refusal in
      on_all os (bank_after bank o) _ (ap (λ (n : ℕ). in_bank n i) (size bank o) ∙ t)
      (by_test (On (bank_after bank o)) (eqb j i && eqb a 0) _ _
      (λ e. on_call bank fs j f t h (eqb-true j i (and_left (eqb j i) (eqb a 0) e)))
      (λ e.
      either (On (bank_after bank o) fs) (eqb j i)
      (λ y. ap (λ (b : List State). state_at b i) (refused bank o (eqb-false a 0 (rw y at e))) ∙ h)
      (λ y. on_other bank fs o h (eqb-false j i y))))
  on_all (reset j ∷ os) bank fs t h =
      on_all os (bank_after bank (reset j)) _ (ap (λ (n : ℕ). in_bank n i) (size bank (reset j)) ∙ t)
      (by_test (On (bank_after bank (reset j))) (eqb j i) _ _ (λ e. on_reset bank j t (eqb-true j i e)) (λ e. on_other bank fs (reset j) h (eqb-false j i e)))

-- ---- two banks of one size with one state on channel i: orders there do the same to both, and others nothing
module _ (i : ℕ) where
  record Like (a b : List State) : Type 0 where
    long : length a ≡ length b
    same : state_at a i ≡ state_at b i

  like_answer : (a b : List State) (f : Frame) → Like a b → answer_of a (call i f) ≡ answer_of b (call i f)
  unfolding answer_of channel_of
  like_answer a b f k = ap₂ (λ (n : ℕ) (s : State). IF in_bank n i THEN said_for (call i f) s ELSE number_only 9) k.long k.same

  -- the state there, by the test of the bank
  state_by : (bank : List State) (o : Order) → channel_of o ≡ i → state_at (bank_after bank o) i ≡ (IF in_bank (length bank) i THEN next_for o (state_at bank i) ELSE state_at bank i)
  state_by bank o e =
      either (state_at (bank_after bank o) i ≡ (IF in_bank (length bank) i THEN next_for o (state_at bank i) ELSE state_at bank i)) (in_bank (length bank) i)
      (λ t.
      subst (λ (j : ℕ). state_at (bank_after bank o) j ≡ next_for o (state_at bank j)) e (stepped bank o (subst (λ (j : ℕ). in_bank (length bank) j ≡ true) (sym e) t))
      ∙ sym (by_yes _ _ t))
      (λ t. ap (λ (b : List State). state_at b i) (bank_out bank o (subst (λ (j : ℕ). in_bank (length bank) j ≡ false) (sym e) t)) ∙ sym (by_no _ _ t))

  like_next : (a b : List State) (o : Order) → channel_of o ≡ i → Like a b → Like (bank_after a o) (bank_after b o)
  like_next a b o e k =
      record {
        long = size a o ∙ (k.long ∙ sym (size b o));
        same = state_by a o e ∙ (ap₂ (λ (n : ℕ) (s : State). IF in_bank n i THEN next_for o s ELSE s) k.long k.same ∙ sym (state_by b o e));
      }

  like_other : (a b : List State) (o : Order) → (channel_of o ≡ i → ⊥) → Like a b → Like (bank_after a o) b
  like_other a b o n k = record { long = size a o ∙ k.long; same = others a o i (λ e. n (sym e)) ∙ k.same }

  own_from : (os : List Order) (a b : List State) (fs : List Frame) → Like a b → heard_from a i fs os ≡ heard_from b i fs (orders_on i os)
  unfolding heard_from orders_on channel_of
  own_from [] a b fs k = refl
  own_from (call j f ∷ os) a b fs k =
      let o = call j f in
      either (heard_from a i fs (o ∷ os) ≡ heard_from b i fs (orders_on i (o ∷ os))) (eqb j i)
      (λ e.
      let c = eqb-true j i e in
      let r = subst (λ (n : ℕ). answer_of a (call n f) ≡ answer_of b (call n f)) (sym c) (like_answer a b f k) in
      own_from os (bank_after a o) (bank_after b o) _ (like_next a b o c k)
      ∙ (ap (λ (x : Called). heard_from (bank_after b o) i (IF eqb j i && eqb x.refusal 0 THEN fs ++ (f ∷ []) ELSE fs) (orders_on i os)) r
      ∙ ap (heard_from b i fs) (sym (by_yes (o ∷ orders_on i os) (orders_on i os) e))))
      (λ e.
      let n : (eqb j i && eqb (answer_of a o).refusal 0) ≡ false = rw e in
      ap (λ (gs : List Frame). heard_from (bank_after a o) i gs os) (by_no _ _ n)
      ∙ (own_from os (bank_after a o) b fs (like_other a b o (eqb-false j i e) k)
      ∙ ap (heard_from b i fs) (sym (by_no (o ∷ orders_on i os) (orders_on i os) e))))
  own_from (reset j ∷ os) a b fs k =
      let o = reset j in
      either (heard_from a i fs (o ∷ os) ≡ heard_from b i fs (orders_on i (o ∷ os))) (eqb j i)
      (λ e.
      own_from os (bank_after a o) (bank_after b o) _ (like_next a b o (eqb-true j i e) k)
      ∙ ap (heard_from b i fs) (sym (by_yes (o ∷ orders_on i os) (orders_on i os) e)))
      (λ e.
      ap (λ (gs : List Frame). heard_from (bank_after a o) i gs os) (by_no _ _ e)
      ∙ (own_from os (bank_after a o) b fs (like_other a b o (eqb-false j i e) k)
      ∙ ap (heard_from b i fs) (sym (by_no (o ∷ orders_on i os) (orders_on i os) e))))

-- ---- a channel that is as after a reset; in a bank that was all reset each of them is
pub heard_state : (bank : List State) (i : ℕ) (os : List Order) → in_bank (length bank) i ≡ true → state_at bank i ≡ reset_of → state_at (bank_from bank os) i ≡ state_from reset_of (heard bank i os)
unfolding heard state_from
heard_state bank i os t h = on_all i os bank [] t h

pub own : (bank : List State) (i : ℕ) (os : List Order) → heard bank i os ≡ heard bank i (orders_on i os)
unfolding heard
own bank i os = own_from i os bank bank [] (record { long = refl; same = refl })

pub reset_size : (n : ℕ) → length (all_reset n) ≡ n
unfolding all_reset
reset_size n = length-replicate n reset_of

pub reset_state : (n i : ℕ) → in_bank n i ≡ true → state_at (all_reset n) i ≡ reset_of
unfolding all_reset state_at
reset_state n i t = get_or-replicate n i reset_of reset_of (inside n i (subst Holds (sym t) tt))
