-- One line on a bank of 64: what is read of it and what is made of its channel's state are together its answer and the bank for the next. And what the
-- proof of `hear` cites. Assumes nothing.
use mathlib.Core.Path.{◌≡◌, refl, sym, ap, subst, ◌∙◌}
use mathlib.Core.Bool.{Bool, true, false, not}
use mathlib.Core.List.{List, [], ◌∷◌}
use Prim.Native.Nat.{ℕ, zero, suc, ◌<◌}
use native.Mathlib.Omega.{arith}
use borrow.Author.Tests.{ne_eqb}
use lib.Dec.{T as Holds}
use lib.ListN.{length, drop, get_or, set}
use lib.Seq.{set-get_or}
use Rattle.std.specs.Prelude.{Ok, Err}
use Rattle.refusals.specs.Refusal.{number_of}
use Rattle.refusals.specs.declared.Refusal.{Refusal}
use Rattle.refusals.proofs.Laws.{number_digit}
use Rattle.rows.specs.Choice.{IF◌THEN◌ELSE◌}
use Rattle.rows.proofs.Choice.{by_test, by_yes, by_no, either}
use Rattle.lines.specs.Answers.{Decoded, parsed_of, accepted_of}
use Rattle.lines.specs.Line.{frame_of}
use Rattle.lines.proofs.Answers.{parsed_formed}
use Rattle.state.specs.declared.State.{State}
use Rattle.state.specs.Valid.{reset_of}
use Rattle.detector.specs.Run.{answer_to}
use Rattle.pieces.specs.Lines.{plain_of}
use Rattle.runner.specs.declared.Said.{Said}
use Rattle.runner.specs.Said.{stepped_of, denied_of, text_of}
use Rattle.card.specs.Card.{Order, call, reset, channel_of, in_bank, called_of, number_only, answer_of, bank_after}
use Rattle.card.proofs.Orders.{answer_out, bank_out, call_answer, call_bank, reset_answer, reset_bank}
use Rattle.card.proofs.Shared.{inside}
use Rattle.exchange.specs.declared.Named as code
use Rattle.exchange.specs.declared.Order as order
use Rattle.exchange.specs.declared.Order.TheVariants.{Call, Reset}
use Rattle.exchange.specs.Line.{channel_in, calls_of, orderly, frame_at, order_in}
use Rattle.exchange.specs.Run.{channels, replied_of, malformed, reply_of, next_of, write_of}
use Rattle.exchange.specs.Named.{Named, none_of, found_of, named_of, asked_in, read_in, said_of}
use Rattle.exchange.proofs.Form.{cut_malformed}

-- ---- a malformed line
module _ (bank : List State) (l : List ℕ) (t : orderly l ≡ false) where
  pub malformed_reply : reply_of bank l ≡ malformed
  unfolding reply_of
  malformed_reply = by_no _ _ t

  pub malformed_next : next_of bank l ≡ bank
  unfolding next_of
  malformed_next = by_no _ _ t

-- ---- a well-formed line, by its order
pub order_channel : (l : List ℕ) → channel_of (order_in l) ≡ channel_in l
unfolding order_in channel_of
order_channel l = by_test (λ (o : Order). channel_of o ≡ channel_in l) (calls_of l) _ _ (λ t. refl) (λ t. refl)

pub order_call : (l : List ℕ) → calls_of l ≡ true → order_in l ≡ call (channel_in l) (frame_at (drop 2 l))
unfolding order_in
order_call l t = by_yes _ _ t

pub order_reset : (l : List ℕ) → calls_of l ≡ false → order_in l ≡ reset (channel_in l)
unfolding order_in
order_reset l t = by_no _ _ t

module _ (bank : List State) (l : List ℕ) (o : Order) (t : orderly l ≡ true) (e : order_in l ≡ o) where
  pub reply_by : reply_of bank l ≡ replied_of (answer_of bank o)
  unfolding reply_of
  reply_by = by_yes _ _ t ∙ ap (λ (p : Order). replied_of (answer_of bank p)) e

  pub next_by : next_of bank l ≡ bank_after bank o
  unfolding next_of
  next_by = by_yes _ _ t ∙ ap (bank_after bank) e

-- a line that the end of the input cuts
pub cut_text : (bank : List State) (l : List ℕ) → plain_of l ≡ length l → write_of bank l ≡ text_of malformed
unfolding write_of
cut_text bank l p = ap text_of (malformed_reply bank l (cut_malformed l p))

-- ---- the channel that is named is one of the 64
pub named_in : (l : List ℕ) → (named_of l).channel < 64
unfolding named_of found_of none_of
named_in l =
    by_test (λ (n : Named). n.channel < 64) (orderly l) _ _
    (λ t. by_test (λ (n : Named). n.channel < 64) (in_bank channels (channel_in l)) _ _ (λ u. inside 64 (channel_in l) (subst Holds (sym u) tt)) (λ u. omega arith))
    (λ t. omega arith)

-- inside a list it does not matter what stands for past its end
pub any_default : {A : Type 0} (l : List A) (i : ℕ) (d e : A) → i < length l → get_or l i d ≡ get_or l i e
any_default [] i d e h = absurd (omega arith)
any_default (x ∷ l) zero d e h = refl
any_default (x ∷ l) (suc i) d e h = any_default l i d e (omega arith)

-- ---- the two steps of a line
-- what is said of the state of channel i, and stored there
pub record Steps (bank : List State) (l : List ℕ) (n : Named) : Type 0 where
  pub reply : (said_of (get_or bank n.channel reset_of) n).reply ≡ reply_of bank l
  pub next : set bank n.channel (said_of (get_or bank n.channel reset_of) n).next ≡ next_of bank l

malformed_is : (bank : List State) (l : List ℕ) → orderly l ≡ false → reply_of bank l ≡ replied_of (number_only 6)
unfolding malformed replied_of number_only
malformed_is bank l t = malformed_reply bank l t

-- ---- a line that names no channel of the bank leaves every state as it was
none_said : (k : ℕ) (s : State) → (k ≡ 0 → ⊥) → said_of s (none_of k) ≡ denied_of k s
unfolding said_of none_of IF◌THEN◌ELSE◌
none_said k s h = rw (ne_eqb k 0 h)

none_steps : (bank : List State) (l : List ℕ) (k : ℕ) → (k ≡ 0 → ⊥) → reply_of bank l ≡ replied_of (number_only k) → next_of bank l ≡ bank → Steps bank l (none_of k)
unfolding none_of denied_of replied_of number_only
none_steps bank l k h r b =
    let e = none_said k (get_or bank 0 reset_of) h in
    record { reply = ap (λ (x : Said). x.reply) e ∙ sym r; next = ap (λ (x : Said). set bank 0 x.next) e ∙ (set-get_or bank 0 reset_of ∙ sym b) }

module _ (bank : List State) (l : List ℕ) (size : length bank ≡ channels) where
  abbrev c : ℕ
  c = channel_in l

  in_bank_lem : (b : Bool) → in_bank channels c ≡ b → in_bank (length bank) c ≡ b
  in_bank_lem b u = ap (λ (n : ℕ). in_bank n c) size ∙ u

  outside : orderly l ≡ true → in_bank channels c ≡ false → Steps bank l (none_of 9)
  outside t u =
      let h = ap (in_bank (length bank)) (order_channel l) ∙ in_bank_lem false u in
      none_steps bank l 9 (λ z. omega arith)
      (reply_by bank l (order_in l) t refl ∙ ap replied_of (answer_out bank (order_in l) h))
      (next_by bank l (order_in l) t refl ∙ bank_out bank (order_in l) h)

  -- a call: its numbers are the frame's
  abbrev named : Bool → Decoded → Named
  named r d = record { refusal = 0; resets = r; channel = c; acf = d.acf; lags = d.lags; scale = d.scale }

  call_steps : orderly l ≡ true → in_bank channels c ≡ true → calls_of l ≡ true → Steps bank l (named false (accepted_of (frame_of (drop 2 l))))
  unfolding said_of stepped_of IF◌THEN◌ELSE◌ accepted_of replied_of called_of answer_to frame_at
  call_steps t u v =
      let o = order_call l v in
      let h = in_bank_lem true u in
      record {
        reply = sym (reply_by bank l (call c (frame_at (drop 2 l))) t o ∙ ap replied_of (call_answer bank c (frame_at (drop 2 l)) h));
        next = sym (next_by bank l (call c (frame_at (drop 2 l))) t o ∙ call_bank bank c (frame_at (drop 2 l)) h);
      }

  reset_steps : (d : Decoded) → orderly l ≡ true → in_bank channels c ≡ true → calls_of l ≡ false → Steps bank l (named true d)
  unfolding said_of denied_of IF◌THEN◌ELSE◌ replied_of number_only
  reset_steps d t u v =
      let o = order_reset l v in
      let h = in_bank_lem true u in
      record {
        reply = sym (reply_by bank l (reset c) t o ∙ ap replied_of (reset_answer bank c h));
        next = sym (next_by bank l (reset c) t o ∙ reset_bank bank c h);
      }

  pub line_steps : Steps bank l (named_of l)
  unfolding named_of found_of calls_of
  line_steps =
      by_test (Steps bank l) (orderly l) _ _
      (λ t.
      by_test (Steps bank l) (in_bank channels c) _ _
      (λ u.
      either (Steps bank l (named (not (calls_of l)) (parsed_of (drop 2 l)))) (calls_of l)
      (λ v. subst (λ (d : Decoded). Steps bank l (named (not (calls_of l)) d)) (sym (parsed_formed (drop 2 l) v)) (subst (λ (b : Bool). Steps bank l (named (not b) (accepted_of (frame_of (drop 2 l))))) (sym v) (call_steps t u v)))
      (λ v. subst (λ (b : Bool). Steps bank l (named (not b) (parsed_of (drop 2 l)))) (sym v) (reset_steps (parsed_of (drop 2 l)) t u v)))
      (outside t))
      (λ t. none_steps bank l 6 (λ z. omega arith) (malformed_is bank l t) (malformed_next bank l t))

-- ---- the two steps, by what code reads
asked_channel : (c : ℕ) (o : order.Order) → (asked_in c o).channel ≡ c
unfolding asked_in
asked_channel c (Call f) = refl
asked_channel c Reset = refl

pub asked_named : (n : code.Named) → (read_in (Ok n)).channel ≡ n.channel
unfolding read_in
asked_named n = asked_channel n.channel n.order

pub refused_steps : (bank : List State) (l : List ℕ) → length bank ≡ channels → (e : Refusal) → read_in (Err e) ≡ named_of l
    → (record { refusal = number_of e; vad = false; vvad = false } ≡ reply_of bank l) × (bank ≡ next_of bank l)
unfolding read_in none_of denied_of
refused_steps bank l size e p =
    let s = subst (Steps bank l) (sym p) (line_steps bank l size) in
    let q = none_said (number_of e) (get_or bank 0 reset_of) (λ z. let d = number_digit e in omega arith) in
    (sym (ap (λ (x : Said). x.reply) q) ∙ s.reply, sym (set-get_or bank 0 reset_of) ∙ (sym (ap (λ (x : Said). set bank 0 x.next) q) ∙ s.next))
