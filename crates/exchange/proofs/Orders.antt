-- A card's run does what is asked of it, in `specs/Orders.antt`. Assumes nothing.
use mathlib.Core.Path.{◌≡◌, refl, sym, ap, subst, ◌∙◌}
use mathlib.Core.Bool.{true, false, ◌&&◌}
use mathlib.Core.List.{List, [], ◌∷◌, ◌++◌}
use Prim.Native.Nat.{ℕ, ◌*◌, ◌<◌, ◌≤◌}
use native.Mathlib.Omega.{arith}
use borrow.Author.Tests.{eqb-true, eqb-false, lt-ltb, le-ltb, ltb-true, ltb-false}
use lib.Dec.{eqb, ltb}
use lib.IntN.{pos}
use lib.ListN.{length, drop, get_or-replicate, length-replicate, get_or-eq_default}
use mir.Syntax.{w32}
use mir.Val.{SFits}
use mir.Facts.{sfits_to_z}
use Rattle.numbers.specs.Sum.{at}
use Rattle.rows.specs.Choice.{IF◌THEN◌ELSE◌}
use Rattle.rows.specs.Rows.{row}
use Rattle.rows.proofs.Choice.{by_test, by_yes, either, and_left, and_right}
use Rattle.rows.proofs.Fill.{row_at, length_row}
use Rattle.frames.specs.Frame.{up, Frame, samples_ok}
use Rattle.lines.specs.Line.{field_at, word_at, frame_of, formed_of}
use Rattle.lines.specs.Answers.{Decoded, ranges_of, accepted_of, refused_of}
use Rattle.lines.proofs.Answers.{lengths_yes, decoded_accepted, decoded_refused}
use Rattle.lines.proofs.Fields.{field_lt}
use Rattle.state.specs.declared.State.{State}
use Rattle.state.specs.Valid.{valid_of, reset_of, Shaped}
use Rattle.state.proofs.Facts.{reset_valid, reset_shaped}
use Rattle.detector.specs.Refusal.{refusal_of}
use Rattle.detector.specs.Step as step
use Rattle.detector.specs.Run.{answer_to}
use Rattle.detector.proofs.Table.{step_refused}
use Rattle.detector.proofs.Keeps.{Numbers, step_keeps}
use Rattle.pieces.specs.Pieces.{state_after}
use Rattle.pieces.proofs.Caller.{state_append}
use Rattle.runner.specs.Said as trace_said
use Rattle.runner.specs.declared.Said.{Said}
use Rattle.runner.specs.Run as trace
use Rattle.runner.proofs.Steps.{said_no, said_ok}
use Rattle.card.specs.Card.{Order, call, reset, channel_of, in_bank, state_at, called_of, number_only, next_for, said_for, bank_after}
use Rattle.card.specs.History.{all_reset, bank_from}
use Rattle.card.proofs.Orders.{answer_in, answer_out}
use Rattle.card.proofs.Histories.{size, others, stepped}
use Rattle.exchange.specs.Line.{channel_in, calls_of, orderly, frame_at, order_in}
use Rattle.exchange.specs.Run.{channels, replied_of, malformed, reply_of, next_of, write_of, bank_of}
use Rattle.exchange.specs.Orders.{orders_of, lines_from, lines_on, RunAsked}
use Rattle.exchange.proofs.Steps.{malformed_reply, malformed_next, order_channel, order_call, order_reset, reply_by, next_by}

-- ---- the frame of a line of 81 digits, from a valid state: what a trace answers to the line is what the detector answers to the frame
module _ (s : State) (r : List ℕ) (formed : formed_of r ≡ true) where
  abbrev f : Frame
  f = frame_at r

  nine_four : refusal_of true (frame_of r).acf (frame_of r).lags (frame_of r).scale s ≡ (IF valid_of s THEN ranges_of (frame_of r) ELSE 5)
  unfolding refusal_of ranges_of frame_of IF◌THEN◌ELSE◌
  nine_four = rw (lengths_yes (row 9 (word_at r)) (row 4 (field_at 2 (drop 73 r))) (length_row 9 _) (length_row 4 _))

  word_fits : (k : ℕ) → k < 9 → SFits w32 (word_at r k)
  unfolding word_at field_at
  word_fits k h = sfits_to_z (record { fits = field_lt r formed (8 * k) 8 (omega arith) })

  numbers : Numbers (frame_of r).acf
  unfolding frame_of
  numbers k =
      either (SFits w32 (at (row 9 (word_at r)) k)) (ltb k 9)
      (λ t. subst (SFits w32) (sym (row_at 9 (word_at r) k (pos 0) (ltb-true k 9 t))) (word_fits k (ltb-true k 9 t)))
      (λ t. subst (SFits w32) (sym (get_or-eq_default (row 9 (word_at r)) (pos 0) (omega (arith, length_row 9 (word_at r), ltb-false k 9 t)))) (record { sfits = omega arith }))

  module _ (valid : valid_of s ≡ true) where
    number : refusal_of (samples_ok up) (frame_of r).acf (frame_of r).lags (frame_of r).scale s ≡ ranges_of (frame_of r)
    unfolding samples_ok
    number = nine_four ∙ by_yes _ _ valid

    as_trace : trace_said.said_of s r ≡ trace_said.stepped_of (answer_to s f)
    unfolding answer_to frame_at accepted_of refused_of step.refused_of trace_said.stepped_of trace_said.denied_of
    as_trace =
        let n = ranges_of (frame_of r) in
        either (trace_said.said_of s r ≡ trace_said.stepped_of (answer_to s f)) (eqb n 0)
        (λ t.
        let d = decoded_accepted r formed (eqb-true n 0 t) in
        said_ok s r (ap (λ (x : Decoded). x.refusal) d) ∙ ap (λ (x : Decoded). trace_said.stepped_of (step.step_of x.acf x.lags x.scale s)) d)
        (λ t.
        let h = eqb-false n 0 t in
        let d = decoded_refused r formed h in
        let e = ap (λ (x : Decoded). x.refusal) d in
        said_no s r (λ z. h (sym e ∙ z))
        ∙ (ap (λ (k : ℕ). trace_said.denied_of k s) (e ∙ sym number)
        ∙ ap trace_said.stepped_of (sym (step_refused up (frame_of r).acf (frame_of r).lags (frame_of r).scale s (λ z. h (sym number ∙ z))))))

    next_trace : (answer_to s f).next ≡ trace.next_of s r
    unfolding trace.next_of trace_said.stepped_of
    next_trace = ap (λ (x : Said). x.next) (sym as_trace)

    reply_trace : replied_of (called_of (answer_to s f)) ≡ trace.reply_of s r
    unfolding trace.reply_of trace_said.stepped_of replied_of called_of
    reply_trace = ap (λ (x : Said). x.reply) (sym as_trace)

    next_good : Shaped s → (valid_of (answer_to s f).next ≡ true) × Shaped (answer_to s f).next
    unfolding answer_to frame_at
    next_good shape = step_keeps (frame_of r).acf (frame_of r).lags (frame_of r).scale s numbers shape up valid

-- ---- a channel of the 64
channel_in_lem : (bank : List State) (i : ℕ) → length bank ≡ channels → i < channels → in_bank (length bank) i ≡ true
unfolding in_bank
channel_in_lem bank i e h = ap (λ (n : ℕ). in_bank n i) e ∙ lt-ltb i 64 h

channel_out : (bank : List State) (i : ℕ) → length bank ≡ channels → channels ≤ i → in_bank (length bank) i ≡ false
unfolding in_bank
channel_out bank i e h = ap (λ (n : ℕ). in_bank n i) e ∙ le-ltb i 64 h

module _ (i : ℕ) (within : i < channels) where
  -- its state is what a trace of its own frames leaves; ts are their lines
  record On (bank : List State) (ts : List (List ℕ)) : Type 0 where
    state : state_at bank i ≡ trace.state_of reset_of ts
    valid : valid_of (state_at bank i) ≡ true
    shape : Shaped (state_at bank i)
    long : length bank ≡ channels

  -- by the next state, whatever leaves it
  on_next : (bank next : List State) (ts : List (List ℕ)) (z : State) → state_at next i ≡ z → length next ≡ channels → z ≡ trace.state_of reset_of ts → (valid_of z ≡ true) × Shaped z → On next ts
  on_next bank next ts z e n h g =
      record { state = e ∙ h; valid = subst (λ (x : State). valid_of x ≡ true) (sym e) g.0; shape = subst Shaped (sym e) g.1; long = n }

  module _ (bank : List State) (ts : List (List ℕ)) (l : List ℕ) (k : On bank ts) where
    abbrev s : State
    s = state_at bank i

    long_next : length (next_of bank l) ≡ channels
    unfolding next_of
    long_next = by_test (λ (b : List State). length b ≡ channels) (orderly l) _ _ (λ t. size bank (order_in l) ∙ k.long) (λ t. k.long)

    left_by : (o : Order) → orderly l ≡ true → order_in l ≡ o → channel_of o ≡ i → state_at (next_of bank l) i ≡ next_for o s
    left_by o t e c =
        ap (λ (b : List State). state_at b i) (next_by bank l o t e)
        ∙ (subst (λ (j : ℕ). state_at (bank_after bank o) j ≡ next_for o (state_at bank j)) c
        (stepped bank o (subst (λ (j : ℕ). in_bank (length bank) j ≡ true) (sym c) (channel_in_lem bank i k.long within))))

    on_call : orderly l ≡ true → channel_in l ≡ i → calls_of l ≡ true → On (next_of bank l) (ts ++ (drop 2 l ∷ []))
    unfolding channel_of next_for trace.state_of state_after calls_of
    on_call t c v =
        on_next bank (next_of bank l) (ts ++ (drop 2 l ∷ [])) (answer_to s (frame_at (drop 2 l))).next
        (left_by (call (channel_in l) (frame_at (drop 2 l))) t (order_call l v) c) long_next
        (next_trace s (drop 2 l) v k.valid ∙ (ap (λ (x : State). trace.next_of x (drop 2 l)) k.state ∙ sym (state_append trace.next_of trace.answer_of reset_of ts (drop 2 l ∷ []))))
        (next_good s (drop 2 l) v k.valid k.shape)

    on_reset : orderly l ≡ true → channel_in l ≡ i → calls_of l ≡ false → On (next_of bank l) []
    unfolding channel_of next_for trace.state_of state_after
    on_reset t c v = on_next bank (next_of bank l) [] reset_of (left_by (reset (channel_in l)) t (order_reset l v) c) long_next refl (reset_valid, reset_shaped)

    on_other : (orderly l && eqb (channel_in l) i) ≡ false → On (next_of bank l) ts
    on_other h =
        on_next bank (next_of bank l) ts s
        (either (state_at (next_of bank l) i ≡ s) (orderly l)
        (λ t.
        ap (λ (b : List State). state_at b i) (next_by bank l (order_in l) t refl)
        ∙ others bank (order_in l) i (λ e. eqb-false (channel_in l) i (rw t at h) (sym (e ∙ order_channel l))))
        (λ t. ap (λ (b : List State). state_at b i) (malformed_next bank l t)))
        long_next k.state (k.valid, k.shape)

    on_line : On (next_of bank l) (IF orderly l && eqb (channel_in l) i THEN IF calls_of l THEN ts ++ (drop 2 l ∷ []) ELSE [] ELSE ts)
    on_line =
        by_test (On (next_of bank l)) (orderly l && eqb (channel_in l) i) _ _
        (λ h.
        let t = and_left (orderly l) (eqb (channel_in l) i) h in
        let c = eqb-true (channel_in l) i (and_right (orderly l) (eqb (channel_in l) i) h) in
        by_test (On (next_of bank l)) (calls_of l) _ _ (on_call t c) (on_reset t c))
        on_other

  on_lines : (ls : List (List ℕ)) (bank : List State) (ts : List (List ℕ)) → On bank ts → On (bank_of bank ls) (lines_from i ts ls)
  unfolding bank_of state_after lines_from
  on_lines [] bank ts k = k
  on_lines (l ∷ ls) bank ts k = on_lines ls (next_of bank l) _ (on_line bank ts l k)

  on_run : (ls : List (List ℕ)) → On (bank_of (all_reset channels) ls) (lines_on i ls)
  unfolding lines_on all_reset state_at trace.state_of state_after
  on_run ls =
      on_lines ls (all_reset channels) []
      (on_next (all_reset channels) (all_reset channels) [] reset_of (get_or-replicate 64 i reset_of reset_of within) (length-replicate 64 reset_of) refl (reset_valid, reset_shaped))

-- ---- what is asked
six : (bank : List State) (l : List ℕ) → orderly l ≡ false → write_of bank l ≡ 54 ∷ 48 ∷ 48 ∷ 10 ∷ []
unfolding write_of malformed trace_said.text_of trace_said.numeral_of trace_said.flag_of IF◌THEN◌ELSE◌
six bank l t = ap trace_said.text_of (malformed_reply bank l t)

nine : (bank : List State) (l : List ℕ) → length bank ≡ channels → orderly l ≡ true → channels ≤ channel_in l → write_of bank l ≡ 57 ∷ 48 ∷ 48 ∷ 10 ∷ []
unfolding write_of replied_of number_only trace_said.text_of trace_said.numeral_of trace_said.flag_of IF◌THEN◌ELSE◌
nine bank l n t h =
    ap trace_said.text_of
    (reply_by bank l (order_in l) t refl ∙ ap replied_of (answer_out bank (order_in l) (ap (in_bank (length bank)) (order_channel l) ∙ channel_out bank (channel_in l) n h)))

zeros : (bank : List State) (l : List ℕ) → length bank ≡ channels → orderly l ≡ true → calls_of l ≡ false → channel_in l < channels → write_of bank l ≡ 48 ∷ 48 ∷ 48 ∷ 10 ∷ []
unfolding write_of replied_of number_only channel_of said_for trace_said.text_of trace_said.numeral_of trace_said.flag_of IF◌THEN◌ELSE◌
zeros bank l n t v h =
    ap trace_said.text_of
    (reply_by bank l (reset (channel_in l)) t (order_reset l v) ∙ ap replied_of (answer_in bank (reset (channel_in l)) (channel_in_lem bank (channel_in l) n h)))

alone : (ls : List (List ℕ)) (l : List ℕ) → orderly l ≡ true → calls_of l ≡ true → channel_in l < channels
    → reply_of (bank_of (all_reset channels) ls) l ≡ trace.reply_of (trace.state_of reset_of (lines_on (channel_in l) ls)) (drop 2 l)
unfolding channel_of said_for calls_of
alone ls l t v h =
    let bank = bank_of (all_reset channels) ls in
    let i = channel_in l in
    let k = on_run i h ls in
    reply_by bank l (call i (frame_at (drop 2 l))) t (order_call l v)
    ∙ (ap replied_of (answer_in bank (call i (frame_at (drop 2 l))) (channel_in_lem bank i k.long h))
    ∙ (reply_trace (state_at bank i) (drop 2 l) v k.valid
    ∙ ap (λ (s : State). trace.reply_of s (drop 2 l)) k.state))

orders : (bank : List State) (ls : List (List ℕ)) → bank_of bank ls ≡ bank_from bank (orders_of ls)
unfolding bank_of state_after bank_from orders_of
orders bank [] = refl
orders bank (l ∷ ls) =
    orders (next_of bank l) ls
    ∙ by_test (λ (os : List Order). bank_from (next_of bank l) (orders_of ls) ≡ bank_from bank os) (orderly l) _ _
    (λ t. ap (λ (b : List State). bank_from b (orders_of ls)) (next_by bank l (order_in l) t refl))
    (λ t. ap (λ (b : List State). bank_from b (orders_of ls)) (malformed_next bank l t))

pub run_asked : RunAsked
run_asked = record { six = six; nine = nine; zeros = zeros; alone = alone; orders = orders }
