-- `exchange::read` tests the two digits, what stands after them, and the channel. Assumes nothing.
use Rattle.std.proofs.Common.{◌≡◌, true≢false, ℕ, ◌+◌, ◌-◌, ◌*◌, ◌<◌, ◌≤◌, true, false, List, [], ◌∷◌, length, take, drop, get_or, eqb, sym, ap, ◌∙◌, arith, subst, length-drop, take_all}
use Rattle.std.specs.Prelude.{Ok, Err}
use Rattle.lines.specs.declared.Frame.{Frame}
use Rattle.std.proofs.lemmas.Result.{err_from_is_err_and}
use lib.Pointwise.{pointwise, bytes_decides}
use Rattle.rows.proofs.Choice.{either}
use Rattle.lines.specs.Hex.{value_of}
use Rattle.lines.specs.Answers.{Decoded, decoded_in, refused_of, parsed_of}
use Rattle.lines.proofs.Digits.{worth_some, worth_none}
use Rattle.lines.proofs.Answers.{parse_formed, parse_malformed, parsed_malformed, parsed_formed}
use Rattle.refusals.specs.Refusal.{number_of}
use Rattle.refusals.specs.declared.Refusal.{Refusal}
use Rattle.card.specs.Card.{in_bank}
use Rattle.exchange.specs.declared.Order.TheVariants.{Call, Reset}
use Rattle.exchange.specs.Line.{channel_in, calls_of, resets_of}
use Rattle.exchange.specs.Named.{none_of, named_of, asked_in, read_in}
use Rattle.exchange.proofs.Form.{Ordered, brief_malformed, channel_is, named_malformed, named_high, named_low, named_neither, ordered_call, ordered_reset, ordered_inside, ordered_outside, resets_bare}
use Rattle.exchange.proofs.read.Goals as goal
use Rattle.exchange.proofs.read.Goals.{After-eq, then-eq, else-eq+in_ok-parse}

pub returns-in_default : goal.returns-in_default
unfolding read_in number_of
returns-in_default c = let l = c.args.line.now in sym (named_malformed l (brief_malformed l (omega arith)))

pub returns-in_default-value : goal.returns-in_default-value
unfolding read_in number_of
returns-in_default-value c =
    let e = worth_none (get_or c.args.line.now 0 0) (sym c.in_default-value.is ∙ c.value.ensures) in
    sym (named_high c.args.line.now (omega arith) (omega arith))

pub returns-in_default-value-2 : goal.returns-in_default-value-2
unfolding read_in number_of
returns-in_default-value-2 c =
    let e = worth_none (get_or c.args.line.now 1 0) (sym c.in_default-value-2.is ∙ c.value-2.ensures) in
    sym (named_low c.args.line.now (omega arith) (omega arith))

-- two digits
module _ (c : After-eq) where
  abbrev line : List ℕ
  line = c.args.line.now

  long : 2 ≤ length line
  long = omega arith

  high : (c.in-Some.high ≡ value_of (get_or line 0 0)) × (value_of (get_or line 0 0) < 16)
  high = worth_some (get_or line 0 0) c.in-Some.high c.in-Some.ensures

  low : (c.in-Some-value.low ≡ value_of (get_or line 1 0)) × (value_of (get_or line 1 0) < 16)
  low = worth_some (get_or line 1 0) c.in-Some-value.low c.in-Some-value.ensures

  channel : 16 * c.in-Some.high + c.in-Some-value.low ≡ channel_in line
  channel = let n = channel_is line long in let h = high in let l = low in omega arith

  rest : take (length line - 2) (drop 2 line) ≡ drop 2 line
  rest = let n = length-drop 2 line in take_all (length line - 2) (drop 2 line) (omega arith)

  tested : c.eq.result ≡ pointwise eqb (drop 2 line) (10 ∷ [])
  tested = c.eq.ensures ∙ ap (λ (r : List ℕ). pointwise eqb r c.as_slice.result.now) rest ∙ ap (pointwise eqb (drop 2 line)) c.as_slice.ensures

  asks_reset : c.eq.result ≡ true → Ordered line Reset
  asks_reset t = ordered_reset line long high.1 low.1 ((bytes_decides (drop 2 line) (10 ∷ [])).0 (sym tested ∙ t))

  asks_call : (f : Frame) → decoded_in (Ok f) ≡ parsed_of (take (length line - 2) (drop 2 line)) → Ordered line (Call f)
  unfolding calls_of
  asks_call f e =
      let p = parse_formed (drop 2 line) f (e ∙ ap parsed_of rest) in
      ordered_call line long high.1 low.1 f p.0 (p.1 ∙ sym (parsed_formed (drop 2 line) p.0))

  asks_neither : (e : Refusal) → c.eq.result ≡ false → decoded_in (Err e) ≡ parsed_of (take (length line - 2) (drop 2 line)) → read_in (Err e) ≡ named_of line
  unfolding read_in calls_of decoded_in refused_of
  asks_neither e f p =
      let q = p ∙ ap parsed_of rest in
      let t = parse_malformed (drop 2 line) e q in
      let n = ap (λ (d : Decoded). d.refusal) (q ∙ parsed_malformed (drop 2 line) t) in
      let r = either (resets_of line ≡ false) (resets_of line) (λ u. absurd (true≢false (sym ((bytes_decides (drop 2 line) (10 ∷ [])).1 (resets_bare line u)) ∙ (sym tested ∙ f)))) (λ u. u) in
      ap none_of n ∙ sym (named_neither line long high.1 low.1 t r)

pub returns-in_err-parse : goal.returns-in_err-parse
returns-in_err-parse c =
    let p = err_from_is_err_and c.from_residual.result c.from_residual.ensures.1 in
    rw (p.1, p.2) (asks_neither (goal.at.returns-in_err-parse c).After-eq _ c.if-eq.false c.in_err-parse.ensures)

pub returns-then-not-in_bank : goal.returns-then-not-in_bank
unfolding read_in number_of
returns-then-not-in_bank c =
    let l = c.args.line.now in
    let p = (goal.at.returns-then-not-in_bank c).After-eq in
    let o : Ordered l c.if-eq.order = elim c.if-eq.branch [
      | then-eq w ↦ subst (Ordered l) (sym w.order-is) (asks_reset p w.if-eq.true)
      | else-eq+in_ok-parse w ↦ subst (Ordered l) (sym w.order-is) (asks_call p _ w.in_ok-parse.ensures)
    ] in
    let i : 16 * c.from.result + c.from-2.result ≡ channel_in l = let n = channel p in omega arith in
    ordered_outside l c.if-eq.order o (ap (in_bank 64) (sym i) ∙ (sym c.in_bank.ensures ∙ c.if-not-in_bank.true))

pub returns : goal.returns
unfolding read_in
returns c =
    let l = c.args.line.now in
    let p = (goal.at.returns c).After-eq in
    let o : Ordered l c.if-eq.order = elim c.if-eq.branch [
      | then-eq w ↦ subst (Ordered l) (sym w.order-is) (asks_reset p w.if-eq.true)
      | else-eq+in_ok-parse w ↦ subst (Ordered l) (sym w.order-is) (asks_call p _ w.in_ok-parse.ensures)
    ] in
    let i : 16 * c.from.result + c.from-2.result ≡ channel_in l = let n = channel p in omega arith in
    ap (λ (n : ℕ). asked_in n c.if-eq.order) i ∙ ordered_inside l c.if-eq.order o (ap (in_bank 64) (sym i) ∙ (sym c.in_bank.ensures ∙ c.if-not-in_bank.false))
