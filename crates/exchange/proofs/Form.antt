-- The form of a line: one that the end of the input cuts is malformed; its first two characters; and what is asked after them. Assumes nothing.
use Rattle.std.proofs.Common.{◌≡◌, refl, sym, ap, ap₂, ◌∙◌, Bool, true, false, ◌&&◌, ◌||◌, not, List, [], ◌∷◌, ℕ, ◌+◌, ◌*◌, ◌<◌, ◌≤◌, arith, eqb, eqb-true, ltb, lt-ltb, le-ltb, length, take, drop, get_or}
use Rattle.rows.specs.Rows.{all}
use Rattle.rows.proofs.Choice.{either, by_yes, by_no, and_left, and_right}
use Rattle.lines.specs.Hex.{value_of, hex_of, number_from, number_of}
use Rattle.lines.specs.Line.{formed_of}
use Rattle.lines.specs.Answers.{Decoded, parsed_of, accepted_of, refused_of}
use Rattle.lines.specs.declared.Frame.{Frame}
use Rattle.lines.proofs.Answers.{parsed_malformed}
use Rattle.pieces.specs.Lines.{plain_of}
use Rattle.pieces.proofs.Found.{plain_at}
use Rattle.card.specs.Card.{in_bank}
use Rattle.exchange.specs.declared.Order.{Order}
use Rattle.exchange.specs.declared.Order.TheVariants.{Call, Reset}
use Rattle.exchange.specs.Line.{channel_in, calls_of, resets_of, orderly}
use Rattle.exchange.specs.Laws.{orderly_end}
use Rattle.exchange.specs.Run.{channels}
use Rattle.exchange.specs.Named.{Named, none_of, found_of, asked_in, named_of}

-- ---- how a well-formed line ends
module _ (l : List ℕ) where
  -- a line with no line feed in it
  pub cut_malformed : plain_of l ≡ length l → orderly l ≡ false
  cut_malformed p =
      either (orderly l ≡ false) (orderly l)
      (λ t. let e = orderly_end l t in let n = e.size in let h = plain_at l e.last (omega arith) e.feed in absurd (omega arith))
      (λ t. t)

  pub brief_malformed : length l < 3 → orderly l ≡ false
  brief_malformed h =
      either (orderly l ≡ false) (orderly l)
      (λ t. let e = orderly_end l t in let n = e.size in let m = e.least in absurd (omega arith))
      (λ t. t)

-- ---- the first two characters
pub two : (l : List ℕ) → 2 ≤ length l → take 2 l ≡ get_or l 0 0 ∷ get_or l 1 0 ∷ []
two [] h = absurd (omega arith)
two (a ∷ []) h = absurd (omega arith)
two (a ∷ b ∷ l) h = refl

pub channel_is : (l : List ℕ) → 2 ≤ length l → channel_in l ≡ 16 * value_of (get_or l 0 0) + value_of (get_or l 1 0)
unfolding channel_in number_of number_from
channel_is l h = ap number_of (two l h) ∙ omega arith

digits_are : (l : List ℕ) → 2 ≤ length l → all hex_of (take 2 l) ≡ hex_of (get_or l 0 0) && hex_of (get_or l 1 0)
unfolding all
digits_are l h = ap (all hex_of) (two l h) ∙ go (hex_of (get_or l 0 0)) (hex_of (get_or l 1 0))
  where
    go : (a b : Bool) → (a && (b && true)) ≡ a && b
    go true true = refl
    go true false = refl
    go false b = refl

-- ---- a line feed alone after them
pub bare_resets : (l : List ℕ) → drop 2 l ≡ 10 ∷ [] → (calls_of l ≡ false) × (resets_of l ≡ true)
unfolding calls_of resets_of formed_of all hex_of value_of
bare_resets [] e = absurd (let n = ap length e in omega arith)
bare_resets (a ∷ []) e = absurd (let n = ap length e in omega arith)
bare_resets (a ∷ b ∷ l) e = rw e (refl, refl)

pub resets_bare : (l : List ℕ) → resets_of l ≡ true → drop 2 l ≡ 10 ∷ []
unfolding resets_of
resets_bare l t =
    let n = eqb-true (length l) 3 (and_left (eqb (length l) 3) (eqb (get_or l 2 0) 10) t) in
    let f = eqb-true (get_or l 2 0) 10 (and_right (eqb (length l) 3) (eqb (get_or l 2 0) 10) t) in
    go l n f
  where
    go : (l : List ℕ) → length l ≡ 3 → get_or l 2 0 ≡ 10 → drop 2 l ≡ 10 ∷ []
    go [] n f = absurd (omega arith)
    go (a ∷ []) n f = absurd (omega arith)
    go (a ∷ b ∷ []) n f = absurd (omega arith)
    go (a ∷ b ∷ c ∷ []) n f = ap (λ (x : ℕ). x ∷ []) f
    go (a ∷ b ∷ c ∷ d ∷ l) n f = absurd (omega arith)

-- ---- what a well-formed line asks, in code and by its definition
abbrev called : ℕ → Bool → Decoded → Named
called c b d = record { refusal = 0; resets = not b; channel = c; acf = d.acf; lags = d.lags; scale = d.scale }

pub record Ordered (l : List ℕ) (o : Order) : Type 0 where
  pub well : orderly l ≡ true
  pub named : asked_in (channel_in l) o ≡ called (channel_in l) (calls_of l) (parsed_of (drop 2 l))

module _ (l : List ℕ) (o : Order) (r : Ordered l o) where
  pub ordered_inside : in_bank channels (channel_in l) ≡ true → asked_in (channel_in l) o ≡ named_of l
  unfolding named_of found_of
  ordered_inside t = r.named ∙ (sym (by_yes _ _ t) ∙ sym (by_yes _ _ r.well))

  pub ordered_outside : in_bank channels (channel_in l) ≡ false → none_of 9 ≡ named_of l
  unfolding named_of found_of
  ordered_outside t = sym (by_yes _ _ r.well ∙ by_no _ _ t)

-- ---- what is read of a line
module _ (l : List ℕ) where
  pub named_malformed : orderly l ≡ false → named_of l ≡ none_of 6
  unfolding named_of
  named_malformed t = by_no _ _ t

  -- a character that is no digit
  pub named_high : 2 ≤ length l → 15 < value_of (get_or l 0 0) → named_of l ≡ none_of 6
  unfolding orderly hex_of
  named_high h v = named_malformed (rw (digits_are l h, le-ltb (value_of (get_or l 0 0)) 16 v))

  pub named_low : 2 ≤ length l → 15 < value_of (get_or l 1 0) → named_of l ≡ none_of 6
  unfolding orderly hex_of
  named_low h v = named_malformed (rw (digits_are l h, le-ltb (value_of (get_or l 1 0)) 16 v) (go (ltb (value_of (get_or l 0 0)) 16)))
    where
      go : (a : Bool) → ((a && false) && (calls_of l || resets_of l)) ≡ false
      go true = refl
      go false = refl

  -- two digits, and what stands after them
  module _ (h : 2 ≤ length l) (v : value_of (get_or l 0 0) < 16) (w : value_of (get_or l 1 0) < 16) where
    orderly_by : orderly l ≡ (calls_of l || resets_of l)
    unfolding orderly hex_of
    orderly_by = rw (digits_are l h, lt-ltb (value_of (get_or l 0 0)) 16 v, lt-ltb (value_of (get_or l 1 0)) 16 w)

    pub named_neither : calls_of l ≡ false → resets_of l ≡ false → named_of l ≡ none_of 6
    named_neither t u = named_malformed (orderly_by ∙ (rw (t, u)))

    -- and the order that code makes of it
    pub ordered_call : (f : Frame) → calls_of l ≡ true → accepted_of f ≡ parsed_of (drop 2 l) → Ordered l (Call f)
    unfolding asked_in accepted_of
    ordered_call f t e =
        record { well = orderly_by ∙ (rw t); named = ap₂ (called (channel_in l)) (sym t) e }

    pub ordered_reset : drop 2 l ≡ 10 ∷ [] → Ordered l Reset
    unfolding asked_in refused_of calls_of
    ordered_reset e =
        let r = bare_resets l e in
        record { well = orderly_by ∙ (rw (r.0, r.1)); named = ap₂ (called (channel_in l)) (sym r.0) (sym (parsed_malformed (drop 2 l) r.0)) }
