-- Lines counted one after the other, from the answers counted so far: as many as can be, and 7 with the first that can't. Assumes nothing.
use mathlib.Core.Path.{◌≡◌, refl, sym, ap, ◌∙◌}
use mathlib.Core.List.{List, [], ◌∷◌, ◌++◌, append_assoc, append-nil}
use Prim.Native.Nat.{ℕ, ◌<◌, ◌≤◌}
use native.Mathlib.Omega.{arith}
use borrow.Author.Tests.{le-leb, lt-leb, leb-true, leb-false, eq-eqb, ne_eqb}
use lib.Dec.{leb}
use lib.ListN.{length, take, length-append}
use lib.Seq.{take_all, take_at}
use Rattle.rows.specs.Choice.{IF◌THEN◌ELSE◌}
use Rattle.rows.proofs.Choice.{or_same, either}
use Rattle.counts.specs.declared.Reply.{Reply}
use Rattle.counts.specs.declared.Totals.{Totals}
use Rattle.counts.specs.declared.Counted.{Counted}
use Rattle.counts.specs.Counts.{is_accepted, how_many, totals_of, limit, full_of, count_of}
use Rattle.counts.proofs.Adds.{totals_append, three_add, two_add}
use Rattle.counts.proofs.Room.{kept, over, more}
use Rattle.state.specs.declared.State.{State}
use Rattle.state.specs.Valid.{reset_of}
use Rattle.pieces.specs.Lines.{lines_of}
use Rattle.pieces.specs.Pieces.{state_after}
use Rattle.runner.specs.Run.{next_of, reply_of, replies_from, replies_of}
use Rattle.totals.specs.declared.Tally.{Tally}
use Rattle.totals.specs.Whole.{night_of}
use Rattle.totals.specs.Fed.{tallied_of, ran_of, start_of}

-- the totals of a list are full exactly if it is as long as can be
full_lines : (rs : List Reply) → full_of (totals_of rs) ≡ leb limit (length rs)
unfolding full_of totals_of
full_lines rs =
    let e = two_add rs in
    rw (two_add rs, three_add rs)
    (or_same (leb limit (length rs)) (leb limit (how_many is_accepted rs)) (λ t. let h = leb-true limit (how_many is_accepted rs) t in le-leb limit (length rs) (omega arith)))

-- ---- one line
module _ (t : Tally) (l : List ℕ) (c : Counted) (e : c ≡ count_of t.counted (reply_of t.state l)) where
  pub tallied_no : (c.refusal ≡ 0 → ⊥) → record { counted = c; state = t.state } ≡ tallied_of t l
  unfolding tallied_of IF◌THEN◌ELSE◌
  tallied_no h = rw (sym e, ne_eqb c.refusal 0 h)

  pub tallied_yes : c.refusal ≡ 0 → record { counted = c; state = next_of t.state l } ≡ tallied_of t l
  unfolding tallied_of IF◌THEN◌ELSE◌
  tallied_yes h = rw (sym e, eq-eqb c.refusal 0 h)

-- once refused, nothing changes any more
pub stays : (t : Tally) (ls : List (List ℕ)) → (t.counted.refusal ≡ 0 → ⊥) → ran_of t ls ≡ t
unfolding ran_of state_after
stays t [] h = refl
stays t (l ∷ ls) h =
    ap (λ (u : Tally). state_after tallied_of u ls) (sym (tallied_no t l t.counted (sym (kept t.counted (reply_of t.state l) h)) h)) ∙ stays t ls h

abbrev tally : ℕ → Totals → State → Tally
tally n t s = record { counted = record { refusal = n; totals = t }; state = s }

-- a line, with room for it and without
line_more : (rs : List Reply) (s : State) (l : List ℕ) → length rs < limit
    → tallied_of (tally 0 (totals_of rs) s) l ≡ tally 0 (totals_of (rs ++ (reply_of s l ∷ []))) (next_of s l)
line_more rs s l h =
    let r = reply_of s l in
    let e = more (tally 0 (totals_of rs) s).counted r refl (full_lines rs ∙ lt-leb limit (length rs) h) in
    sym (tallied_yes (tally 0 (totals_of rs) s) l (record { refusal = 0; totals = totals_of (rs ++ (r ∷ [])) })
    (ap (λ (t : Totals). record { refusal = 0; totals = t }) (totals_append rs (r ∷ [])) ∙ sym e) refl)

line_over : (rs : List Reply) (s : State) (l : List ℕ) → limit ≤ length rs → tallied_of (tally 0 (totals_of rs) s) l ≡ tally 7 (totals_of rs) s
line_over rs s l h =
    let e = over (tally 0 (totals_of rs) s).counted (reply_of s l) refl (full_lines rs ∙ le-leb limit (length rs) h) in
    sym (tallied_no (tally 0 (totals_of rs) s) l (record { refusal = 7; totals = totals_of rs }) (sym e) (λ z. omega arith))

-- ---- all lines: what is counted is the beginning of the list of answers
abbrev night : List Reply → Counted
night rs = record { refusal = IF leb (length rs) limit THEN 0 ELSE 7; totals = totals_of (take limit rs) }

fits : (rs : List Reply) → length rs ≤ limit → night rs ≡ record { refusal = 0; totals = totals_of rs }
unfolding IF◌THEN◌ELSE◌
fits rs h = rw (le-leb (length rs) limit h, take_all limit rs h)

beyond : (rs m : List Reply) → length rs ≡ limit → 0 < length m → night (rs ++ m) ≡ record { refusal = 7; totals = totals_of rs }
unfolding IF◌THEN◌ELSE◌
beyond rs m e h = let n = length-append rs m in rw (lt-leb (length (rs ++ m)) limit (omega arith), take_at rs m limit e)

pub counts_on : (rs : List Reply) (s : State) (ls : List (List ℕ)) → length rs ≤ limit → (ran_of (tally 0 (totals_of rs) s) ls).counted ≡ night (rs ++ replies_from s ls)
unfolding ran_of state_after replies_from
counts_on rs s [] h = sym (ap night (append-nil rs) ∙ fits rs h)
counts_on rs s (l ∷ ls) h =
    let r = reply_of s l in
    let rest = replies_from (next_of s l) ls in
    either ((ran_of (tally 0 (totals_of rs) s) (l ∷ ls)).counted ≡ night (rs ++ (r ∷ rest))) (leb limit (length rs))
    (λ t.
    let g = leb-true limit (length rs) t in
    ap (λ (u : Tally). (ran_of u ls).counted) (line_over rs s l g)
    ∙ (ap (λ (u : Tally). u.counted) (stays (tally 7 (totals_of rs) s) ls (λ z. omega arith)) ∙ sym (beyond rs (r ∷ rest) (omega arith) (omega arith))))
    (λ t.
    let g = leb-false limit (length rs) t in
    let n = length-append rs (r ∷ []) in
    ap (λ (u : Tally). (ran_of u ls).counted) (line_more rs s l g)
    ∙ (counts_on (rs ++ (r ∷ [])) (next_of s l) ls (omega arith) ∙ ap night (append_assoc rs (r ∷ []) rest)))

-- from the start it is the whole night
pub night_is : (input : List ℕ) → (ran_of start_of.hearer (lines_of input)).counted ≡ night_of input
unfolding start_of night_of replies_of
night_is input = counts_on [] reset_of (lines_of input) (omega arith)
