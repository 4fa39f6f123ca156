-- One answer more, where it is counted and where not. Assumes nothing.
use mathlib.Core.Path.{◌≡◌}
use mathlib.Core.Bool.{true, false}
use mathlib.Core.List.{[], ◌∷◌}
use Prim.Native.Nat.{◌+◌, ◌<◌}
use borrow.Author.Tests.{leb-false, eq-eqb, ne_eqb}
use lib.Dec.{leb}
use Rattle.rows.specs.Choice.{IF◌THEN◌ELSE◌}
use Rattle.rows.proofs.Choice.{or_left, or_right}
use Rattle.counts.specs.declared.Reply.{Reply}
use Rattle.counts.specs.declared.Totals.{Totals}
use Rattle.counts.specs.declared.Counted.{Counted}
use Rattle.counts.specs.Counts.{totals_of, limit, full_of, plus_of, count_of}

module _ (c : Counted) (r : Reply) where
  pub kept : (c.refusal ≡ 0 → ⊥) → count_of c r ≡ c
  unfolding count_of IF◌THEN◌ELSE◌
  kept h = rw (ne_eqb c.refusal 0 h)

  pub over : c.refusal ≡ 0 → full_of c.totals ≡ true → count_of c r ≡ record { refusal = 7; totals = c.totals }
  unfolding count_of IF◌THEN◌ELSE◌
  over h f = rw (eq-eqb c.refusal 0 h, f)

  pub more : c.refusal ≡ 0 → full_of c.totals ≡ false → count_of c r ≡ record { refusal = 0; totals = plus_of c.totals (totals_of (r ∷ [])) }
  unfolding count_of IF◌THEN◌ELSE◌
  more h f = rw (eq-eqb c.refusal 0 h, f)

-- where a line more is counted, each number can rise
pub room : (t : Totals) → full_of t ≡ false → (t.accepted + t.refused < limit) × (t.speech + t.held + t.quiet < limit)
unfolding full_of
room t f =
    let a = leb limit (t.accepted + t.refused) in
    let b = leb limit (t.speech + t.held + t.quiet) in
    (leb-false limit (t.accepted + t.refused) (or_left a b f), leb-false limit (t.speech + t.held + t.quiet) (or_right a b f))
