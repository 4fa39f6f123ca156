-- `tone::rc` gives the reflection coefficients: of five autocorrelations, which the recursion takes as the first of nine. Assumes nothing.
use Rattle.std.proofs.Common.{rules, arith, of_calls}
use mathlib.Core.Path.{◌≡◌, refl, ap, ◌∙◌}
use Prim.Native.Nat.{ℕ}
use lib.Dec.{leb}
use lib.IntN.{ℤ, pos}
use mir.Facts.{to_z-of_z}
use Rattle.rows.specs.Choice.{IF◌THEN◌ELSE◌}
use Rattle.rows.specs.Rows.{row}
use Rattle.rows.proofs.Made.{made}
use Rattle.predictor.specs.Schur.{sacf_of, reflection_of}
use Rattle.tone.specs.Autocorrelation.{l_acfh_of}
use Rattle.tone.specs.Coefficients.{rc_of}
use Rattle.tone.proofs.rc.Goals as goal

-- the five, and four zeros
abbrev nine : (ℕ → ℤ) → ℕ → ℤ
nine f k = IF leb k 4 THEN f k ELSE pos 0

-- what is past the five is 0 either way
padded : (f : ℕ → ℤ) → reflection_of 4 (row 9 (nine f)) ≡ reflection_of 4 (row 5 f)
unfolding reflection_of row sacf_of IF◌THEN◌ELSE◌
padded f = refl

pub returns : goal.returns
unfolding rc_of IF◌THEN◌ELSE◌
returns c =
    let f = l_acfh_of c.args.sofh in
    let e = made _ (nine f) _ 9 (λ i y q u k. (grind (arith, to_z-of_z), search (rules, of_calls))) _ c.from_fn.ensures.items in
    c.reflection.ensures ∙ (ap (reflection_of 4) e ∙ padded f)
