-- `spectrum::sav0` scales each average, and stands for none by 4095. Assumes nothing.
use Rattle.std.proofs.Common.{rules, arith, of_calls}
use Rattle.std.proofs.lemmas.Int.{ints}
use mathlib.Core.Path.{◌≡◌}
use mathlib.Core.List.{List}
use Prim.Native.Nat.{ℕ}
use lib.IntN.{ℤ, pos}
use mir.Syntax.{w32}
use mir.Facts.{to_z-of_z}
use Rattle.numbers.specs.Sum.{at}
use Rattle.operations.specs.Operations.{norm, sub, topped}
use Rattle.rows.specs.Choice.{IF◌THEN◌ELSE◌}
use Rattle.rows.specs.Rows.{row}
use Rattle.rows.proofs.Choice.{by_no, eqZ_yes, eqZ_no}
use Rattle.rows.proofs.Made.{mapped_fits}
use Rattle.spectrum.specs.Spectrum.{sav0_of}
use Rattle.spectrum.proofs.sav0.Goals as goal

scaled_is : (l : List ℤ) → (at l 0 ≡ pos 0 → ⊥) → (i : ℕ) → sav0_of l i ≡ topped (at l i) (sub (norm (at l 0)) (pos 3))
unfolding sav0_of
scaled_is l n i = by_no _ _ (eqZ_no n)

pub returns-then-av0-eq0 : goal.returns-then-av0-eq0
unfolding row sav0_of IF◌THEN◌ELSE◌
returns-then-av0-eq0 c = let e : at c.args.av0 0 ≡ pos 0 = omega (arith, ints) in rw (eqZ_yes e) (search rules)

pub returns : goal.returns
returns c =
    let e = scaled_is c.args.av0 (λ e. omega (arith, ints, e, c.if-av0-eq0.false)) in
    mapped_fits w32 _ _ _ _ _ 9 (pos 0) _ c.well_formed.0.1.1 (search rules)
    (λ i u r y q k. let d = e i in (search (rules, of_calls, to_z-of_z), search (rules, of_calls))) c.map.ensures.items
