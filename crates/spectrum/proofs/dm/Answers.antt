-- `spectrum::dm` gives the distance measure. Assumes nothing.
use Rattle.std.proofs.Common.{rules, arith}
use Rattle.std.proofs.lemmas.Int.{ints}
use mathlib.Core.Path.{◌≡◌, ap, ◌∙◌}
use mathlib.Core.List.{List}
use Prim.Native.Nat.{suc}
use lib.IntN.{ℤ, pos}
use lib.ListN.{length}
use mir.Syntax.{w32}
use mir.Val.{SFits}
use mir.Facts.{to_z-of_z}
use Rattle.numbers.specs.Sum.{at}
use Rattle.operations.specs.Operations.{l_mult}
use Rattle.rows.specs.Choice.{IF◌THEN◌ELSE◌}
use Rattle.rows.specs.Rows.{row, l_products}
use Rattle.rows.proofs.Choice.{eqZ_yes, eqZ_no}
use Rattle.rows.proofs.Fill.{length_row, row_at}
use Rattle.rows.proofs.Sum.{l_sum_ext, l_sum_fits}
use Rattle.rows.proofs.Tail.{tail, tail_products}
use Rattle.spectrum.specs.Spectrum.{sav0_of, l_Σp_of, size_of, l_dm_of}
use Rattle.spectrum.proofs.Size.{size_abs}
use Rattle.spectrum.proofs.dm.Goals as goal
use Rattle.spectrum.proofs.dm.Goals.{After-l_abs-size}

-- ---- over plain rows
module _ (a x s : List ℤ) (n : length a ≡ 9) (e : s ≡ row 9 (sav0_of x)) where
  sum_is : l_products (tail a) (tail s) ≡ l_Σp_of a x
  unfolding l_Σp_of
  sum_is =
      tail_products a s n (ap length e ∙ length_row 9 (sav0_of x))
      ∙ l_sum_ext 8 (λ k. l_mult (at a (suc k)) (at s (suc k))) (λ k. l_mult (at a (suc k)) (sav0_of x (suc k)))
      (λ k h. ap (l_mult (at a (suc k))) (ap (λ (l : List ℤ). at l (suc k)) e ∙ row_at 9 (sav0_of x) (suc k) (pos 0) (omega arith)))

  first_is : at s 0 ≡ sav0_of x 0
  first_is = ap (λ (l : List ℤ). at l 0) e ∙ row_at 9 (sav0_of x) 0 (pos 0) (omega arith)

sum_fits : (r x : List ℤ) → SFits w32 (l_Σp_of r x)
unfolding l_Σp_of
sum_fits r x = l_sum_fits 8 _

size_is : (c : After-l_abs-size) → c.l_abs-size.result ≡ size_of (l_Σp_of c.args.rav1 c.args.av0)
size_is c =
    let e = sum_is c.args.rav1 c.args.av0 c.sav0-s.result (search rules) c.sav0-s.ensures in
    let d = size_abs _ (sum_fits c.args.rav1 c.args.av0) in
    search (rules, to_z-of_z)

pub returns-then-size-eq0 : goal.returns-then-size-eq0
unfolding l_dm_of IF◌THEN◌ELSE◌
returns-then-size-eq0 c =
    let s = size_is (goal.at.returns-then-size-eq0 c).After-l_abs-size in
    let e : size_of (l_Σp_of c.args.rav1 c.args.av0) ≡ pos 0 = omega (arith, ints, s) in
    rw (eqZ_yes e) (search (rules, to_z-of_z))

pub returns : goal.returns
unfolding l_dm_of IF◌THEN◌ELSE◌
returns c =
    let s = size_is (goal.at.returns c).After-l_abs-size in
    let n : size_of (l_Σp_of c.args.rav1 c.args.av0) ≡ pos 0 → ⊥ = λ e. omega (arith, ints, e, s, c.if-size-eq0.false) in
    let f = first_is c.args.rav1 c.args.av0 c.sav0-s.result (search rules) c.sav0-s.ensures in
    let e = sum_is c.args.rav1 c.args.av0 c.sav0-s.result (search rules) c.sav0-s.ensures in
    rw (eqZ_no n) (search (rules, to_z-of_z))
