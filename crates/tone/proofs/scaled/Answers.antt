-- `tone::scaled` gives the scaled samples: the loop fills them from the front. Assumes nothing.
use Rattle.std.proofs.Common.{rules, arith}
use mathlib.Core.Path.{◌≡◌, refl, sym, ap, subst, ◌∙◌}
use mathlib.Core.Bool.{true}
use Prim.Native.Nat.{ℕ, ◌≤◌}
use lib.IntN.{ℤ, nat_abs, pos, ◌-ℤ◌}
use lib.ListN.{length-set}
use lib.Signed.{lt_z}
use mir.Syntax.{w16}
use mir.Val.{SFits, to_z, of_z}
use mir.Facts.{to_z-of_z}
use Rattle.numbers.specs.Sum.{at}
use Rattle.numbers.proofs.Parts.{zarith, of, sign, minus}
use Rattle.operations.specs.Operations.{sub, mult_r, ◌>>ₛ◌}
use Rattle.operations.proofs.Laws.{sub_exact}
use Rattle.rows.specs.Choice.{IF◌THEN◌ELSE◌}
use Rattle.rows.specs.Rows.{row}
use Rattle.rows.proofs.Choice.{by_yes}
use Rattle.rows.proofs.Fill.{fill_more, fill_all}
use Rattle.tone.specs.Autocorrelation.{scaled_of}
use Rattle.tone.proofs.scaled.Goals as goal
use Rattle.tone.proofs.scaled.Goals.{Then-scalauto-gt0}

-- the amount of the shift
module _ (c : Then-scalauto-gt0) where
  abbrev x : ℤ
  x = c.args.scalauto

  abbrev less : ℤ
  less = x -ℤ pos 1

  abbrev n : ℕ
  n = nat_abs (to_z w16 (of_z w16 (to_z w16 (of_z w16 x) -ℤ pos 1)))

  some : lt_z (pos 0) x ≡ true
  some = ap (lt_z (pos 0)) (sym (to_z-of_z c.ranges.scalauto)) ∙ c.if-scalauto-gt0.true

  fits : SFits w16 less
  fits = omega (zarith, of x, minus x (pos 1), c.requires, some)

  less_is : to_z w16 (of_z w16 (to_z w16 (of_z w16 x) -ℤ pos 1)) ≡ less
  less_is = ap (λ (z : ℤ). to_z w16 (of_z w16 (z -ℤ pos 1))) (to_z-of_z c.ranges.scalauto) ∙ to_z-of_z fits

  few : nat_abs less ≤ 3
  few = omega (zarith, of less, sign less, minus x (pos 1), c.requires, some)

  few_bits : n ≤ 3
  few_bits = subst (λ (z : ℤ). nat_abs z ≤ 3) (sym less_is) few

  amount_is : pos n ≡ sub x (pos 1)
  amount_is =
      ap (λ (z : ℤ). pos (nat_abs z)) less_is
      ∙ (let e : pos (nat_abs less) ≡ less = omega (zarith, of less, sign less, minus x (pos 1), some) in e ∙ sym (sub_exact x (pos 1) fits))

pub loop-k-init : goal.loop-k-init
unfolding row
loop-k-init c = (omega arith, search rules, search rules, few_bits c, refl)

pub loop-k-preserved : goal.loop-k-preserved
loop-k-preserved c =
    let t = c.loop-k in
    (omega arith, simp length-set t.invariant.1, t.invariant.2, t.invariant.3, fill_more _ _ t.k _ (omega arith) t.invariant.4 (search (rules, to_z-of_z)))

pub returns-after-loop-k : goal.returns-after-loop-k
unfolding scaled_of
returns-after-loop-k c =
    let h = (goal.at.returns-after-loop-k c).Then-scalauto-gt0 in
    let sofh = c.args.sofh in
    fill_all _ (λ i. mult_r (at sofh i) (pos 16384 >>ₛ pos (n h))) 160 c.loop-k.k c.loop-k.invariant.1 (omega arith) c.loop-k.invariant.4
    ∙ (ap (λ (z : ℤ). row 160 (λ i. mult_r (at sofh i) (pos 16384 >>ₛ z))) (amount_is h) ∙ sym (by_yes _ _ (some h)))

pub returns-else-scalauto-gt0 : goal.returns-else-scalauto-gt0
unfolding scaled_of IF◌THEN◌ELSE◌
returns-else-scalauto-gt0 c = search (rules, to_z-of_z)
