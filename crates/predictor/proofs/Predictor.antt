-- Clause 6.3.2, whatever the reflection coefficients are: aav1[0] is 1024, and each aav1[i] is within 4096 of 0, since each L_coef[i] is a number
-- of 32 bits and the first is never written. Assumes nothing.
use mathlib.Core.Path.{◌≡◌, refl, ap, ◌∙◌}
use mathlib.Core.Bool.{false, ◌&&◌}
use mathlib.Core.List.{List}
use Prim.Native.Nat.{ℕ, zero, suc, ◌-◌, ◌^◌, ◌≤◌}
use native.Mathlib.Omega.{arith}
use lib.Dec.{eqb, leb, ltb}
use borrow.Author.Tests.{lt-leb, ne_eqb}
use lib.IntN.{ℤ, nat_abs, pos}
use mir.Syntax.{w32}
use mir.Val.{SFits}
use Rattle.numbers.specs.Sum.{at}
use Rattle.numbers.proofs.Magnitude.{fits_abs, abs_fits}
use Rattle.numbers.proofs.Floor.{floor_abs}
use Rattle.numbers.proofs.Wrap.{wrap_fits}
use Rattle.operations.specs.Operations.{l_mult, shift_left, shift_right, ◌<<◌, ◌>>◌}
use Rattle.operations.proofs.Laws.{left_exact, l_add_fits}
use Rattle.rows.specs.Rows.{row}
use Rattle.rows.proofs.Choice.{by_test, by_yes, by_no}
use Rattle.rows.proofs.Fill.{row_at, row_all}
use Rattle.predictor.specs.StepUp.{raised_of, l_coef_of, aav1_of}

-- a shift to the left by an amount that is not negative is in the range, whatever is shifted
shifted_fits : (x : ℤ) (n : ℕ) → SFits w32 (x << pos n)
unfolding shift_left
shifted_fits x n = wrap_fits w32 _

nothing : SFits w32 (pos 0)
nothing = abs_fits w32 (pos 0) (omega arith)

module _ (vpar : List ℤ) where
  pub l_coef_fits : (m i : ℕ) → SFits w32 (at (l_coef_of vpar m) i)
  unfolding l_coef_of raised_of
  l_coef_fits zero = row_all (SFits w32) 9 _ nothing (λ i. by_test (SFits w32) (eqb i 0) _ _ (λ t. shifted_fits (pos 16384) 15) (λ t. nothing))
  l_coef_fits (suc m) =
      let l = l_coef_of vpar m in
      let v = at vpar (suc m) in
      row_all (SFits w32) 9 _ nothing
      (λ i.
      by_test (SFits w32) (eqb i (suc m)) _ _
      (λ t. shifted_fits v 14)
      (λ t. by_test (SFits w32) (leb 1 i && ltb i (suc m)) _ _ (λ u. l_add_fits (at l i) (l_mult v (at l (suc m - i) >> pos 16))) (λ u. l_coef_fits m i)))

  -- the first is 16384 << 15 after every order
  pub l_coef_first : (m : ℕ) → at (l_coef_of vpar m) 0 ≡ pos (2 ^ 29)
  unfolding l_coef_of raised_of
  l_coef_first zero =
      row_at 9 _ 0 (pos 0) (omega arith) ∙ by_yes _ _ refl ∙ left_exact w32 (pos 16384) 15 (record { sfits = omega arith })
  l_coef_first (suc m) =
      let untouched : leb 1 0 && ltb 0 (suc m) ≡ false = rw (lt-leb 1 0 (omega arith)) in
      row_at 9 _ 0 (pos 0) (omega arith) ∙ by_no _ _ (ne_eqb 0 (suc m) (λ e. omega arith)) ∙ by_no _ _ untouched ∙ l_coef_first m

  pub aav1_first : at (row 9 (aav1_of vpar)) 0 ≡ pos 1024
  unfolding aav1_of shift_right
  aav1_first = row_at 9 _ 0 (pos 0) (omega arith) ∙ ap (λ (z : ℤ). z >> pos 19) (l_coef_first 8)

  pub aav1_small : (k : ℕ) → nat_abs (at (row 9 (aav1_of vpar)) k) ≤ 4096
  unfolding aav1_of shift_right
  aav1_small =
      row_all (λ (z : ℤ). nat_abs z ≤ 4096) 9 (aav1_of vpar) (omega arith)
      (λ k. let z = at (l_coef_of vpar 8) k in omega (arith, floor_abs z 524287, fits_abs w32 z (l_coef_fits 8 k)))
