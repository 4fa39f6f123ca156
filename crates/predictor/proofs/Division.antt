-- Clause 6.3.1, whatever the arrays are: it divides a number that is not negative by one that is not smaller, since it is left where P[0] is below
-- the magnitude of P[1]; and each coefficient is a number of 16 bits. Assumes nothing.
use mathlib.Core.Path.{◌≡◌}
use mathlib.Core.Bool.{false}
use mathlib.Core.List.{List, [], ◌∷◌}
use Prim.Native.Nat.{ℕ, zero, suc, ◌+◌}
use native.Mathlib.Omega.{arith}
use lib.IntN.{ℤ, nat_abs, pos}
use lib.ListN.{set}
use lib.Signed.{lt_z, ◌≤ℤ◌}
use mir.Syntax.{w16}
use mir.Val.{SFits}
use Rattle.numbers.specs.Sum.{at}
use Rattle.numbers.specs.Clamp.{clamp}
use Rattle.numbers.proofs.Parts.{zarith}
use Rattle.numbers.proofs.Clamp.{clamp_mono}
use Rattle.operations.specs.Operations.{abs, div}
use Rattle.operations.proofs.Laws.{sub_fits, div_fits}
use Rattle.rows.specs.Choice.{eqZ}
use Rattle.rows.specs.Rows.{row}
use Rattle.rows.proofs.Choice.{by_test}
use Rattle.rows.proofs.Fill.{row_all}
use Rattle.predictor.specs.Schur.{Arrays, leaves_of, coefficient_of, outer_from, schur_of, reflection_of, vpar_of}

pub abs_some : (x : ℤ) → pos 0 ≤ℤ abs x
unfolding abs clamp
abs_some x = clamp_mono w16 (pos 0) (pos (nat_abs x)) (omega zarith)

pub stays : (P0 P1 : ℤ) → leaves_of P0 P1 ≡ false → abs P1 ≤ℤ P0
unfolding leaves_of
stays P0 P1 t = omega zarith

-- ---- the coefficients
abbrev Shorts : List ℤ → Type 0
Shorts l = (k : ℕ) → SFits w16 (at l k)

nothing : SFits w16 (pos 0)
nothing = record { sfits = omega arith }

set_shorts : (l : List ℤ) (n : ℕ) (x : ℤ) → SFits w16 x → Shorts l → Shorts (set l n x)
set_shorts [] n x f h k = h k
set_shorts (y ∷ l) zero x f h zero = f
set_shorts (y ∷ l) zero x f h (suc k) = h (suc k)
set_shorts (y ∷ l) (suc n) x f h zero = h zero
set_shorts (y ∷ l) (suc n) x f h (suc k) = set_shorts l n x f (λ j. h (suc j)) k

coefficient_fits : (P0 P1 : ℤ) → SFits w16 (coefficient_of P0 P1)
unfolding coefficient_of
coefficient_fits P0 P1 = by_test (SFits w16) (lt_z (pos 0) P1) _ _ (λ t. sub_fits (pos 0) (div (abs P1) P0)) (λ t. div_fits (abs P1) P0)

outer_fits : (N turns n : ℕ) (a : Arrays) (vpar : List ℤ) → Shorts vpar → Shorts (outer_from N turns n a vpar)
unfolding outer_from
outer_fits N zero n a vpar h = h
outer_fits N (suc turns) n a vpar h =
    let P0 = at a.P 0 in
    let P1 = at a.P 1 in
    let c = coefficient_of P0 P1 in
    by_test Shorts (leaves_of P0 P1) _ _ (λ t. h) (λ t. outer_fits N turns (n + 1) _ (set vpar n c) (set_shorts vpar n c (coefficient_fits P0 P1) h))

-- of any order
pub reflection_fits : (N : ℕ) (l_av1 : List ℤ) (k : ℕ) → SFits w16 (at (reflection_of N l_av1) k)
unfolding reflection_of schur_of
reflection_fits N l_av1 =
    let none : Shorts (row 9 (λ i. pos 0)) = row_all (SFits w16) 9 (λ i. pos 0) nothing (λ k. nothing) in
    by_test Shorts (eqZ (at l_av1 0) (pos 0)) _ _ (λ t. none) (λ t. outer_fits N N 1 _ _ none)

pub vpar_fits : (l_av1 : List ℤ) (k : ℕ) → SFits w16 (at (vpar_of l_av1) k)
unfolding vpar_of
vpar_fits l_av1 = reflection_fits 8 l_av1
