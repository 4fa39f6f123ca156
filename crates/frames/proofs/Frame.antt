-- What the tests of a frame say: how long lent buffers are, and that a number is a digit. Assumes nothing.
use mathlib.Core.Path.{◌≡◌}
use mathlib.Core.Bool.{Bool, true, false}
use mathlib.Core.List.{List}
use Prim.Native.Nat.{ℕ, ◌<◌}
use native.Mathlib.Omega.{arith}
use lib.Dec.{eqb}
use borrow.Author.Tests.{eqb-true}
use lib.IntN.{ℤ}
use lib.ListN.{length}
use Rattle.rows.specs.Choice.{IF◌THEN◌ELSE◌}
use Rattle.rows.proofs.Choice.{and_left, and_right}
use Rattle.frames.specs.Frame.{lengths_ok, scale_ok, acf_ok, lags_ok, frame_refusal_of}

pub nine : (l_acf : List ℤ) (lags : List ℕ) → lengths_ok l_acf lags ≡ true → length l_acf ≡ 9
unfolding lengths_ok
nine l_acf lags t = eqb-true (length l_acf) 9 (and_left (eqb (length l_acf) 9) (eqb (length lags) 4) t)

pub four : (l_acf : List ℤ) (lags : List ℕ) → lengths_ok l_acf lags ≡ true → length lags ≡ 4
unfolding lengths_ok
four l_acf lags t = eqb-true (length lags) 4 (and_right (eqb (length l_acf) 9) (eqb (length lags) 4) t)

pub frame_digit : (l_acf : List ℤ) (lags : List ℕ) (scalvad : ℤ) → frame_refusal_of l_acf lags scalvad < 10
unfolding frame_refusal_of IF◌THEN◌ELSE◌
frame_digit l_acf lags scalvad = go (scale_ok scalvad) (acf_ok l_acf) (lags_ok lags)
  where
    go : (c d e : Bool) → (IF c THEN IF d THEN IF e THEN 0 ELSE 4 ELSE 3 ELSE 2) < 10
    go false d e = omega arith
    go true false e = omega arith
    go true true false = omega arith
    go true true true = omega arith
