-- A test for a negative number is the other way round a test for one that is not. Assumes nothing.
use mathlib.Core.Path.{◌≡◌}
use mathlib.Core.Bool.{true, false}
use lib.IntN.{ℤ, pos}
use lib.Signed.{lt_z, le_z}
use Rattle.numbers.proofs.Parts.{zarith}

pub negative : (z : ℤ) → lt_z z (pos 0) ≡ true → le_z (pos 0) z ≡ false
negative z t = omega zarith

pub not_negative : (z : ℤ) → lt_z z (pos 0) ≡ false → le_z (pos 0) z ≡ true
not_negative z t = omega zarith
