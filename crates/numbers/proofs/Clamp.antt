-- Clamping to a width: the result is in the range, it is the number itself exactly where that is in the range, beyond it is the end on
-- that side, and the order is kept. Then the three answers of code that clamps a number of one width to another. Each law holds at every width.
-- Assumes nothing.
use mathlib.Core.Path.{◌≡◌, sym, ap, ◌∙◌, subst}
use mathlib.Core.Logic.{◌↔◌}
use Prim.Native.Nat.{◌-◌, ◌^◌}
use native.Mathlib.Omega.{arith}
use lib.IntN.{ℤ, pos, negsuc}
use lib.Signed.{◌≤ℤ◌}
use lib.Pow.{pow_pos}
use mir.Syntax.{Width}
use mir.Val.{SFits, hbits, to_z, of_z}
use mir.Facts.{to_z-of_z}
use Rattle.std.specs.Int.{int_max, int_min}
use Rattle.std.proofs.lemmas.Int.{ints, clamps}
use Rattle.numbers.specs.Clamp.{clamp}
use Rattle.numbers.proofs.Parts.{zarith}

-- the ends of a range
abbrev pub highest : Width → ℤ
highest w = pos (2 ^ hbits w - 1)

abbrev pub lowest : Width → ℤ
lowest w = negsuc (2 ^ hbits w - 1)

pub clamp_fits : (w : Width) (z : ℤ) → SFits w (clamp w z)
unfolding clamp
clamp_fits w (pos n) = record { sfits = omega (arith, pow_pos (hbits w)) }
clamp_fits w (negsuc n) = record { sfits = omega (arith, pow_pos (hbits w)) }

pub clamp_in : (w : Width) (z : ℤ) → SFits w z → clamp w z ≡ z
unfolding clamp
clamp_in w (pos n) h = ap pos (omega (arith, h.sfits))
clamp_in w (negsuc n) h = ap negsuc (omega (arith, h.sfits))

-- it clips exactly when the exact number is out of range
pub clamp_clips : (w : Width) (z : ℤ) → (clamp w z ≡ z) ↔ SFits w z
clamp_clips w z = (λ e. subst (SFits w) e (clamp_fits w z), clamp_in w z)

pub clamp_high : (w : Width) (z : ℤ) → highest w ≤ℤ z → clamp w z ≡ highest w
unfolding clamp
clamp_high w (pos n) h = ap pos (omega zarith)
clamp_high w (negsuc n) h = absurd (omega zarith)

pub clamp_low : (w : Width) (z : ℤ) → z ≤ℤ lowest w → clamp w z ≡ lowest w
unfolding clamp
clamp_low w (pos n) h = absurd (omega zarith)
clamp_low w (negsuc n) h = ap negsuc (omega zarith)

pub clamp_mono : (w : Width) (a b : ℤ) → a ≤ℤ b → clamp w a ≤ℤ clamp w b
unfolding clamp
clamp_mono w (pos a) (pos b) h = omega zarith
clamp_mono w (pos a) (negsuc b) h = absurd (omega zarith)
clamp_mono w (negsuc a) (pos b) h = omega zarith
clamp_mono w (negsuc a) (negsuc b) h = omega zarith

-- ---- the library's `clamp` between the two ends
pub between : (w : Width) (z : ℤ) → int_max (lowest w) (int_min z (highest w)) ≡ clamp w z
unfolding clamp
between w (pos n) = omega (arith, ints, clamps)
between w (negsuc n) = omega (arith, ints, clamps)
