-- What clause 6.4 writes out, a number or what is 0 less it, is the magnitude, saturated. Assumes nothing.
use mathlib.Core.Path.{◌≡◌, ap, ◌∙◌}
use lib.IntN.{ℤ, nat_abs, pos, ◌-ℤ◌}
use lib.Signed.{lt_z}
use mir.Syntax.{w32}
use mir.Val.{SFits}
use Rattle.numbers.specs.Clamp.{clamp}
use Rattle.numbers.proofs.Parts.{zarith, of, sign, minus}
use Rattle.numbers.proofs.Clamp.{clamp_in}
use Rattle.operations.specs.Operations.{l_abs, l_sub}
use Rattle.rows.proofs.Choice.{by_test}
use Rattle.spectrum.specs.Spectrum.{size_of}

pub size_abs : (x : ℤ) → SFits w32 x → l_abs x ≡ size_of x
unfolding l_abs l_sub size_of
size_abs x f =
    by_test (λ (z : ℤ). clamp w32 (pos (nat_abs x)) ≡ z) (lt_z x (pos 0)) (l_sub (pos 0) x) x
    (λ t. let e : pos (nat_abs x) ≡ pos 0 -ℤ x = omega (zarith, of x, sign x, minus (pos 0) x) in ap (clamp w32) e)
    (λ t. let e : pos (nat_abs x) ≡ x = omega (zarith, of x, sign x) in ap (clamp w32) e ∙ clamp_in w32 x f)
