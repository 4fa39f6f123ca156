-- Clause 6.4, of an average whose first entry is a long number that is not negative: sav0[0] lies in 2048..4095, so that it loses nothing shifted by 3,
-- what is divided lies in 0..32767, and the magnitude of a sum is not negative. Assumes nothing.
use mathlib.Core.Path.{◌≡◌, refl, sym, ap, ◌∙◌, subst}
use mathlib.Core.Bool.{true, false}
use mathlib.Core.List.{List}
use Prim.Native.Nat.{ℕ, zero, suc, ◌+◌, ◌*◌, ◌/◌, ◌^◌, ◌<◌, ◌≤◌}
use native.Mathlib.Nat.{div-add-mod', mod-lt}
use native.Mathlib.Omega.{arith}
use lib.Dec.{T}
use lib.IntN.{ℤ, nat_abs, pos, negsuc, ◌-ℤ◌, ◌*ℤ◌}
use lib.Pow.{pow-add, pow_pos}
use lib.Signed.{lt_z, ◌≤ℤ◌}
use mir.Syntax.{w16, w32}
use mir.Val.{SFits}
use Rattle.numbers.specs.Sum.{at}
use Rattle.numbers.specs.Clamp.{clamp}
use Rattle.numbers.specs.Floor.{residue}
use Rattle.numbers.specs.Wrap.{wrap}
use Rattle.numbers.proofs.Parts.{zarith, of, sign, minus, times}
use Rattle.numbers.proofs.Clamp.{clamp_mono}
use Rattle.operations.specs.Operations.{sub, l_sub, norm, shift_left, shift_right, ◌<<◌, ◌>>◌, ◌<<ₛ◌}
use Rattle.operations.proofs.Laws.{sub_exact, l_sub_fits, left_exact}
use Rattle.operations.proofs.Exact.{right_parts}
use Rattle.operations.proofs.Lift.{norm_is, lift_high}
use Rattle.operations.proofs.Normal.{Normal, norm_brings, shift_high}
use Rattle.rows.specs.Choice.{eqZ}
use Rattle.rows.proofs.Choice.{by_test, either, eqZ_yes}
use Rattle.rows.proofs.Sum.{l_sum_fits}
use Rattle.spectrum.specs.Spectrum.{sav0_of, l_Σp_of, size_of}

-- a long number that is not negative
pub record Long (x : ℤ) : Type 0 where
  pub not_negative : pos 0 ≤ℤ x
  pub fits : nat_abs x < 2 ^ 31

pub long : (x : ℤ) → pos 0 ≤ℤ x → SFits w32 x → Long x
long x h f = record { not_negative = h; fits = omega (zarith, of x, sign x, f.sfits) }

-- ---- the magnitude of a long number
less : (x : ℤ) → lt_z x (pos 0) ≡ true → pos 0 ≤ℤ l_sub (pos 0) x
unfolding l_sub clamp
less x t = clamp_mono w32 (pos 0) (pos 0 -ℤ x) (omega (zarith, minus (pos 0) x))

magnitude_long : (x : ℤ) → SFits w32 x → Long (size_of x)
unfolding size_of
magnitude_long x f =
    by_test Long (lt_z x (pos 0)) (l_sub (pos 0) x) x (λ t. long (l_sub (pos 0) x) (less x t) (l_sub_fits (pos 0) x)) (λ t. long x (omega zarith) f)

pub temp_long : (rav1 l_av0 : List ℤ) → Long (size_of (l_Σp_of rav1 l_av0))
unfolding l_Σp_of
temp_long rav1 l_av0 = magnitude_long _ (l_sum_fits 8 _)

-- ---- `( x << norm( x ) ) >> 16`
abbrev Short : ℤ → Type 0
Short z = (pos 0 ≤ℤ z) × (z ≤ℤ pos 32767)

top_zero : Short (pos 0 << norm (pos 0) >> pos 16)
unfolding norm shift_left shift_right wrap residue
top_zero = (omega zarith, omega zarith)

pub top_range : (x : ℤ) → Long x → (pos 0 ≤ℤ (x << norm x >> pos 16)) × ((x << norm x >> pos 16) ≤ℤ pos 32767)
top_range x l =
    either (Short (x << norm x >> pos 16)) (lt_z (pos 0) x)
    (λ t.
    let h = lift_high x (omega (zarith, of x)) l.fits (omega zarith) in
    let r = right_parts w32 (x << norm x) 16 in
    (omega zarith, omega zarith))
    (λ t. let e : pos 0 ≡ x = omega (zarith, l.not_negative) in subst (λ (z : ℤ). Short (z << norm z >> pos 16)) e top_zero)

-- ---- `( x << shift-3 ) >> 16`, with shift the norm of x, which is positive
abbrev Twelve : ℤ → Type 0
Twelve z = (pos 2048 ≤ℤ z) × (z ≤ℤ pos 4095)

-- what is in 2^27..2^28-1
from_28 : (y : ℕ) → 2 ^ 27 ≤ y → y < 2 ^ 28 → Twelve (pos y >> pos 16)
unfolding shift_right
from_28 y a b = (omega (zarith, div-add-mod' y 65536, mod-lt y (pow_pos 16)), omega (zarith, div-add-mod' y 65536))

by_norm : (a k : ℕ) → 1 ≤ a → Normal a k → Twelve (pos a << sub (pos k) (pos 3) >> pos 16)
unfolding sub clamp shift_left
by_norm a zero h n = from_28 (a / 8) (omega (arith, n.low, div-add-mod' a 8, mod-lt a (pow_pos 3))) (omega (arith, n.high, div-add-mod' a 8))
by_norm a (suc zero) h n = from_28 (a / 4) (omega (arith, n.low, div-add-mod' a 4, mod-lt a (pow_pos 2))) (omega (arith, n.high, div-add-mod' a 4))
by_norm a (suc (suc zero)) h n = from_28 (a / 2) (omega (arith, n.low, div-add-mod' a 2, mod-lt a (pow_pos 1))) (omega (arith, n.high, div-add-mod' a 2))
by_norm a (suc (suc (suc j))) h n =
    let x = pos (suc (suc (suc j))) in
    let s : 0 + suc (suc (suc j)) ≤ 30 = shift_high a (suc (suc (suc j))) n 0 h in
    let e : sub x (pos 3) ≡ pos j = sub_exact x (pos 3) (omega (zarith, minus x (pos 3))) ∙ omega (zarith, minus x (pos 3)) in
    let c : suc (suc (suc j)) ≡ 3 + j = omega arith in
    let p : 2 ^ suc (suc (suc j)) ≡ 8 * 2 ^ j = ap (λ (m : ℕ). 2 ^ m) c ∙ pow-add 2 3 j in
    let q = ap (λ (m : ℕ). a * m) p in
    let w : 2 ^ 27 ≤ a * 2 ^ j = omega (arith, n.low) in
    let v : a * 2 ^ j < 2 ^ 28 = omega (arith, n.high) in
    rw (e, left_exact w32 (pos a) j (record { sfits = omega arith })) (from_28 (a * 2 ^ j) w v)

-- ---- sav0[0]
pub sav0_first : (l_av0 : List ℤ) → Long (at l_av0 0) → (pos 2048 ≤ℤ sav0_of l_av0 0) × (sav0_of l_av0 0 ≤ℤ pos 4095)
unfolding sav0_of
sav0_first l_av0 l =
    by_test Twelve (eqZ (at l_av0 0) (pos 0)) (pos 4095) _ (λ t. (omega zarith, omega zarith)) (λ t. by (at l_av0 0) l t)
  where
    by : (x : ℤ) → Long x → eqZ x (pos 0) ≡ false → Twelve (x << sub (norm x) (pos 3) >> pos 16)
    by (pos zero) l t = absurd (subst T (sym (eqZ_yes {x = pos 0} {y = pos 0} refl) ∙ t) tt)
    by (pos (suc n)) l t = rw (norm_is (pos (suc n)) (omega arith) l.fits) (by_norm (suc n) (nat_abs (norm (pos (suc n)))) (omega arith) (norm_brings (pos (suc n)) (omega arith) l.fits))
    by (negsuc n) l t = absurd (omega (zarith, l.not_negative))

-- `sav0[0] << 3` loses nothing, and is in 16384..32760
module _ (l_av0 : List ℤ) (l : Long (at l_av0 0)) where
  pub sav0_eight : sav0_of l_av0 0 <<ₛ pos 3 ≡ sav0_of l_av0 0 *ℤ pos 8
  sav0_eight = let x = sav0_of l_av0 0 in let h = sav0_first l_av0 l in left_exact w16 x 3 (omega (zarith, times x (pos 8)))

  pub divisor_range : (pos 16384 ≤ℤ (sav0_of l_av0 0 <<ₛ pos 3)) × ((sav0_of l_av0 0 <<ₛ pos 3) ≤ℤ pos 32760)
  divisor_range =
      let x = sav0_of l_av0 0 in
      let h = sav0_first l_av0 l in
      rw sav0_eight (omega (zarith, times x (pos 8)), omega (zarith, times x (pos 8)))
