-- A signed local holds bits, so a goal has `to_z w (of_z w z)` where the code has z. With the ranges bound by `let`, `simp zreads t` and
-- `simp zreads at t` take these off; `ranged` and the three of one width make a range of what a call, an element of an array or a field gives.
-- Assumes nothing.
use mathlib.Core.Path.{◌≡◌, sym, ap, ◌∙◌}
use Prim.Native.Nat.{◌^◌, ◌<◌}
use lib.Dec.{T, leb}
use lib.IntN.{ℤ}
use lib.Signed.{mag}
use mir.Syntax.{Width, w16, w32, w64}
use mir.Val.{SFits, hbits, to_z, of_z}
use mir.Facts.{to_z-of_z, sfits_widen}

-- ---- a range: a parameter's is `c.fits.x`; a call's result has it as `c.f.ok`, an element as `.given`, both of this form
pub ranged : (w : Width) (z : ℤ) → mag z < 2 ^ hbits w → SFits w z
ranged w z h = record { sfits = h }

-- ---- what was stored and is read back: at its own width, and at a wider one
pub back : (w : Width) {z : ℤ} → mag z < 2 ^ hbits w → to_z w (of_z w z) ≡ z
back w h = to_z-of_z (record { sfits = h })

module _ (w v : Width) (t : T (leb (hbits w) (hbits v))) {z : ℤ} (f : SFits w z) where
  pub wider : SFits v z
  wider = sfits_widen t f

  -- a cast to the wider width: what it asks, and what is read there
  pub cast_need : SFits v (to_z w (of_z w z))
  cast_need = simp (to_z-of_z, f) wider

  pub cast_back : to_z v (of_z v (to_z w (of_z w z))) ≡ z
  cast_back = to_z-of_z cast_need ∙ to_z-of_z f

pub back16_32 : {z : ℤ} → SFits w16 z → to_z w32 (of_z w32 z) ≡ z
back16_32 f = to_z-of_z (wider w16 w32 tt f)

pub back16_64 : {z : ℤ} → SFits w16 z → to_z w64 (of_z w64 z) ≡ z
back16_64 f = to_z-of_z (wider w16 w64 tt f)

pub back32_64 : {z : ℤ} → SFits w32 z → to_z w64 (of_z w64 z) ≡ z
back32_64 f = to_z-of_z (wider w32 w64 tt f)

pub given16 : {z : ℤ} → mag z < 2 ^ 15 → to_z w16 (of_z w16 z) ≡ z
given16 = back w16

pub given32 : {z : ℤ} → mag z < 2 ^ 31 → to_z w32 (of_z w32 z) ≡ z
given32 = back w32

pub given64 : {z : ℤ} → mag z < 2 ^ 63 → to_z w64 (of_z w64 z) ≡ z
given64 = back w64

pub ruleset zreads = (to_z-of_z, back16_32, back16_64, back32_64, given16, given32, given64)

-- ---- `x == y` of signed numbers is a fact about their bits
pub same_bits : (w : Width) {x y : ℤ} → SFits w x → SFits w y → of_z w x ≡ of_z w y → x ≡ y
same_bits w f g e = sym (to_z-of_z f) ∙ ap (to_z w) e ∙ to_z-of_z g

pub other_bits : (w : Width) {x y : ℤ} → (of_z w x ≡ of_z w y → ⊥) → x ≡ y → ⊥
other_bits w h e = h (ap (of_z w) e)
