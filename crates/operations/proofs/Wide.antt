-- Two numbers of a width w, taken to a wider width v: their sum and difference are exact there, since they fit. Then what a clamp gives back.
-- Assumes nothing.
use mathlib.Core.Path.{◌≡◌, sym, ap, ◌∙◌, subst}
use Prim.Native.Nat.{suc, ◌*◌, ◌^◌, ◌<◌, ◌≤◌}
use native.Mathlib.Omega.{arith}
use lib.Dec.{T, ltb, leb, ltb→lt}
use lib.IntN.{ℤ, ◌+ℤ◌, ◌-ℤ◌}
use lib.Signed.{mag}
use lib.Pow.{pow_mono}
use mir.Syntax.{Width}
use mir.Val.{SFits, hbits, to_z, of_z}
use mir.Facts.{to_z-of_z}
use Rattle.std.specs.Int.{int_max, int_min}
use Rattle.numbers.specs.Clamp.{clamp}
use Rattle.numbers.proofs.Clamp.{highest, lowest, clamp_fits, between}
use Rattle.numbers.proofs.Parts.{zarith, of, plus, minus}
use Rattle.numbers.proofs.Read.{back, wider}

-- a sum and a difference fit one width up
module _ (w v : Width) (t : T (ltb (hbits w) (hbits v))) {a b : ℤ} (fa : SFits w a) (fb : SFits w b) where
  room : 2 * 2 ^ hbits w ≤ 2 ^ hbits v
  room = omega (arith, pow_mono {i = suc (hbits w)} {j = hbits v} (ltb→lt (hbits w) (hbits v) t))

  pub sum_fits : SFits v (a +ℤ b)
  sum_fits = omega (zarith, of a, of b, plus a b, room, fa.sfits, fb.sfits)

  pub difference_fits : SFits v (a -ℤ b)
  difference_fits = omega (zarith, of a, of b, minus a b, room, fa.sfits, fb.sfits)

-- a call of a clamp, whose argument is x
pub clamped : (w : Width) {r x z : ℤ} → mag r < 2 ^ hbits w → r ≡ clamp w x → x ≡ z → to_z w (of_z w r) ≡ clamp w z
clamped w h e i = back w h ∙ e ∙ ap (clamp w) i

-- the library's `clamp` between the ends of the width w, computed at a wider width v and taken down to w
pub between_back : (v w : Width) → T (leb (hbits w) (hbits v)) → {r : ℤ} (x : ℤ) → r ≡ int_max (lowest w) (int_min x (highest w)) → to_z w (of_z w (to_z v (of_z v r))) ≡ clamp w x
between_back v w t {r} x e =
    let i : r ≡ clamp w x = e ∙ between w x in
    let f : SFits w r = subst (SFits w) (sym i) (clamp_fits w x) in
    ap (λ (z : ℤ). to_z w (of_z w z)) (to_z-of_z (wider w v t f)) ∙ to_z-of_z f ∙ i
