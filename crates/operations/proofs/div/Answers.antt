-- `operations::div` gives the clamped quotient in 32768ths. By a number below 0, both are negated, which changes no quotient. Assumes nothing.
use mathlib.Core.Path.{◌≡◌, refl, sym, ap, ap₂, ◌∙◌}
use mathlib.Core.Bool.{true, false}
use Prim.Native.Nat.{zero, suc}
use lib.IntN.{ℤ, nat_abs, pos, negsuc, neg_ℤ, ◌-ℤ◌, ◌*ℤ◌}
use lib.Signed.{lt_z, shr_z, ◌<ℤ◌}
use mir.Syntax.{w16, w32, w64}
use mir.Val.{SFits, to_z, of_z}
use mir.Facts.{sfits_lit, to_z-of_z}
use Rattle.std.specs.Int.{int_div_euclid}
use Rattle.numbers.proofs.Parts.{zarith, neg, minus, times, of}
use Rattle.numbers.proofs.Read.{back, same_bits, other_bits, zreads}
use Rattle.operations.specs.Operations.{over, div}
use Rattle.operations.proofs.Wide.{clamped}
use Rattle.operations.proofs.div.Goals as goal
use Rattle.operations.proofs.div.Goals.{then-y-eq0, else-y-eq0+then-y-lt0, else-y-eq0+else-y-lt0}

-- ---- over plain numbers
scaled : {x : ℤ} → SFits w16 x → SFits w32 (x *ℤ pos 32768)
scaled {x} f = omega (zarith, of x, times x (pos 32768), f.sfits)

unscaled : {x : ℤ} → SFits w16 x → SFits w32 (pos 0 -ℤ x *ℤ pos 32768)
unscaled {x} f = omega (zarith, of x, times x (pos 32768), minus (pos 0) (x *ℤ pos 32768), f.sfits)

negated : {y : ℤ} → SFits w16 y → SFits w32 (pos 0 -ℤ y)
negated {y} f = omega (zarith, of y, minus (pos 0) y, f.sfits)

positive : (y : ℤ) → (y ≡ pos 0 → ⊥) → lt_z y (pos 0) ≡ false → pos 0 <ℤ y
positive (pos zero) h t = absurd (h refl)
positive (pos (suc n)) h t = omega zarith
positive (negsuc n) h t = absurd (omega zarith)

zero_less : (z : ℤ) → pos 0 -ℤ z ≡ neg_ℤ z
zero_less z = omega (zarith, minus (pos 0) z, neg z)

-- by a positive number the library's quotient is the one rounded down
euclid : (n d : ℤ) → pos 0 <ℤ d → int_div_euclid n d ≡ shr_z n (nat_abs d)
euclid (pos a) (pos b) h = refl
euclid (negsuc a) (pos b) h = refl
euclid n (negsuc b) h = absurd (omega zarith)

over_zero : (n y : ℤ) → y ≡ pos 0 → n ≡ over n y
unfolding over
over_zero n y e = sym (ap (over n) e)

over_below : (n y : ℤ) → lt_z y (pos 0) ≡ true → shr_z (pos 0 -ℤ n) (nat_abs (pos 0 -ℤ y)) ≡ over n y
unfolding over
over_below n (pos k) t = absurd (omega zarith)
over_below n (negsuc k) t = ap₂ (λ (a b : ℤ). shr_z a (nat_abs b)) (zero_less n) (zero_less (negsuc k))

over_above : (n y : ℤ) → pos 0 <ℤ y → shr_z n (nat_abs y) ≡ over n y
unfolding over
over_above n (pos zero) h = absurd (omega zarith)
over_above n (pos (suc k)) h = refl
over_above n (negsuc k) h = absurd (omega zarith)

-- y is not 0 and not below it, as the code tests it
above : {y : ℤ} → SFits w16 y → (of_z w16 y ≡ 0 → ⊥) → lt_z (to_z w16 (of_z w16 y)) (pos 0) ≡ false → pos 0 <ℤ y
above {y} f n t = positive y (other_bits w16 n) (simp zreads at t)

-- ---- the goals
pub returns : goal.returns
unfolding div
returns c =
    let x = c.args.x in
    let y = c.args.y in
    let f = c.ranges.x in
    let g = scaled f in
    let i = c.ranges.y in
    let n : c.from-n.result ≡ x = c.from-n.ensures ∙ to_z-of_z f in
    let d : c.from-d.result ≡ y = c.from-d.ensures ∙ to_z-of_z i in
    let is : c.from.result ≡ over (x *ℤ pos 32768) y =
    elim c.if-y-eq0.branch [
      | then-y-eq0 w ↦
          c.from.ensures ∙ (simp (n, zreads) at w.quotient-is) ∙ over_zero (x *ℤ pos 32768) y (same_bits w16 i (sfits_lit tt) w.if-y-eq0.true)
      | else-y-eq0+then-y-lt0 w ↦
          let h = unscaled f in
          let j = negated i in
          let t = simp zreads at w.if-y-lt0.true in
          let p : pos 0 <ℤ (pos 0 -ℤ y) = omega (zarith, minus (pos 0) y) in
          let e : w.div_euclid.result ≡ int_div_euclid (pos 0 -ℤ x *ℤ pos 32768) (pos 0 -ℤ y) = simp (n, d, zreads) at w.div_euclid.ensures in
          c.from.ensures ∙ w.quotient-is ∙ back w32 w.div_euclid.type_inv ∙ e ∙ euclid (pos 0 -ℤ x *ℤ pos 32768) (pos 0 -ℤ y) p ∙ over_below (x *ℤ pos 32768) y t
      | else-y-eq0+else-y-lt0 w ↦
          let p = above i w.if-y-eq0.false w.if-y-lt0.false in
          let e : w.div_euclid-else-y-lt0.result ≡ int_div_euclid (x *ℤ pos 32768) y = simp (n, d, zreads) at w.div_euclid-else-y-lt0.ensures in
          c.from.ensures ∙ w.quotient-is ∙ back w32 w.div_euclid-else-y-lt0.type_inv ∙ e ∙ euclid (x *ℤ pos 32768) y p ∙ over_above (x *ℤ pos 32768) y p
    ] in
    clamped w16 c.nearest.type_inv c.nearest.ensures (back w64 c.from.type_inv ∙ is)
