-- `operations::mult_r` gives the clamped product in 32768ths, rounded to the nearest. Assumes nothing.
use mathlib.Core.Path.{◌≡◌, ◌∙◌, ap}
use Prim.Native.Nat.{◌^◌}
use native.Mathlib.Omega.{arith}
use lib.IntN.{ℤ, pos, ◌+ℤ◌, ◌*ℤ◌}
use lib.Signed.{shr_z}
use mir.Syntax.{w16, w32, w64}
use mir.Val.{SFits, to_z, of_z}
use Rattle.numbers.proofs.Read.{back, ranged, zreads}
use Rattle.numbers.proofs.Magnitude.{abs-+, abs-*-le, fits_abs, abs_fits}
use Rattle.operations.specs.Operations.{mult_r}
use Rattle.operations.proofs.Wide.{clamped}
use Rattle.operations.proofs.Shift.{right_back}
use Rattle.operations.proofs.mult_r.Goals as goal

rounded : (x y : ℤ) → SFits w16 x → SFits w16 y → SFits w32 (x *ℤ y +ℤ pos 16384)
rounded x y f g =
    let small = abs-*-le x y (2 ^ 15) (2 ^ 15) (fits_abs w16 x f) (fits_abs w16 y g) in
    abs_fits w32 (x *ℤ y +ℤ pos 16384) (omega (arith, abs-+ (x *ℤ y) (pos 16384), small))

pub overflow_add-product : goal.overflow_add-product
overflow_add-product c =
    let f = c.ranges.x in
    let g = c.ranges.y in
    let z = c.product.result in
    let is : z ≡ c.args.x *ℤ c.args.y = simp zreads at c.product.ensures in
    let h = ranged w32 z c.product.type_inv in
    let r : SFits w32 (z +ℤ pos 16384) = rw is (rounded c.args.x c.args.y f g) in
    simp zreads r

pub returns : goal.returns
unfolding mult_r
returns c =
    let f = c.ranges.x in
    let g = c.ranges.y in
    let z = c.product.result in
    let is : z ≡ c.args.x *ℤ c.args.y = simp zreads at c.product.ensures in
    let h = ranged w32 z c.product.type_inv in
    let e : to_z w32 (of_z w32 z) +ℤ pos 16384 ≡ c.args.x *ℤ c.args.y +ℤ pos 16384 = simp zreads (ap (λ (p : ℤ). p +ℤ pos 16384) is) in
    clamped w16 c.nearest.type_inv c.nearest.ensures (back w64 c.from.type_inv ∙ c.from.ensures ∙ ap (λ (p : ℤ). to_z w32 (of_z w32 (shr_z (to_z w32 (of_z w32 p)) 32768))) e ∙ right_back w32 (c.args.x *ℤ c.args.y +ℤ pos 16384) 15 (rounded c.args.x c.args.y f g))
