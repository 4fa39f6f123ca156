-- `operations::l_mult` clips the one double that does not fit, and answers the others as they are. Assumes nothing.
use mathlib.Core.Path.{◌≡◌, sym, ap, ◌∙◌}
use Prim.Native.Nat.{◌≤◌}
use native.Mathlib.Omega.{arith}
use lib.IntN.{ℤ, nat_abs, pos, negsuc, ◌*ℤ◌}
use mir.Syntax.{w16, w32}
use mir.Val.{SFits}
use Rattle.numbers.specs.Clamp.{clamp}
use Rattle.numbers.proofs.Parts.{zarith, of, times}
use Rattle.numbers.proofs.Magnitude.{abs-*-le, fits_abs, abs_fits}
use Rattle.numbers.proofs.Clamp.{clamp_in}
use Rattle.numbers.proofs.Read.{ranged, same_bits, other_bits, zreads}
use Rattle.operations.specs.Operations.{l_mult}
use Rattle.operations.proofs.l_mult.Goals as goal

-- every product is within 2^30 of 0, and the double of each but 2^30 itself fits
double_fits : (z : ℤ) → nat_abs z ≤ 1073741824 → (z ≡ pos 1073741824 → ⊥) → SFits w32 (z *ℤ pos 2)
double_fits (pos n) h k = let l : (n ≡ 1073741824 → ⊥) = λ e. k (ap pos e) in omega (zarith, of (pos n), times (pos n) (pos 2))
double_fits (negsuc n) h k = omega (zarith, of (negsuc n), times (negsuc n) (pos 2))

product_small : (x y : ℤ) → SFits w16 x → SFits w16 y → nat_abs (x *ℤ y) ≤ 1073741824
product_small x y f g = abs-*-le x y 32768 32768 (fits_abs w16 x f) (fits_abs w16 y g)

pub returns-then-p : goal.returns-then-p
unfolding l_mult clamp
returns-then-p c =
    let f = c.ranges.x in
    let g = c.ranges.y in
    let is : c.product-p.result ≡ c.args.x *ℤ c.args.y = simp zreads at c.product-p.ensures in
    let e : c.product-p.result ≡ pos 1073741824 = same_bits w32 (ranged w32 c.product-p.result c.product-p.type_inv) (abs_fits w32 (pos 1073741824) (omega arith)) c.if-p.true in
    ap (λ (z : ℤ). clamp w32 (z *ℤ pos 2)) (sym e ∙ is)

pub overflow_mul-result : goal.overflow_mul-result
overflow_mul-result c =
    let f = c.ranges.x in
    let g = c.ranges.y in
    let is : c.product-p.result ≡ c.args.x *ℤ c.args.y = simp zreads at c.product-p.ensures in
    let h = ranged w32 c.product-p.result c.product-p.type_inv in
    simp zreads (double_fits c.product-p.result (rw is (product_small c.args.x c.args.y f g)) (other_bits w32 c.if-p.false))

pub returns-else-p : goal.returns-else-p
unfolding l_mult
returns-else-p c =
    let f = c.ranges.x in
    let g = c.ranges.y in
    let is : c.product-p.result ≡ c.args.x *ℤ c.args.y = simp zreads at c.product-p.ensures in
    let h = ranged w32 c.product-p.result c.product-p.type_inv in
    let d = double_fits c.product-p.result (rw is (product_small c.args.x c.args.y f g)) (other_bits w32 c.if-p.false) in
    simp zreads (sym (clamp_in w32 _ d) ∙ ap (λ (z : ℤ). clamp w32 (z *ℤ pos 2)) is)
