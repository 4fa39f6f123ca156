-- `operations::norm` gives the norm. The magnitude is moved up by one digit, so its zeros among 32 digits are as many as they were among 31. Nothing is
-- left of 0, nor of 2^31, and the norm of both is 0. Assumes nothing.
use mathlib.Core.Path.{◌≡◌, refl, sym, ap, ◌∙◌}
use Prim.Native.Nat.{ℕ, zero, suc, ◌*◌, ◌%◌, ◌^◌, ◌<◌}
use native.Mathlib.Omega.{arith}
use lib.Count.{count_leading_zeros, leading_le}
use lib.IntN.{ℤ, nat_abs, pos, negsuc}
use mir.Syntax.{w16, w32}
use mir.Val.{SFits}
use mir.Facts.{to_z_pos}
use Rattle.numbers.proofs.Magnitude.{fits_abs}
use Rattle.numbers.proofs.Read.{zreads}
use Rattle.operations.specs.Operations.{norm}
use Rattle.operations.proofs.Normal.{norm_zero, norm_least}
use Rattle.operations.proofs.norm.Goals as goal

-- ---- over plain numbers

-- a number moved up by one digit has as many zeros among k + 1 digits as it had among k
moved_zeros : (k a b : ℕ) → b ≡ a * 2 → 0 < b → count_leading_zeros (suc k) b ≡ count_leading_zeros k a
unfolding count_leading_zeros
moved_zeros k a zero e h = absurd (omega arith)
moved_zeros k a (suc b) e h = ap (count_leading_zeros k) (omega arith)

count_fits : (a : ℕ) → count_leading_zeros 32 a < 2 ^ 15
count_fits a = omega (arith, leading_le 32 a)

-- a magnitude moved up, in 32 digits
abbrev up : ℕ → ℕ
up a = a * 2 % 2 ^ 32

up_whole : (a : ℕ) → a < 2 ^ 31 → up a ≡ a * 2
up_whole a h = omega arith

nothing_left : (z : ℤ) → SFits w32 z → up (nat_abs z) ≡ 0 → norm z ≡ pos 0
nothing_left (pos n) f e = ap (λ (k : ℕ). norm (pos k)) (omega (arith, up_whole n f.sfits)) ∙ norm_zero
nothing_left (negsuc n) f e =
    let no : suc n < 2 ^ 31 → ⊥ = λ h. omega (arith, up_whole (suc n) h) in
    ap (λ (k : ℕ). norm (negsuc k)) (omega (arith, f.sfits)) ∙ norm_least

some_left : (z : ℤ) → SFits w32 z → 0 < up (nat_abs z) → norm z ≡ pos (count_leading_zeros 32 (up (nat_abs z)))
unfolding norm
some_left z f h = by z h ∙ ap pos (sym (moved_zeros 31 (nat_abs z) (up (nat_abs z)) (omega (arith, fits_abs w32 z f)) h))
  where
    by : (z : ℤ) → 0 < up (nat_abs z) → norm z ≡ pos (count_leading_zeros 31 (nat_abs z))
    by (pos zero) h = absurd (omega arith)
    by (pos (suc n)) h = refl
    by (negsuc n) h = refl

-- ---- the goals
pub returns-then-m-eq0 : goal.returns-then-m-eq0
returns-then-m-eq0 c =
    let f = c.ranges.x in
    let is : c.magnitude-m.result ≡ nat_abs c.args.x = simp zreads at c.magnitude-m.ensures in
    sym (nothing_left c.args.x f (ap (λ (a : ℕ). up a) (sym is) ∙ c.if-m-eq0.true))

pub returns-else-m-eq0 : goal.returns-else-m-eq0
returns-else-m-eq0 c =
    let f = c.ranges.x in
    let is : c.magnitude-m.result ≡ nat_abs c.args.x = simp zreads at c.magnitude-m.ensures in
    to_z_pos w16 (count_fits _)
    ∙ ap (λ (a : ℕ). pos (count_leading_zeros 32 (up a))) is
    ∙ sym (some_left c.args.x f (rw (sym is) (omega (arith, c.if-m-eq0.false))))
