-- `lags::ptch` adds the two counts at 32 bits, where the sum fits. Assumes nothing.
use lib.IntN.{ℤ, ◌+ℤ◌}
use mir.Syntax.{w16, w32}
use mir.Val.{SFits}
use Rattle.numbers.proofs.Parts.{zarith, of, plus}
use Rattle.numbers.proofs.Read.{zreads}
use Rattle.lags.specs.Lags.{ptch_of}
use Rattle.lags.proofs.ptch.Goals as goal

fits : {a b : ℤ} → SFits w16 a → SFits w16 b → SFits w32 (a +ℤ b)
fits {a} {b} f g = omega (zarith, of a, of b, plus a b, f.sfits, g.sfits)

pub returns : goal.returns
unfolding ptch_of
returns c =
    let f = c.ranges.oldlagcount in
    let g = c.ranges.veryoldlagcount in
    let h = fits f g in
    rw (c.from.ensures, c.from-2.ensures) (simp zreads)
