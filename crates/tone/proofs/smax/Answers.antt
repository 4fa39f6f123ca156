-- `tone::smax` gives the largest magnitude: after some turns it is that of the largest and the least of so many samples. Assumes nothing.
use Rattle.std.proofs.Common.{rules, add-one}
use mathlib.Core.Path.{◌≡◌, subst}
use Prim.Native.Nat.{ℕ}
use mir.Syntax.{w16}
use mir.Val.{SFits, to_z, of_z}
use mir.Facts.{to_z-of_z}
use Rattle.numbers.specs.Sum.{at}
use Rattle.operations.specs.Operations.{abs}
use Rattle.tone.specs.Autocorrelation.{smax_of}
use Rattle.tone.proofs.Largest.{greater_of, lesser_of, max_is, min_is, start, more}
use Rattle.tone.proofs.smax.Goals as goal

pub loop-x-init : goal.loop-x-init
loop-x-init c = start _

pub loop-x-preserved : goal.loop-x-preserved
loop-x-preserved c =
    let n = c.loop-x.x-index in
    let x = at c.args.sofh n in
    let h = to_z w16 c.loop-x.high-bits in
    let l = to_z w16 c.loop-x.low-bits in
    let m = max_is h x in
    let k = min_is l x in
    let f : SFits w16 x = search rules in
    let high : to_z w16 (of_z w16 c.max-high.result) ≡ greater_of h x = search (rules, to_z-of_z) in
    let low : to_z w16 (of_z w16 c.min-low.result) ≡ lesser_of l x = search (rules, to_z-of_z) in
    rw (add-one n, high, low) (more c.args.sofh n h l f c.loop-x.invariant)

pub returns : goal.returns
returns c =
    let h = to_z w16 c.loop-x.high-bits in
    let l = to_z w16 c.loop-x.low-bits in
    let m = max_is h (abs l) in
    let n : c.loop-x.x-index ≡ 160 = search rules in
    let e = subst (λ (k : ℕ). greater_of h (abs l) ≡ smax_of k c.args.sofh) n c.loop-x.invariant.largest in
    search (rules, to_z-of_z)
