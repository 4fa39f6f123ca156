-- `tone::prederr` gives the normalised prediction error: after some turns, of so many coefficients. Assumes nothing.
use Rattle.std.proofs.Common.{rules, arith, add-one}
use mathlib.Core.Path.{◌≡◌, refl, ap, ◌∙◌}
use Prim.Native.Nat.{suc}
use lib.IntN.{pos}
use lib.ListN.{take, drop}
use lib.Seq.{get_or-take, get_or-drop}
use mir.Facts.{to_z-of_z}
use Rattle.numbers.specs.Sum.{at}
use Rattle.tone.specs.Gain.{prederr_of}
use Rattle.tone.proofs.prederr.Goals as goal

pub loop-r-init : goal.loop-r-init
unfolding prederr_of
loop-r-init c = refl

pub loop-r-preserved : goal.loop-r-preserved
unfolding prederr_of
loop-r-preserved c =
    let rc = c.args.rc in
    let n = c.loop-r.r-index in
    let e : at (take 4 (drop 1 rc)) n ≡ at rc (suc n) =
    get_or-take 4 (drop 1 rc) n (pos 0) (search (rules, arith)) ∙ get_or-drop 1 rc n (pos 0) ∙ ap (at rc) (omega arith) in
    rw (add-one n) (search (rules, to_z-of_z))
