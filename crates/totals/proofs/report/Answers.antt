-- `totals::report` puts number after number. Assumes nothing.
use mathlib.Core.Path.{◌≡◌, refl, sym, ap, ◌∙◌}
use mathlib.Core.List.{List}
use Prim.Native.Nat.{ℕ, ◌+◌, ◌*◌}
use native.Mathlib.Omega.{arith}
use lib.ListN.{length, drop}
use Rattle.lines.specs.Hex.{blocks_of}
use Rattle.pieces.specs.Put.{put_of}
use Rattle.pieces.proofs.Written.{put_length, put_none}
use Rattle.totals.specs.Report.{numbers_of}
use Rattle.totals.proofs.Reports.{blocks_put, report_made}
use Rattle.totals.proofs.report.Goals as goal

pub loop-i-init : goal.loop-i-init
loop-i-init c = (refl, refl)

pub loop-i-preserved : goal.loop-i-preserved
unfolding numbers_of
loop-i-preserved c =
    let w = numbers_of c.args.t in
    let i = c.loop-i.i in
    let v = c.loop-i.invariant in
    let o = c.put.ensures ∙ ap (put_of c.loop-i.out (8 * i)) c.eight.ensures in (
      ap length c.put.ensures ∙ (put_length _ _ _ ∙ v.0),
      ap (λ (l : List ℕ). put_of l (8 * (i + 1)) (blocks_of 8 (drop (i + 1) w))) o ∙ (blocks_put c.loop-i.out w i (omega arith) (omega arith) ∙ v.1),
    )

pub returns : goal.returns
unfolding numbers_of blocks_of
returns c =
    let v = c.loop-i.invariant in
    let e : c.loop-i.i ≡ 5 = omega arith in
    sym (put_none c.loop-i.out 40 (omega arith)) ∙ (rw e at v.1 ∙ report_made c.args.t)
