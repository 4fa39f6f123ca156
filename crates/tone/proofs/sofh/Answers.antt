-- `tone::sofh` gives the windowed samples: each loop fills its half from the front. Assumes nothing.
use borrow.Author.Rules.{rules}
use borrow.Author.Tests.{lt-ltb, le-ltb}
use mathlib.Core.Path.{◌≡◌, refl, sym, subst}
use Prim.Native.Nat.{ℕ, ◌-◌, ◌<◌, ◌≤◌}
use native.Mathlib.Omega.{arith}
use lib.ListN.{take, length-set}
use Rattle.numbers.specs.Sum.{at}
use mir.Facts.{to_z-of_z}
use Rattle.rows.specs.Rows.{row}
use Rattle.rows.proofs.Choice.{by_yes, by_no}
use Rattle.rows.proofs.Fill.{fill_more, fill_all}
use Rattle.tone.specs.Window.{hann, window_of, sofh_of}
use Rattle.tone.proofs.sofh.Invariants.{entry}
use Rattle.tone.proofs.sofh.Goals as goal

first : (k : ℕ) → k < 80 → at hann k ≡ window_of k
unfolding window_of
first k h = sym (by_yes _ _ (lt-ltb k 80 h))

second : (k : ℕ) → 80 ≤ k → at hann (159 - k) ≡ window_of k
unfolding window_of
second k h = sym (by_no _ _ (le-ltb k 80 h))

pub loop-i-init : goal.loop-i-init
unfolding row
loop-i-init c = (omega arith, search rules, refl)

pub loop-i-preserved : goal.loop-i-preserved
unfolding hann
loop-i-preserved c =
    let t = c.loop-i in
    let w = first t.i (omega arith) in
    (omega arith, simp length-set t.invariant.1, fill_more _ (entry c.args.sof.now) t.i _ (omega arith) t.invariant.2 (search (rules, to_z-of_z)))

pub loop-i-2-init : goal.loop-i-2-init
loop-i-2-init c =
    let t = c in
    let n : t.loop-i.i ≡ 80 = omega arith in
    (search rules, search rules, t.loop-i.invariant.1, subst (λ (k : ℕ). take k t.loop-i.out ≡ row k (entry t.args.sof.now)) n t.loop-i.invariant.2)

pub loop-i-2-preserved : goal.loop-i-2-preserved
unfolding hann
loop-i-2-preserved c =
    let t = c.loop-i-2 in
    let w = second t.i (omega arith) in
    (omega arith, omega arith, simp length-set t.invariant.2, fill_more _ (entry c.args.sof.now) t.i _ (omega arith) t.invariant.3 (search (rules, to_z-of_z)))

pub returns : goal.returns
unfolding sofh_of
returns c = let t = c.before in fill_all _ (entry t.args.sof.now) 160 t.loop-i-2.i t.loop-i-2.invariant.2 (omega arith) t.loop-i-2.invariant.3
