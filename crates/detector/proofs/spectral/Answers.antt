-- `detector::spectral` runs 6.2, 6.3 and 6.4 one after the other. Assumes nothing.
use borrow.Author.Rules.{rules}
use mathlib.Core.Path.{◌≡◌}
use mir.Syntax.{w16, w32}
use mir.Val.{SFits}
use Rattle.numbers.proofs.Read.{zreads}
use Rattle.averages.specs.Averages.{average_of}
use Rattle.spectrum.specs.Spectrum.{compare_of}
use Rattle.detector.specs.Step.{spectral_of}
use Rattle.detector.proofs.spectral.Goals as goal
use Rattle.detector.proofs.spectral.Goals.{After-average-ptsacf, After-compare-dm, After-predicted-normrav1, Start}

average_is : (c : After-average-ptsacf) → c.average-ptsacf.result ≡ average_of c.args.acf c.args.scalvad c.args.s.sacf c.args.s.ptsacf c.args.s.sav0 c.args.s.ptsav0
average_is c = let f = c.ranges.scalvad in simp zreads at c.average-ptsacf.ensures

compare_is : (c : After-compare-dm) → c.compare-dm.result ≡ compare_of c.average-ptsacf.result.av0 c.predicted-normrav1.result.rav1 c.predicted-normrav1.result.normrav1 c.args.s.lastdm
compare_is c =
    let f : SFits w32 c.args.s.lastdm = search rules in
    let g : SFits w16 c.predicted-normrav1.result.normrav1 = search rules in
    simp zreads at c.compare-dm.ensures

pub returns : goal.returns
unfolding spectral_of
returns c =
    let f : SFits w32 c.compare-dm.result.dm = search rules in
    let g : SFits w16 c.predicted-normrav1.result.normrav1 = search rules in
    simp zreads (rw (compare_is (goal.at.returns c).After-compare-dm, c.predicted-normrav1.ensures, average_is (goal.at.returns c).After-average-ptsacf))
