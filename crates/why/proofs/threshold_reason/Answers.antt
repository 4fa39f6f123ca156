-- `why::threshold_reason` is the way through 6.6, with ptch from the state. Assumes nothing.
use borrow.Author.Rules.{rules}
use mathlib.Core.Path.{◌≡◌, ap, ◌∙◌}
use mathlib.Core.Bool.{Bool}
use mir.Syntax.{w16}
use mir.Val.{SFits}
use Rattle.numbers.proofs.Read.{zreads}
use Rattle.lags.specs.Lags.{ptch_of}
use Rattle.threshold.specs.Ways.{way_taken}
use Rattle.why.specs.Explain.{threshold_reason}
use Rattle.why.proofs.threshold_reason.Goals as goal
use Rattle.why.proofs.threshold_reason.Goals.{Start}

pub returns : goal.returns
unfolding threshold_reason
returns c =
    let o : SFits w16 c.args.s.oldlagcount = search rules in
    let v : SFits w16 c.args.s.veryoldlagcount = search rules in
    let d : SFits w16 c.args.s.adaptcount = search rules in
    let w : c.way_taken.result ≡ way_taken c.args.acf0 c.ptch.result c.args.stat c.args.tone c.args.s.adaptcount = simp zreads at c.way_taken.ensures in
    let q : c.ptch.result ≡ ptch_of c.args.s.oldlagcount c.args.s.veryoldlagcount = simp zreads at c.ptch.ensures in
    w ∙ ap (λ (b : Bool). way_taken c.args.acf0 b c.args.stat c.args.tone c.args.s.adaptcount) q
