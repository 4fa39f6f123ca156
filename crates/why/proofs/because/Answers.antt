-- `why::because` explains an accepted frame, and moves the run on. Assumes nothing.
use borrow.Author.Rules.{rules}
use mathlib.Core.Path.{◌≡◌}
use mathlib.Core.Bool.{Bool}
use Prim.Native.Nat.{ℕ, ◌+◌}
use mir.Syntax.{w16}
use mir.Val.{SFits}
use Rattle.std.specs.Prelude.{Ok}
use Rattle.numbers.proofs.Read.{zreads}
use Rattle.threshold.specs.declared.Way.{Way}
use Rattle.detector.specs.declared.Accepted.{Accepted}
use Rattle.detector.specs.Result.{accepted_in}
use Rattle.why.specs.declared.Flag.{Flag}
use Rattle.why.specs.declared.Explainer.{Explainer}
use Rattle.why.specs.Explain.{flag_reason, latest_after, threshold_reason, accepted_of}
use Rattle.why.specs.Result.{explained_in}
use Rattle.why.proofs.because.Goals as goal

-- from what the calls gave, one equation for each
assembled : (tone : Bool) (e : Explainer) (a : Accepted) {latest : ℕ} {flag : Flag} {way : Way}
    → latest ≡ latest_after a.next.burstcount (e.number + 1) e.latest
    → flag ≡ flag_reason a.vvad a.vad latest
    → way ≡ threshold_reason tone e.state a.acf0 a.stat
    → explained_in (Ok (record { answer = a; reasons = record { number = e.number + 1; flag = flag; threshold = way }; next = record { state = a.next; number = e.number + 1; latest = latest } })) ≡ accepted_of tone e (accepted_in a)
unfolding accepted_of explained_in
assembled tone e a l f w = rw (w, f, l)

pub returns : goal.returns
returns c =
    let b : SFits w16 c.args.answer.next.burstcount = search rules in
    assembled c.args.tone c.args.e c.args.answer
    (simp zreads at c.latest_after-latest.ensures)
    c.flag_reason.ensures
    c.threshold_reason.ensures
