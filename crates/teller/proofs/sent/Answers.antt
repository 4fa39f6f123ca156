-- `teller::sent` tells what the explainer's result stands for. Assumes nothing.
use mathlib.Core.Path.{sym, ap}
use Rattle.detector.specs.Step.{refused_of}
use Rattle.why.specs.Why.{why_in}
use Rattle.why.specs.Explain as why
use Rattle.why.specs.Result.{explained_in}
use Rattle.teller.specs.Told.{told_in}
use Rattle.teller.specs.Run.{sent_of}
use Rattle.teller.proofs.sent.Goals as goal

pub returns-in-Ok : goal.returns-in-Ok
unfolding sent_of explained_in told_in why_in
returns-in-Ok c = ap (λ r. sent_of c.args.downlink (explained_in r)) (sym c.in-Ok.is)

pub returns-in-Err : goal.returns-in-Err
unfolding sent_of explained_in why.denied_of refused_of told_in why_in
returns-in-Err c = ap (λ r. sent_of c.args.downlink (explained_in r)) (sym c.in-Err.is)
