-- `runner::stepped` answers with what the detector's result stands for. Assumes nothing.
use mathlib.Core.Path.{sym, ap, ◌∙◌}
use Rattle.detector.specs.Step.{refused_of}
use Rattle.detector.specs.Result.{answer_of}
use Rattle.runner.specs.Said.{stepped_of, denied_of}
use Rattle.runner.proofs.stepped.Goals as goal

pub returns-in-Ok : goal.returns-in-Ok
unfolding stepped_of answer_of
returns-in-Ok c = ap (λ r. stepped_of (answer_of r)) (sym c.in-Ok.is)

pub returns-in-Err : goal.returns-in-Err
unfolding stepped_of denied_of refused_of answer_of
returns-in-Err c = c.denied.ensures ∙ ap (λ r. stepped_of (answer_of r)) (sym c.in-Err.is)
