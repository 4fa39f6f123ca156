-- What a result of `explain` stands for: an accepted frame has its answer, its reasons and the run after it; a refused one is refused with its number in
-- the state of the run, and leaves the run as it was. Assumes nothing.
use Rattle.std.specs.Prelude.{Result, Ok, Err}
use Rattle.refusals.specs.Refusal.{number_of}
use Rattle.detector.specs.Step.{refused_of}
use Rattle.detector.specs.Result.{accepted_in}
use Rattle.why.specs.Why.{Why}
use Rattle.why.specs.declared.Explained as code
use Rattle.why.specs.declared.Denied.{Denied}
use Rattle.why.specs.Explained.{Explained}
use Rattle.why.specs.Explain.{denied_of}

unfoldable pub explained_in : Result code.Explained Denied → Explained
explained_in (Ok x) = record { answer = accepted_in x.answer; why = Why.Because x.reasons; next = x.next }
explained_in (Err d) = denied_of d.explainer (refused_of (number_of d.refusal) d.explainer.state)
