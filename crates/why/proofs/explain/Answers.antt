-- `why::explain` answers as the definition does, for every input. Assumes nothing.
use mathlib.Core.Path.{◌≡◌, sym, ap, ◌∙◌}
use mathlib.Core.Bool.{Bool}
use native.Mathlib.Omega.{arith}
use Rattle.numbers.proofs.Read.{zreads}
use Rattle.frames.specs.Direction.{direction_in}
use Rattle.detector.specs.Step.{tone_read, answer_for}
use Rattle.detector.specs.Result.{accepted_in, answer_of}
use Rattle.why.specs.Explain.{accepted_of}
use Rattle.why.proofs.Steps.{with_number}
use Rattle.why.proofs.Results.{told_refused, told_beyond, told_accepted}
use Rattle.why.proofs.explain.Goals as goal
use Rattle.why.proofs.explain.Goals.{After-frame}

-- what the detector answers
step_is : (c : After-frame) → let a = c.args in answer_of c.frame.result ≡ answer_for (direction_in a.direction) a.acf.now a.lags.now a.scalvad a.e.state
step_is c = let f = c.ranges.scalvad in simp zreads at c.frame.ensures

pub returns-in-Err : goal.returns-in-Err
returns-in-Err c =
    let a = c.args in
    let d = direction_in a.direction in
    let i = told_refused (tone_read d a.e.state) d a.e a.acf.now a.lags.now a.scalvad c.in-Err.r (ap answer_of (sym c.in-Err.is) ∙ step_is (goal.at.returns-in-Err c).After-frame) in
    let both = with_number d a.e a.acf.now a.lags.now a.scalvad _ i in
    record { value = both.0; why_value = both.1 }

pub returns-in-Ok : goal.returns-in-Ok
returns-in-Ok c =
    let a = c.args in
    let d = direction_in a.direction in
    let i = told_beyond (tone_read d a.e.state) d a.e a.acf.now a.lags.now a.scalvad c.in-Ok.field-0 (ap answer_of (sym c.in-Ok.is) ∙ step_is (goal.at.returns-in-Ok c).After-frame) (omega arith) in
    let both = with_number d a.e a.acf.now a.lags.now a.scalvad _ i in
    record { value = both.0; why_value = both.1 }

pub returns-in-Ok-2 : goal.returns-in-Ok-2
returns-in-Ok-2 c =
    let a = c.args in
    let d = direction_in a.direction in
    let x = c.in-Ok.field-0 in
    let i = told_accepted (tone_read d a.e.state) d a.e a.acf.now a.lags.now a.scalvad x (ap answer_of (sym c.in-Ok.is) ∙ step_is (goal.at.returns-in-Ok-2 c).After-frame) (omega arith) in
    let told = c.because.ensures ∙ ap (λ (t : Bool). accepted_of t a.e (accepted_in x)) c.tone_read.ensures ∙ i in
    let both = with_number d a.e a.acf.now a.lags.now a.scalvad _ told in
    record { value = both.0; why_value = both.1 }
