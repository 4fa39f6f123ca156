-- `exchange::answer` puts a new state in the old one's place, or passes the frame to the detector. Assumes nothing.
use Rattle.std.proofs.Common.{rules, ◌≡◌, ap, ap₂, ◌∙◌, w16, SFits}
use Rattle.counts.specs.declared.Reply.{Reply}
use Rattle.numbers.proofs.Read.{zreads}
use Rattle.rows.specs.Choice.{IF◌THEN◌ELSE◌}
use Rattle.state.specs.declared.State.{State}
use Rattle.detector.specs.Result.{answer_of}
use Rattle.detector.specs.Step.{step_of}
use Rattle.runner.specs.declared.Said.{Said}
use Rattle.runner.specs.Said.{stepped_of, denied_of}
use Rattle.exchange.specs.Named.{asked_in, read_in, said_of}
use Rattle.exchange.proofs.answer.Goals as goal

abbrev said : Reply → State → Said
said r s = record { reply = r; next = s }

pub returns-in-Call : goal.returns-in-Call
unfolding said_of read_in asked_in IF◌THEN◌ELSE◌
returns-in-Call c =
    let f : SFits w16 c.in-Call.frame.scale = search rules in
    let r : answer_of c.step.result ≡ step_of c.in-Call.frame.acf c.in-Call.frame.lags c.in-Call.frame.scale c.args.s = simp zreads at c.step.ensures in
    rw c.in-Call.is (c.stepped.ensures ∙ ap stepped_of r)

pub returns-in-Reset : goal.returns-in-Reset
unfolding said_of read_in asked_in denied_of IF◌THEN◌ELSE◌
returns-in-Reset c = rw c.in-Reset.is (ap₂ said c.only.ensures c.reset.ensures)
