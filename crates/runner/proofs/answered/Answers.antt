-- `runner::answered` reads the line and passes its frame to the detector. Assumes nothing.
use Rattle.std.proofs.Common.{ℕ, sym, ap, ◌∙◌, ◌≡◌, w16, SFits, rules}
use Rattle.numbers.proofs.Read.{zreads}
use Rattle.detector.specs.Result.{answer_of}
use Rattle.detector.specs.Step.{step_of}
use Rattle.lines.specs.Answers.{Decoded, accepted_of}
use Rattle.lines.proofs.Answers.{decoded_err, decoded_ok}
use Rattle.runner.specs.declared.Said.{Said}
use Rattle.runner.specs.Said.{stepped_of, denied_of}
use Rattle.runner.specs.Run.{next_of, reply_of}
use Rattle.runner.proofs.Steps.{said_no, said_ok}
use Rattle.runner.proofs.answered.Goals as goal

pub returns-in-Err : goal.returns-in-Err
unfolding next_of reply_of denied_of
returns-in-Err c =
    let s = c.args.state.now in
    let d = decoded_err c.args.line.now _ c.in-Err.ensures in
    let no = said_no s c.args.line.now d.1 in
    record {
      value = ap (λ (x : Said). x.reply) (c.denied.ensures ∙ ap (λ (k : ℕ). denied_of k s) d.0 ∙ sym no);
      state_after = ap (λ (x : Said). x.next) (sym no);
    }

pub returns-in-Ok : goal.returns-in-Ok
unfolding accepted_of next_of reply_of
returns-in-Ok c =
    let s = c.args.state.now in
    let d = decoded_ok c.args.line.now c.in-Ok.frame c.in-Ok.ensures in
    let f : SFits w16 c.in-Ok.frame.scale = search rules in
    let r : answer_of c.step.result ≡ step_of c.in-Ok.frame.acf c.in-Ok.frame.lags c.in-Ok.frame.scale s = simp zreads at c.step.ensures in
    let all = c.stepped-said.ensures ∙ ap stepped_of (r ∙ ap (λ (x : Decoded). step_of x.acf x.lags x.scale s) d.1) ∙ sym (said_ok s c.args.line.now d.0) in
    record { value = ap (λ (x : Said). x.reply) all; state_after = ap (λ (x : Said). x.next) all }
