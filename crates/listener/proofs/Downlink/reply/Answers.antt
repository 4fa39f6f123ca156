-- `Downlink::reply` reads the line, then the samples of its frame, and passes both to the detector. Assumes nothing.
use borrow.Author.Rules.{rules}
use mathlib.Core.Path.{◌≡◌, sym, ap, ap₂, ◌∙◌}
use mathlib.Core.List.{List}
use Prim.Native.Nat.{ℕ}
use native.Mathlib.Omega.{arith}
use Rattle.detector.specs.Result.{answer_of}
use lib.IntN.{ℤ}
use lib.ListN.{take}
use mir.Syntax.{w16}
use mir.Val.{SFits}
use Rattle.numbers.proofs.Read.{zreads}
use Rattle.detector.specs.Step.{downlink_of}
use Rattle.lines.specs.Answers.{Decoded, accepted_of}
use Rattle.lines.proofs.Answers.{decoded_err, decoded_ok}
use Rattle.samples.specs.declared.Samples.{Samples}
use Rattle.samples.specs.Samples.{sof_of}
use Rattle.samples.proofs.Frame.{read_is, read_most}
use Rattle.listener.specs.declared.Said.{Said}
use Rattle.listener.specs.Said.{stepped_of, denied_of}
use Rattle.listener.specs.Run.{next_of, reply_of}
use Rattle.listener.proofs.Steps.{said_no, said_ok}
use Rattle.listener.proofs.Downlink.reply.Goals as goal
use Rattle.listener.proofs.Downlink.reply.Goals.{After-read-heard}

pub returns-in-Err : goal.returns-in-Err
unfolding next_of reply_of denied_of
returns-in-Err c =
    let s = c.args.self.now.state in
    let d = decoded_err c.args.line.now _ c.in-Err.ensures in
    let no = said_no s c.args.block.now c.args.line.now d.1 in
    record {
      value = c.only.ensures ∙ ap (λ (x : Said). x.reply) (ap (λ (k : ℕ). denied_of k s) d.0 ∙ sym no);
      state_after = ap (λ (x : Said). x.next) (sym no);
    }

-- no more samples than the frame has
pub shared_ref_as_front-downlink : goal.shared_ref_as_front-downlink
shared_ref_as_front-downlink c = let h = read_most c.args.block.now in let e = ap (λ (x : Samples). x.count) c.read-heard.ensures in omega arith

sof_is : (c : After-read-heard) → take c.read-heard.result.count c.read-heard.result.sof ≡ sof_of c.args.block.now
unfolding sof_of
sof_is c = ap (λ (x : Samples). take x.count x.sof) c.read-heard.ensures ∙ read_is _

pub returns-in-Ok : goal.returns-in-Ok
unfolding accepted_of next_of reply_of
returns-in-Ok c =
    let s = c.args.self.now.state in
    let a = c.in-Ok.frame in
    let d = decoded_ok c.args.line.now a c.in-Ok.ensures in
    let f : SFits w16 a.scale = search rules in
    let r : answer_of c.downlink.result ≡ downlink_of a.acf a.lags a.scale (take c.read-heard.result.count c.read-heard.result.sof) s = simp zreads at c.downlink.ensures in
    let all =
    c.stepped-said.ensures
    ∙ ap stepped_of (r ∙ ap₂ (λ (x : Decoded) (y : List ℤ). downlink_of x.acf x.lags x.scale y s) d.1 (sof_is (goal.at.returns-in-Ok c).After-read-heard))
    ∙ sym (said_ok s c.args.block.now c.args.line.now d.0) in
    record { value = ap (λ (x : Said). x.reply) all; state_after = ap (λ (x : Said). x.next) all }
