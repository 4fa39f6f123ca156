-- `Hearing::told` reads the line and its samples, and has its frame explained. Assumes nothing.
use borrow.Author.Rules.{rules}
use mathlib.Core.Path.{◌≡◌, sym, ap, ◌∙◌}
use mathlib.Core.List.{List}
use Prim.Native.Nat.{ℕ}
use native.Mathlib.Omega.{arith}
use lib.ListN.{take}
use mir.Syntax.{w16}
use mir.Val.{SFits}
use Rattle.numbers.proofs.Read.{zreads}
use mathlib.Core.Bool.{Bool}
use Rattle.frames.specs.Frame.{Direction, down, direction_of}
use Rattle.frames.specs.Direction.{direction_in}
use Rattle.lines.specs.Answers.{Decoded, accepted_of}
use Rattle.lines.proofs.Answers.{decoded_err, decoded_ok}
use Rattle.samples.specs.declared.Samples.{Samples}
use Rattle.samples.specs.Samples.{sof_of, read_of}
use Rattle.samples.proofs.Frame.{read_is, read_most}
use Rattle.why.specs.Explain.{explained_for}
use Rattle.why.specs.Result.{explained_in}
use Rattle.why.specs.Why.{why_in}
use Rattle.teller.specs.Told.{Told, told_in}
use Rattle.teller.specs.Run.{direction_by, sent_of, denied_of, next_of}
use Rattle.teller.proofs.Steps.{told_no, told_ok}
use Rattle.teller.proofs.Hearing.told.Goals as goal
use Rattle.teller.proofs.Hearing.told.Goals.{After-explain, then-self, else-self}

pub returns-in-Err : goal.returns-in-Err
unfolding denied_of next_of why_in
returns-in-Err c =
    let h = c.args.self.now in
    let d = decoded_err c.args.line.now _ c.in-Err.ensures in
    let no = ap (λ (k : ℕ). denied_of k h) d.0 ∙ sym (told_no h c.args.block.now c.args.line.now d.1) in
    record { value = ap (λ (x : Told). x.why) no; run_after = ap (λ (x : Told). x.next) no }

-- what is read of the bytes are their samples
heard : (block : List ℕ) (s : Samples) → s ≡ read_of block → take s.count s.sof ≡ sof_of block
unfolding sof_of
heard block s e = ap (λ (x : Samples). take x.count x.sof) e ∙ read_is block

pub shared_ref_as_front-direction : goal.shared_ref_as_front-direction
shared_ref_as_front-direction c =
    let h = read_most c.args.block.now in
    let e = ap (λ (s : Samples). s.count) c.read-heard.ensures in
    omega arith

-- the direction that the code makes
way_is : (c : After-explain) → direction_in c.if-self.direction ≡ direction_by c.args.self.now.downlink c.args.block.now
unfolding direction_by direction_of direction_in
way_is c =
    elim c.if-self.branch [
      | then-self w ↦ ap direction_in w.direction-is ∙ ap down (heard c.args.block.now c.read-heard.result c.read-heard.ensures) ∙ ap (λ (b : Bool). direction_by b c.args.block.now) (sym w.if-self.true)
      | else-self w ↦ ap direction_in w.direction-is ∙ ap (λ (b : Bool). direction_by b c.args.block.now) (sym w.if-self.false)
    ]

pub returns-after-self : goal.returns-after-self
unfolding accepted_of next_of told_in
returns-after-self c =
    let h = c.args.self.now in
    let a = c.in-Ok.frame in
    let d = decoded_ok c.args.line.now a c.in-Ok.ensures in
    let f : SFits w16 a.scale = search rules in
    let e : explained_in c.explain.result ≡ explained_for (direction_in c.if-self.direction) h.explainer a.acf a.lags a.scale = simp zreads at c.explain.ensures.value in
    let g = e ∙ ap (λ (x : Direction). explained_for x h.explainer a.acf a.lags a.scale) (way_is (goal.at.returns-after-self c).After-explain) in
    let all =
    c.sent-told.ensures
    ∙ ap (sent_of h.downlink) (g ∙ ap (λ (x : Decoded). explained_for (direction_by h.downlink c.args.block.now) h.explainer x.acf x.lags x.scale) d.1)
    ∙ sym (told_ok h c.args.block.now c.args.line.now d.0) in
    record { value = ap (λ (x : Told). x.why) all; run_after = ap (λ (x : Told). x.next) all }
