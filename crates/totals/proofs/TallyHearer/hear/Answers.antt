-- The totals hear a line: it is answered, the answer is counted, and nothing is put. Assumes nothing.
use mathlib.Core.Path.{◌≡◌, sym, ap, ◌∙◌}
use mathlib.Core.List.{List}
use Prim.Native.Nat.{ℕ}
use native.Mathlib.Omega.{arith}
use Rattle.pieces.proofs.Written.{put_none}
use Rattle.counts.specs.declared.Counted.{Counted}
use Rattle.counts.specs.declared.Reply.{Reply}
use Rattle.counts.specs.Counts.{count_of}
use Rattle.state.specs.declared.State.{State}
use Rattle.runner.specs.Run.{reply_of}
use Rattle.totals.specs.declared.Tally.{Tally}
use Rattle.totals.proofs.Limit.{tallied_no, tallied_yes}
use Rattle.totals.proofs.TallyHearer.hear.Goals as goal

-- the answer's count
counted : (t : Tally) (l : List ℕ) (r : Reply) (n : Counted) → r ≡ reply_of t.state l → n ≡ count_of t.counted r → n ≡ count_of t.counted (reply_of t.state l)
counted t l r n e h = h ∙ ap (count_of t.counted) e

pub returns-then-self-ne0-clause-heard : goal.returns-then-self-ne0-clause-heard
returns-then-self-ne0-clause-heard c =
    tallied_no _ _ _ (counted c.args.self.now c.args.line.now _ _ c.answered-reply.ensures.value c.count-self.ensures) c.if-self-ne0.true

pub returns-then-self-ne0-clause-written : goal.returns-then-self-ne0-clause-written
returns-then-self-ne0-clause-written c = sym (put_none c.args._out.now c.args.at (omega (arith, c.requires)))

abbrev tally : Counted → State → Tally
tally n s = record { counted = n; state = s }

pub returns-clause-heard : goal.returns-clause-heard
returns-clause-heard c =
    let zero : c.count-self.result.refusal ≡ 0 = omega arith in
    ap (tally c.count-self.result) c.answered-reply.ensures.state_after
    ∙ tallied_yes _ _ _ (counted c.args.self.now c.args.line.now _ _ c.answered-reply.ensures.value c.count-self.ensures) zero

pub returns-clause-written : goal.returns-clause-written
returns-clause-written c = sym (put_none c.args._out.now c.args.at (omega (arith, c.requires)))
