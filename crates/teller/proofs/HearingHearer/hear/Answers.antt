-- The explainer hears a line: it is explained, and its words are put, for which there is room. Assumes nothing.
use borrow.Author.Rules.{rules}
use mathlib.Core.Path.{ap, ◌∙◌}
use Prim.Native.Nat.{◌+◌}
use native.Mathlib.Omega.{arith}
use lib.ListN.{length}
use Rattle.pieces.specs.Put.{put_of}
use Rattle.why.specs.Why.{Why}
use Rattle.teller.specs.Words.{text_of}
use Rattle.teller.specs.Run.{line_text}
use Rattle.teller.specs.Laws.{line_most}
use Rattle.teller.proofs.HearingHearer.hear.Goals as goal

pub text-requires : goal.text-requires
unfolding line_text
text-requires c =
    let a = c.args in
    let m = line_most a.self.now a.block.now a.line.now in
    let n = ap (λ (w : Why). length (text_of w)) c.told-why.ensures.value in
    omega (arith, c.requires)

pub returns : goal.returns
unfolding line_text
returns c =
    let a = c.args in
    let t = c.told-why.ensures.value in
    record {
      heard = c.told-why.ensures.run_after;
      wrote = c.text.ensures.value ∙ ap (λ (w : Why). a.at + length (text_of w)) t;
      written = search rules ∙ c.text.ensures.out_after ∙ ap (λ (w : Why). put_of a.out.now a.at (text_of w)) t;
    }
