-- `lindenflax::put_answer` stores six numbers, each at its place. Assumes nothing.
use borrow.Author.Rules.{rules}
use mathlib.Core.Path.{◌∙◌}
use mir.Syntax.{w32}
use Rattle.numbers.proofs.Read.{back}
use Rattle.lindenflax.specs.Run.{answer_run}
use Rattle.lindenflax.proofs.Answers.{six}
use Rattle.lindenflax.proofs.put_answer.Goals as goal

pub returns : goal.returns
unfolding answer_run
returns c =
    c.copy_from_slice.ensures.after
    ∙ six
    (back w32 c.bit.type_inv ∙ c.bit.ensures)
    (back w32 c.bit-2.type_inv ∙ c.bit-2.ensures)
    (back w32 c.from.type_inv ∙ (c.from.ensures ∙ search rules))
    (back w32 c.from-2.type_inv ∙ (c.from-2.ensures ∙ search rules))
    (back w32 c.from-3.type_inv ∙ (c.from-3.ensures ∙ search rules))
    (back w32 c.from-4.type_inv ∙ (c.from-4.ensures ∙ search rules))
