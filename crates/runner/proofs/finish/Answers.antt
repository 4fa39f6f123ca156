-- `runner::finish` answers what is carried, if anything is. Assumes nothing.
use mathlib.Core.Path.{sym, ap, ◌∙◌}
use borrow.Author.Tests.{eq-eqb, ne_eqb}
use Rattle.std.specs.Prelude.{Some}
use Rattle.rows.proofs.Choice.{by_yes, by_no}
use Rattle.refusals.specs.Refusal.{number_of}
use Rattle.runner.specs.declared.Said.{Said}
use Rattle.runner.specs.Said as one
use Rattle.runner.proofs.Calls.{end_is}
use Rattle.runner.proofs.finish.Goals as goal

pub returns-then-held-eq0 : goal.returns-then-held-eq0
returns-then-held-eq0 c = sym (end_is c.args.r ∙ by_yes _ _ (eq-eqb _ 0 (sym c.held.ensures ∙ c.if-held-eq0.true)))

pub returns-else-held-eq0 : goal.returns-else-held-eq0
unfolding one.denied_of number_of
returns-else-held-eq0 c =
    ap Some (c.text.ensures ∙ ap (λ (x : Said). one.text_of x.reply) c.denied.ensures)
    ∙ sym (end_is c.args.r ∙ by_no _ _ (ne_eqb _ 0 (λ z. c.if-held-eq0.false (c.held.ensures ∙ z))))
