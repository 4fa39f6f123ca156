-- `teller::finish` refuses what is carried, if anything is. Assumes nothing.
use Rattle.std.proofs.Common.{◌∙◌, sym, ap, ℕ, List, Some}
use borrow.Author.Tests.{eq-eqb, ne_eqb}
use Rattle.rows.proofs.Choice.{by_yes, by_no}
use Rattle.teller.specs.Fed.{end_of}
use Rattle.teller.proofs.Steps.{cut_text}
use Rattle.teller.proofs.finish.Goals as goal

pub returns-then-held-eq0 : goal.returns-then-held-eq0
unfolding end_of
returns-then-held-eq0 c = sym (by_yes _ _ (eq-eqb _ 0 (sym c.held.ensures ∙ c.if-held-eq0.true)))

pub returns : goal.returns
unfolding end_of
returns c = ap (λ (x : List ℕ). Some x) (sym cut_text) ∙ sym (by_no _ _ (ne_eqb _ 0 (λ z. c.if-held-eq0.false (c.held.ensures ∙ z))))
