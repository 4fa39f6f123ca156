-- `listener::finish` answers what is carried as malformed, if anything is carried. Assumes nothing.
use Rattle.std.proofs.Common.{◌∙◌, sym, ap, ℕ, List, arith, Some}
use borrow.Author.Tests.{eq-eqb, ne_eqb}
use Rattle.rows.proofs.Choice.{by_yes, by_no}
use Rattle.refusals.specs.Refusal.{number_of}
use Rattle.listener.specs.declared.Said.{Said}
use Rattle.listener.specs.Said.{denied_of, text_of}
use Rattle.listener.specs.Fed.{end_of}
use Rattle.listener.proofs.finish.Goals as goal

pub returns-then-held-eq0 : goal.returns-then-held-eq0
unfolding end_of
returns-then-held-eq0 c = sym (by_yes _ _ (eq-eqb _ 0 (sym c.held.ensures ∙ c.if-held-eq0.true)))

pub text-requires : goal.text-requires
unfolding denied_of number_of
text-requires c = let e = ap (λ (x : Said). x.reply.refusal) c.denied-malformed.ensures in omega (arith, e)

pub returns : goal.returns
unfolding end_of number_of
returns c =
    ap (λ (x : List ℕ). Some x) (c.text.ensures ∙ ap (λ (x : Said). text_of x.reply) c.denied-malformed.ensures)
    ∙ sym (by_no _ _ (ne_eqb _ 0 (λ z. c.if-held-eq0.false (c.held.ensures ∙ z))))
