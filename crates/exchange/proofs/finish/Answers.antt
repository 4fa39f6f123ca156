-- `exchange::finish` answers what is carried, if anything is. Assumes nothing.
use mathlib.Core.Path.{sym, ap, ◌∙◌}
use mathlib.Core.Bool.{false}
use Prim.Native.Nat.{ℕ}
use borrow.Author.Tests.{eq-eqb, ne_eqb}
use Rattle.std.specs.Prelude.{Some}
use Rattle.rows.proofs.Choice.{by_yes, by_no}
use Rattle.refusals.specs.Refusal.{number_of}
use Rattle.runner.specs.Said as runner
use Rattle.exchange.proofs.Calls.{end_is}
use Rattle.exchange.proofs.finish.Goals as goal

pub returns-then-held-eq0 : goal.returns-then-held-eq0
returns-then-held-eq0 c = sym (end_is c.args.x ∙ by_yes _ _ (eq-eqb _ 0 (sym c.held.ensures ∙ c.if-held-eq0.true)))

pub returns-else-held-eq0 : goal.returns-else-held-eq0
unfolding number_of
returns-else-held-eq0 c =
    ap Some (c.text.ensures ∙ (ap runner.text_of c.only.ensures ∙ ap (λ (n : ℕ). runner.text_of (record { refusal = n; vad = false; vvad = false })) c.number.ensures.value))
    ∙ sym (end_is c.args.x ∙ by_no _ _ (ne_eqb _ 0 (λ z. c.if-held-eq0.false (c.held.ensures ∙ z))))
