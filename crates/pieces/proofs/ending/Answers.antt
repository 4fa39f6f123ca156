-- `pieces::ending` is nothing where nothing is carried. Assumes nothing.
use mathlib.Core.Path.{sym, ◌∙◌}
use native.Mathlib.Omega.{arith}
use borrow.Author.Tests.{eq-eqb, ne_eqb}
use lib.ListN.{length}
use Rattle.pieces.specs.Cut.{held_of, ending_of}
use Rattle.rows.specs.Choice.{IF◌THEN◌ELSE◌}
use Rattle.pieces.proofs.ending.Goals as goal

pub returns-then-held-eq0 : goal.returns-then-held-eq0
unfolding ending_of IF◌THEN◌ELSE◌
returns-then-held-eq0 c = rw (eq-eqb _ 0 (sym c.held.ensures ∙ c.if-held-eq0.true))

pub returns-else-held-eq0 : goal.returns-else-held-eq0
unfolding ending_of IF◌THEN◌ELSE◌
returns-else-held-eq0 c =
    let h = c.held in
    rw (ne_eqb (length (held_of c.args.f)) 0 (λ z. c.if-held-eq0.false (h.ensures ∙ z))) (omega (arith, c.line_end.ensures))
