-- `lindenflax::lindenflax_reset` stores the state after a reset, where the run has its length. Assumes nothing.
use mathlib.Core.Path.{ap, ◌∙◌}
use native.Mathlib.Omega.{arith}
use borrow.Author.Tests.{eq-eqb, ne_eqb}
use Rattle.rows.specs.Choice.{IF◌THEN◌ELSE◌}
use Rattle.state.specs.Valid.{reset_of}
use Rattle.lindenflax.specs.Run.{run_of, reset_number, reset_run}
use Rattle.lindenflax.proofs.lindenflax_reset.Goals as goal

pub returns-then-state-ne-RUN : goal.returns-then-state-ne-RUN
unfolding reset_number reset_run IF◌THEN◌ELSE◌
returns-then-state-ne-RUN c = let t = ne_eqb _ 85 c.if-state-ne-RUN.true in record { value = rw t; state_after = rw t }

pub packed-requires : goal.packed-requires
unfolding reset_of
packed-requires c = rw c.reset.ensures (omega arith, omega arith)

pub returns : goal.returns
unfolding reset_number reset_run IF◌THEN◌ELSE◌
returns c =
    let t = eq-eqb _ 85 c.if-state-ne-RUN.false in
    record { value = rw t; state_after = rw t (c.put.ensures ∙ (c.packed.ensures ∙ ap run_of c.reset.ensures)) }
