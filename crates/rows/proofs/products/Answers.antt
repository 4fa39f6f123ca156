-- `rows::products` gives the running sum, of a narrow row by its exact sum. Assumes nothing.
use mathlib.Core.Path.{sym, ap₂, ◌∙◌}
use native.Mathlib.Omega.{arith}
use mir.Syntax.{w32}
use Rattle.numbers.proofs.Read.{back}
use Rattle.operations.specs.Operations.{l_add}
use Rattle.rows.proofs.Plain.{narrow_products}
use Rattle.rows.proofs.products.Goals as goal

pub returns-then-narrow : goal.returns-then-narrow
returns-then-narrow c =
    let e = back w32 c.exact-s.type_inv ∙ c.exact-s.ensures.value in
    back w32 c.l_add.type_inv
    ∙ c.l_add.ensures
    ∙ ap₂ l_add e e
    ∙ sym (narrow_products c.args.a.now c.args.b.now (omega arith) (sym c.narrow.ensures ∙ c.if-narrow.true) c.exact-s.ensures.by_index)
