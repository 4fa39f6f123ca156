-- `rows::lagged` makes the nine sums: what the test says of the row holds at each. Assumes nothing.
use borrow.Author.Rules.{rules}
use mathlib.Core.Path.{◌≡◌, sym, ◌∙◌, subst}
use mathlib.Core.Bool.{true}
use native.Mathlib.Omega.{arith}
use Rattle.std.proofs.lemmas.Fn.{serves_by}
use Rattle.rows.specs.Rows.{all, thirteen, l_lagged}
use Rattle.rows.proofs.Made.{made}
use Rattle.rows.proofs.lagged.Goals as goal

pub from_fn-requires : goal.from_fn-requires
from_fn-requires c = (
  omega arith,
  serves_by _ (λ xs q. q.0.now ≡ true → all thirteen q.1.now ≡ true)
      (λ xs q x v j r. let e : v ≡ q = search rules in subst (λ z. z.0.now ≡ true → all thirteen z.1.now ≡ true) (sym e) j)
      _ _ _ _ (λ e. sym c.narrow-small.ensures ∙ e) (λ xs t q x u y s j. search rules),
)

pub returns : goal.returns
returns c = made _ (l_lagged c.args.a) _ 9 (λ i y q l k. search rules) _ c.from_fn.ensures.items
