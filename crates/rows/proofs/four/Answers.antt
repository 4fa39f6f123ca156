-- `rows::four` takes the entries in their order. Assumes nothing.
use borrow.Author.Rules.{rules}
use lib.ListN.{get_or}
use Rattle.rows.specs.Rows.{first_of}
use Rattle.rows.proofs.Made.{made}
use Rattle.rows.proofs.four.Goals as goal

pub returns : goal.returns
unfolding first_of
returns c = made _ (λ i. get_or c.args.from.now i 0) _ 4 (λ i y q l k. search rules) _ c.from_fn.ensures.items
