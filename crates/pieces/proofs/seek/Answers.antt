-- `pieces::seek` finds the first line feed, or the end. Assumes nothing.
use Rattle.std.proofs.Common.{eqb, ◌∙◌, ap, rules, tests, length}
use Rattle.std.specs.Option.{unwrap_or}
use Rattle.std.proofs.lemmas.Iterator.{YieldsList-from_slice}
use Rattle.std.proofs.lemmas.Iterator.Search.{position_from_yields_List}
use Rattle.pieces.proofs.Found.{plain_found}
use Rattle.pieces.proofs.seek.Goals as goal

pub returns : goal.returns
returns c =
    let s = c.args.s.now in
    let e = position_from_yields_List (λ b. eqb b 10) _ _ c.position.result c.position.ensures.ran (YieldsList-from_slice s cc) (λ x b q k. search (rules, tests)) in
    c.unwrap_or.ensures ∙ (ap (λ o. unwrap_or o (length s)) e ∙ plain_found s)
