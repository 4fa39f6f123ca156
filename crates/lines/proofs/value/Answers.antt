-- `lines::value` gives the worth of a digit. Assumes nothing.
use Rattle.std.proofs.Common.{Some, sym, ap, ◌∙◌}
use Rattle.rows.proofs.Choice.{by_yes, by_no}
use Rattle.lines.specs.Hex.{worth_of}
use Rattle.lines.proofs.value.Goals as goal

pub worth-requires : goal.worth-requires
worth-requires c = sym c.is_hex.ensures ∙ c.if-is_hex.true

pub returns-then-is_hex : goal.returns-then-is_hex
unfolding worth_of
returns-then-is_hex c = ap Some c.worth.ensures ∙ sym (by_yes _ _ (sym c.is_hex.ensures ∙ c.if-is_hex.true))

pub returns-else-is_hex : goal.returns-else-is_hex
unfolding worth_of
returns-else-is_hex c = sym (by_no _ _ (sym c.is_hex.ensures ∙ c.if-is_hex.false))
