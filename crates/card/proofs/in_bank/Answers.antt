-- `card::in_bank` meets its contract: a channel below the size shows that the bank is not empty. Assumes nothing.
use Rattle.std.proofs.Common.{rules, tests}
use Rattle.card.specs.Card.{in_bank}
use Rattle.card.proofs.in_bank.Goals as goal

pub returns-then-n-le-CHANNELS : goal.returns-then-n-le-CHANNELS
unfolding in_bank
returns-then-n-le-CHANNELS c = search (rules, tests)

pub returns-else-n-le-CHANNELS : goal.returns-else-n-le-CHANNELS
unfolding in_bank
returns-else-n-le-CHANNELS c = search (rules, tests)
