-- The totals need no room, so no piece is refused. Assumes nothing of its own.
use mathlib.Core.Path.{◌∙◌}
use Rattle.totals.proofs.Calls.{fed_fits, fed_is}
use Rattle.totals.proofs.feed.Goals as goal

pub unwrap-none-requires : goal.unwrap-none-requires
unwrap-none-requires c = (fed_fits c.args.n c.args.input.now 0 c.feed.result c.feed.ensures.value).ok

pub returns : goal.returns
returns c = c.feed.ensures.player_after ∙ fed_is c.args.n c.args.input.now 0
