-- The totals need no room, so the end is not refused. Assumes nothing of its own.
use mathlib.Core.Path.{◌∙◌, ap}
use Rattle.player.specs.declared.Player.{Player}
use Rattle.totals.specs.declared.Tally.{Tally}
use Rattle.totals.proofs.Calls.{finish_fits, finish_is}
use Rattle.totals.proofs.finish.Goals as goal

pub unwrap-none-requires : goal.unwrap-none-requires
unwrap-none-requires c = (finish_fits c.args.n 0 c.finish.result c.finish.ensures.value).ok

pub returns : goal.returns
returns c = ap (λ (p : Player Tally). p.hearer.counted) c.finish.ensures.player_after ∙ finish_is c.args.n 0
