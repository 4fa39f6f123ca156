-- `frames::lags_ok` tests each lag. Assumes nothing.
use Rattle.std.proofs.Common.{sym, ◌∙◌, rules, tests}
use Rattle.std.proofs.lemmas.Iterator.{YieldsList-from_slice}
use Rattle.std.proofs.lemmas.Iterator.Search.{all_from_yields_List}
use Rattle.lags.specs.Lags.{lag_ok}
use Rattle.frames.specs.Frame.{lags_ok}
use Rattle.frames.proofs.All.{all_is}
use Rattle.frames.proofs.lags_ok.Goals as goal

pub returns : goal.returns
unfolding lags_ok
returns c =
    let xs = c.args.lags in
    all_from_yields_List lag_ok _ _ _ c.all.ensures.ran (YieldsList-from_slice xs cc) (λ x b q k. search (rules, tests)) ∙ sym (all_is lag_ok xs)
