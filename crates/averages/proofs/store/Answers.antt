-- `averages::store` writes the nine entries from the pointer on. Assumes nothing.
use Rattle.std.proofs.Common.{arith, rules, refl}
use Rattle.std.proofs.lemmas.Slice.{put_mid-paste}
use Rattle.rows.proofs.Fill.{store_all}
use Rattle.averages.specs.Averages.{stored_of}
use Rattle.averages.proofs.store.Goals as goal

pub returns : goal.returns
unfolding stored_of
returns c =
    store_all _ _ c.args.pt c.args.frame 9 9 (search rules) refl (put_mid-paste c.args.pt _ _ _ c.args.frame 9 (search rules) (omega arith) (search rules))
