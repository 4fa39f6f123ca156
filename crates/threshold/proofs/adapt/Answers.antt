-- `threshold::adapt` leaves what its way says. Assumes nothing.
use Rattle.std.proofs.Common.{rules}
use mir.Facts.{to_z-of_z}
use Rattle.threshold.specs.Ways.{left_by}
use Rattle.threshold.proofs.Ways.{by_way}
use Rattle.threshold.proofs.adapt.Goals as goal

pub returns-in-Floor : goal.returns-in-Floor
unfolding left_by
returns-in-Floor c = let e = by_way c.args.acf0 c.args.pvad c.args.rav1 c.args.normrav1 c.args.kept c.args.ptch c.args.stat c.args.tone in search (rules, to_z-of_z)

pub returns-in-Periodic : goal.returns-in-Periodic
unfolding left_by
returns-in-Periodic c = let e = by_way c.args.acf0 c.args.pvad c.args.rav1 c.args.normrav1 c.args.kept c.args.ptch c.args.stat c.args.tone in search (rules, to_z-of_z)

pub returns-in-Waiting : goal.returns-in-Waiting
unfolding left_by
returns-in-Waiting c = let e = by_way c.args.acf0 c.args.pvad c.args.rav1 c.args.normrav1 c.args.kept c.args.ptch c.args.stat c.args.tone in search (rules, to_z-of_z)

pub returns-in-Adapted : goal.returns-in-Adapted
unfolding left_by
returns-in-Adapted c = let e = by_way c.args.acf0 c.args.pvad c.args.rav1 c.args.normrav1 c.args.kept c.args.ptch c.args.stat c.args.tone in search (rules, to_z-of_z)
