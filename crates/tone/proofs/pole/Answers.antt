-- `tone::pole` tells whether the pole passes. Assumes nothing.
use Rattle.std.proofs.Common.{rules, arith}
use mir.Facts.{to_z-of_z}
use Rattle.operations.specs.Operations.{l_mult}
use Rattle.operations.proofs.Laws.{l_mult_fits}
use Rattle.operations.proofs.Top.{top_fits, top_need}
use Rattle.rows.specs.Choice.{IF◌THEN◌ELSE◌}
use Rattle.tone.specs.Pole.{pole_of}
use Rattle.tone.proofs.pole.Goals as goal

pub returns-then-num-le0 : goal.returns-then-num-le0
unfolding pole_of IF◌THEN◌ELSE◌
returns-then-num-le0 c = search (rules, to_z-of_z)

pub overflow_cast-temp : goal.overflow_cast-temp
overflow_cast-temp c =
    let a = c.args.a1 in top_need {r = c.l_shr-temp.result} (l_mult a a) 16 (omega arith) (l_mult_fits a a) (search (rules, to_z-of_z))

pub returns-then-a1-lt0 : goal.returns-then-a1-lt0
unfolding pole_of IF◌THEN◌ELSE◌
returns-then-a1-lt0 c =
    let a = c.args.a1 in
    let f = top_fits {r = c.l_shr-temp.result} (l_mult a a) 16 (omega arith) (l_mult_fits a a) (search (rules, to_z-of_z)) in
    search (rules, to_z-of_z)

pub returns : goal.returns
unfolding pole_of IF◌THEN◌ELSE◌
returns c = search (rules, to_z-of_z)
