-- `predictor::lifted` takes the top half of the mirrored coefficient, which fits 16 bits. Assumes nothing.
use Rattle.std.proofs.Common.{rules, arith}
use mir.Facts.{to_z-of_z}
use Rattle.operations.proofs.Top.{top_fits, top_need}
use Rattle.predictor.proofs.lifted.Goals as goal

pub overflow_cast-temp : goal.overflow_cast-temp
overflow_cast-temp c = top_need {r = c.l_shr-temp.result} c.args.mirror 16 (omega arith) c.ranges.mirror (search (rules, to_z-of_z))

pub returns : goal.returns
returns c = let f = top_fits {r = c.l_shr-temp.result} c.args.mirror 16 (omega arith) c.ranges.mirror (search (rules, to_z-of_z)) in search (rules, to_z-of_z)
