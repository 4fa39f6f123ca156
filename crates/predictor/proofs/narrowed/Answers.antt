-- `predictor::narrowed` keeps the top 13 bits, which fit 16. Assumes nothing.
use Rattle.std.proofs.Common.{rules, arith}
use mir.Facts.{to_z-of_z}
use Rattle.operations.proofs.Top.{top_need, top_back}
use Rattle.predictor.proofs.narrowed.Goals as goal

pub overflow_cast-result : goal.overflow_cast-result
overflow_cast-result c = top_need {r = c.l_shr.result} c.args.coef 19 (omega arith) c.ranges.coef (search (rules, to_z-of_z))

pub returns : goal.returns
returns c = top_back {r = c.l_shr.result} c.args.coef 19 (omega arith) c.ranges.coef (search (rules, to_z-of_z))
