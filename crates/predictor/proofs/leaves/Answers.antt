-- `predictor::leaves` is the clause's test. Assumes nothing.
use Rattle.std.proofs.Common.{rules}
use mir.Facts.{to_z-of_z}
use Rattle.predictor.specs.Schur.{leaves_of}
use Rattle.predictor.proofs.leaves.Goals as goal

pub returns : goal.returns
unfolding leaves_of
returns c = search (rules, to_z-of_z)
