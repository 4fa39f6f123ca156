-- `predictor::coefficient` gives the clause's reflection coefficient. Assumes nothing.
use Rattle.std.proofs.Common.{rules}
use mir.Facts.{to_z-of_z}
use Rattle.rows.specs.Choice.{IF◌THEN◌ELSE◌}
use Rattle.predictor.specs.Schur.{coefficient_of}
use Rattle.predictor.proofs.coefficient.Goals as goal

pub returns-then-p1-gt0 : goal.returns-then-p1-gt0
unfolding coefficient_of IF◌THEN◌ELSE◌
returns-then-p1-gt0 c = search (rules, to_z-of_z)

pub returns-else-p1-gt0 : goal.returns-else-p1-gt0
unfolding coefficient_of IF◌THEN◌ELSE◌
returns-else-p1-gt0 c = search (rules, to_z-of_z)
