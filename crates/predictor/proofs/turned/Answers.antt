-- `predictor::turned` gives one update of the recursion. Assumes nothing.
use Rattle.std.proofs.Common.{rules}
use mir.Facts.{to_z-of_z}
use Rattle.predictor.specs.Schur.{turned_of}
use Rattle.predictor.proofs.turned.Goals as goal

pub returns : goal.returns
unfolding turned_of
returns c = search (rules, to_z-of_z)
