-- `predictor::predicted` gives the filter of clause 6.3. Assumes nothing.
use Rattle.std.proofs.Common.{rules}
use Rattle.predictor.specs.Filter.{predicted_of}
use Rattle.predictor.proofs.predicted.Goals as goal

pub returns : goal.returns
unfolding predicted_of
returns c = search rules
