-- `state::State::reset` gives the state of document 01's reset. Assumes nothing.
use mathlib.Core.Path.{refl}
use Rattle.rows.specs.Rows.{row}
use Rattle.state.specs.Valid.{reset_of}
use Rattle.state.proofs.State.reset.Goals as goal

pub returns : goal.returns
unfolding reset_of row
returns c = refl
