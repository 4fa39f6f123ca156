-- `pieces::start` carries nothing. Assumes nothing.
use mathlib.Core.Path.{refl}
use Rattle.pieces.specs.Lines.{short}
use Rattle.pieces.specs.Cut.{pad_of, finder_of}
use Rattle.pieces.proofs.start.Goals as goal

pub returns : goal.returns
unfolding finder_of pad_of short
returns c = refl
