-- The nearest number of 16 bits: the library's `clamp` keeps to the ends that the code names. Assumes nothing.
use mir.Syntax.{w16, w64}
use mir.Facts.{to_z-of_z}
use Rattle.operations.proofs.Wide.{between_back}
use Rattle.operations.proofs.I16Word.nearest.Goals as goal

pub returns : goal.returns
returns c =
    let e = rw (c.from.ensures, c.from-2.ensures, to_z-of_z c.ranges.exact) at c.clamp.ensures.value in
    between_back w64 w16 tt c.args.exact e
