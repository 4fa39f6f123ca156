-- `runner::text` puts four bytes together. Assumes nothing.
use Rattle.runner.specs.Said.{text_of}
use Rattle.runner.proofs.text.Goals as goal

pub returns : goal.returns
unfolding text_of
returns c = rw (c.numeral-n.ensures, c.flag-a.ensures, c.flag-b.ensures)
