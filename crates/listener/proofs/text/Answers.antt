-- `listener::text` puts five bytes together. Assumes nothing.
use Rattle.listener.specs.Said.{text_of}
use Rattle.listener.proofs.text.Goals as goal

pub returns : goal.returns
unfolding text_of
returns c = rw (c.flag-a.ensures, c.flag-b.ensures, c.flag-c.ensures)
