-- `averages::average` gives the whole clause, call by call. Assumes nothing.
use mir.Facts.{to_z-of_z}
use Rattle.averages.specs.Averages.{average_of}
use Rattle.averages.proofs.average.Goals as goal

pub returns : goal.returns
unfolding average_of
returns c =
    let f = c.ranges.scalvad in
    let e = simp to_z-of_z at c.scaled-frame.ensures in
    simp (c.next-2.ensures, c.next.ensures, c.store-2.ensures, c.store.ensures, c.av1-old.ensures, c.av0-new.ensures, e, c.inside-q.ensures.value, c.inside-p.ensures.value)
