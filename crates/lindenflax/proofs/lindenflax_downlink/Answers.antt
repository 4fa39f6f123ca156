-- `lindenflax::lindenflax_downlink` is `stepped` on the downlink. Assumes nothing.
use mathlib.Core.Path.{◌∙◌}
use Rattle.numbers.proofs.Read.{zreads}
use Rattle.frames.specs.Direction.{direction_in}
use Rattle.lindenflax.proofs.lindenflax_downlink.Goals as goal

pub returns : goal.returns
unfolding direction_in
returns c =
    let f = c.ranges.scale in
    let e = simp zreads at c.stepped.ensures in
    record { value = c.number_in.ensures ∙ e.value; state_after = e.state_after; answer_after = e.answer_after }
