-- `lindenflax::lindenflax_write_line` hands on what `lines::write` answers and leaves. Assumes nothing.
use Rattle.std.proofs.Common.{◌∙◌}
use Rattle.numbers.proofs.Read.{zreads}
use Rattle.lindenflax.specs.Lines.{write_number, write_line}
use Rattle.lindenflax.proofs.lindenflax_write_line.Goals as goal

pub returns : goal.returns
unfolding write_number write_line
returns c =
    let f = c.ranges.scale in
    let w = simp zreads at c.write.ensures in
    record { value = c.number_in.ensures ∙ w.value; line_after = w.line_after }
