-- `Formed::scale` reads the one digit. Assumes nothing.
use Rattle.std.proofs.Common.{pos, sym, ap, ◌∙◌, arith, w16}
use Rattle.numbers.proofs.Read.{back}
use Rattle.lines.specs.Line.{field_at}
use Rattle.lines.proofs.Digits.{part_hex, digit_at}
use Rattle.lines.proofs.Fields.{formed, field_hex}
use Rattle.lines.proofs.Formed.scale.Goals as goal

pub worth-requires : goal.worth-requires
worth-requires c =
    let l = c.args.self.line.now in
    part_hex l 72 1 (omega (arith, (formed l c.args.self.formed).size)) 0 (omega arith) (field_hex l c.args.self.formed 72 1 (omega arith))

pub returns : goal.returns
unfolding field_at
returns c =
    let l = c.args.self.line.now in
    let s = (formed l c.args.self.formed).size in
    let e = c.worth.ensures ∙ sym (digit_at l 72 (omega arith)) in
    back w16 {z = c.from.result} c.from.type_inv ∙ (c.from.ensures ∙ ap pos e)
