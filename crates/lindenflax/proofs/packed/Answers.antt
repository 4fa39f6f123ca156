-- `lindenflax::packed` stores each field at its place. Assumes nothing.
use Rattle.std.proofs.Common.{rules, arith, ◌≡◌, ◌<◌, sym, ◌∙◌}
use lib.ListN.{length, replicate, length-replicate}
use mir.Syntax.{w32}
use mir.Val.{SFits}
use mir.Facts.{to_z_pos}
use Rattle.numbers.proofs.Parts.{zarith}
use Rattle.numbers.proofs.Read.{back}
use Rattle.state.specs.Valid.{Shaped}
use Rattle.lindenflax.proofs.Lossless.{packs}
use lib.IntN.{pos}
use Rattle.std.proofs.lemmas.List.{same_lists}
use Rattle.lindenflax.proofs.packed.Goals as goal
use Rattle.lindenflax.proofs.packed.Goals.{After-map, Start}

rvad_is : (c : After-map) → c.map.result ≡ c.args.s.rvad
rvad_is c =
    let n : length c.map.result ≡ 9 = c.map.ensures.items.long in
    let m : length c.args.s.rvad ≡ 9 = search rules in
    same_lists _ _ (n ∙ sym m) (λ k d h. let b : k < 9 = omega arith in let w = c.map.ensures.items.at k d d b in search rules)

shape : (c : Start) → Shaped c.args.s
shape c = record { rvad = search rules; sacf = search rules; sav0 = search rules }

sacf_pointer_fits : (c : Start) → SFits w32 (pos c.args.s.ptsacf)
sacf_pointer_fits c = omega (zarith, c.requires.0)

sav0_pointer_fits : (c : Start) → SFits w32 (pos c.args.s.ptsav0)
sav0_pointer_fits c = omega (zarith, c.requires.1)

pub returns : goal.returns
returns c =
    let s = (goal.at.returns c).Start in
    packs (replicate 85 (pos 0)) c.args.s (length-replicate 85 (pos 0)) (shape s) (rvad_is (goal.at.returns c).After-map)
    (back w32 c.from.type_inv ∙ (c.from.ensures ∙ search rules))
    (to_z_pos w32 (sacf_pointer_fits s).sfits)
    (to_z_pos w32 (sav0_pointer_fits s).sfits)
    (search rules)
    (back w32 c.from-2.type_inv ∙ (c.from-2.ensures ∙ search rules))
    (back w32 c.from-3.type_inv ∙ (c.from-3.ensures ∙ search rules))
    (back w32 c.from-4.type_inv ∙ (c.from-4.ensures ∙ search rules))
    (back w32 c.from-5.type_inv ∙ (c.from-5.ensures ∙ search rules))
    (back w32 c.from-6.type_inv ∙ (c.from-6.ensures ∙ search rules))
    (back w32 c.from-7.type_inv ∙ (c.from-7.ensures ∙ search rules))
    (back w32 c.from-8.type_inv ∙ (c.from-8.ensures ∙ search rules))
    (back w32 c.from-9.type_inv ∙ (c.from-9.ensures ∙ search rules))
    (back w32 c.bit.type_inv ∙ c.bit.ensures)
    c.with_part-run.ensures
    c.with_part-run-2.ensures
    c.with_part-run-3.ensures
    c.with_part-run-4.ensures
    c.with_part-run-5.ensures
    c.with_part.ensures
