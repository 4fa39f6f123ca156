-- `lindenflax::unpacked` takes each field from its place: each number fits, since the run is narrow. Assumes nothing.
use borrow.Author.Rules.{rules}
use mathlib.Core.Path.{◌≡◌, ◌∙◌}
use mir.Val.{SFits}
use native.Mathlib.Omega.{arith}
use lib.ListN.{length}
use mir.Syntax.{w16, w32}
use Rattle.numbers.specs.Sum.{at}
use Rattle.numbers.proofs.Read.{back, zreads}
use Rattle.lindenflax.proofs.Parted.{sacf_within, sav0_within, lag_within}
use Rattle.lindenflax.proofs.Lossless.{from_places}
use Rattle.lindenflax.proofs.unpacked.Goals as goal
use Rattle.lindenflax.proofs.unpacked.Goals.{Start}

size : (c : Start) → length c.args.run ≡ 85
size c = search rules

pub pointer_at-requires : goal.pointer_at-requires
pointer_at-requires c = let s = (goal.at.pointer_at-requires c).Start in (omega arith, sacf_within s.args.run (size s) s.requires)

pub pointer_at-requires-2 : goal.pointer_at-requires-2
pointer_at-requires-2 c = let s = (goal.at.pointer_at-requires-2 c).Start in (omega arith, sav0_within s.args.run (size s) s.requires)

pub last_lag-requires : goal.last_lag-requires
last_lag-requires c = let s = (goal.at.last_lag-requires c).Start in lag_within s.args.run (size s) s.requires

pub returns : goal.returns
returns d =
    from_places d.args.run
    d.filter.ensures
    (back w16 d.short_at.type_inv ∙ d.short_at.ensures)
    d.part.ensures
    d.pointer_at.ensures
    d.part-2.ensures
    d.pointer_at-2.ensures
    (search rules)
    (back w16 d.short_at-2.type_inv ∙ d.short_at-2.ensures)
    (back w16 d.short_at-3.type_inv ∙ d.short_at-3.ensures)
    (back w16 d.short_at-4.type_inv ∙ d.short_at-4.ensures)
    (back w16 d.short_at-5.type_inv ∙ d.short_at-5.ensures)
    (back w16 d.short_at-6.type_inv ∙ d.short_at-6.ensures)
    (back w16 d.short_at-7.type_inv ∙ d.short_at-7.ensures)
    (back w16 d.short_at-8.type_inv ∙ d.short_at-8.ensures)
    d.last_lag.ensures
    (let f : SFits w32 (at d.args.run 84) = search rules in simp zreads at d.flag.ensures)
