-- `teller::Page::way` puts the word of the way, and the count that is waited for. Assumes nothing.
use borrow.Author.Rules.{rules}
use mathlib.Core.Path.{◌≡◌, sym, ap, ◌∙◌}
use mathlib.Core.List.{◌++◌}
use Prim.Native.Nat.{◌+◌, ◌≤◌}
use lib.ListN.{length}
use lib.IntN.{nat_abs}
use mir.Syntax.{w16, w32}
use mir.Val.{SFits}
use mir.Facts.{to_z-of_z}
use Rattle.numbers.proofs.Read.{back}
use Rattle.why.specs.Fits.{way_case}
use Rattle.teller.specs.Decimal.{decimal_of}
use Rattle.teller.specs.Words.{way_word, values_text, way_text}
use Rattle.teller.proofs.Puts.{room_as, puts_as, room_first, room_second, puts_both}
use Rattle.teller.specs.Laws.{waiting, waiting_text}
use Rattle.teller.proofs.Page.way.Goals as goal
use Rattle.teller.proofs.Page.way.Goals.{After-magnitude, In-Waiting}

pub word-requires : goal.word-requires
unfolding way_text way_word way_case values_text
word-requires c =
    room_as c.args.self.now.out.now c.args.self.now.at (ap way_text c.in-Floor.is) c.requires

pub word-requires-in-Periodic : goal.word-requires-in-Periodic
unfolding way_text way_word way_case values_text
word-requires-in-Periodic c =
    room_as c.args.self.now.out.now c.args.self.now.at (ap way_text c.in-Periodic.is) c.requires

pub word-requires-in-Unsteady : goal.word-requires-in-Unsteady
unfolding way_text way_word way_case values_text
word-requires-in-Unsteady c =
    room_as c.args.self.now.out.now c.args.self.now.at (ap way_text c.in-Unsteady.is) c.requires

pub word-requires-in-Tone : goal.word-requires-in-Tone
unfolding way_text way_word way_case values_text
word-requires-in-Tone c =
    room_as c.args.self.now.out.now c.args.self.now.at (ap way_text c.in-Tone.is) c.requires

-- its text
its_text : (c : In-Waiting) → way_text c.args.w ≡ waiting ++ decimal_of (nat_abs c.in-Waiting.k)
its_text c = ap way_text c.in-Waiting.is ∙ waiting_text c.in-Waiting.k

room : (c : In-Waiting) → c.args.self.now.at + length (waiting ++ decimal_of (nat_abs c.in-Waiting.k)) ≤ length c.args.self.now.out.now
room c = room_as c.args.self.now.out.now c.args.self.now.at (its_text c) c.requires

pub word-requires-in-Waiting : goal.word-requires-in-Waiting
word-requires-in-Waiting c =
    room_first c.args.self.now.out.now c.args.self.now.at waiting (decimal_of (nat_abs c.in-Waiting.k)) (room (goal.at.word-requires-in-Waiting c).In-Waiting)

-- the number that is put
count : (c : After-magnitude) → nat_abs c.in-Waiting.k ≡ c.magnitude.result
count c =
    let f : SFits w16 c.in-Waiting.k = search rules in
    sym (c.magnitude.ensures ∙ ap nat_abs (back w32 {z = c.from.result} c.from.type_inv ∙ (c.from.ensures ∙ to_z-of_z f)))

pub number-requires : goal.number-requires
number-requires c =
    room_as c.word-in-Waiting.new.self.out.now c.word-in-Waiting.new.self.at (ap decimal_of (count c))
    (room_second c.args.self.now.out.now c.args.self.now.at waiting (decimal_of (nat_abs c.in-Waiting.k)) (room (goal.at.number-requires c).In-Waiting) (c.word-in-Waiting.ensures.value, c.word-in-Waiting.ensures.out_after))

pub word-requires-in-Adapted : goal.word-requires-in-Adapted
unfolding way_text way_word way_case values_text
word-requires-in-Adapted c =
    room_as c.args.self.now.out.now c.args.self.now.at (ap way_text c.in-Adapted.is) c.requires

pub returns-in-Floor : goal.returns-in-Floor
unfolding way_text way_word way_case values_text
returns-in-Floor c =
    let both = puts_as c.args.self.now.out.now c.args.self.now.at (ap way_text c.in-Floor.is) (c.word.ensures.value, c.word.ensures.out_after) in
    record { same = search rules; value = both.0; out_after = both.1 }

pub returns-in-Periodic : goal.returns-in-Periodic
unfolding way_text way_word way_case values_text
returns-in-Periodic c =
    let both = puts_as c.args.self.now.out.now c.args.self.now.at (ap way_text c.in-Periodic.is) (c.word-in-Periodic.ensures.value, c.word-in-Periodic.ensures.out_after) in
    record { same = search rules; value = both.0; out_after = both.1 }

pub returns-in-Unsteady : goal.returns-in-Unsteady
unfolding way_text way_word way_case values_text
returns-in-Unsteady c =
    let both = puts_as c.args.self.now.out.now c.args.self.now.at (ap way_text c.in-Unsteady.is) (c.word-in-Unsteady.ensures.value, c.word-in-Unsteady.ensures.out_after) in
    record { same = search rules; value = both.0; out_after = both.1 }

pub returns-in-Tone : goal.returns-in-Tone
unfolding way_text way_word way_case values_text
returns-in-Tone c =
    let both = puts_as c.args.self.now.out.now c.args.self.now.at (ap way_text c.in-Tone.is) (c.word-in-Tone.ensures.value, c.word-in-Tone.ensures.out_after) in
    record { same = search rules; value = both.0; out_after = both.1 }

pub returns-in-Waiting : goal.returns-in-Waiting
returns-in-Waiting c =
    let both = puts_as c.args.self.now.out.now c.args.self.now.at (its_text (goal.at.returns-in-Waiting c).In-Waiting)
    (puts_both c.args.self.now.out.now c.args.self.now.at waiting (decimal_of (nat_abs c.in-Waiting.k)) (room (goal.at.returns-in-Waiting c).In-Waiting) (c.word-in-Waiting.ensures.value, c.word-in-Waiting.ensures.out_after)
    (puts_as c.word-in-Waiting.new.self.out.now c.word-in-Waiting.new.self.at (ap decimal_of (count (goal.at.returns-in-Waiting c).After-magnitude)) (c.number.ensures.value, c.number.ensures.out_after))) in
    record { same = search rules; value = both.0; out_after = both.1 }

pub returns-in-Adapted : goal.returns-in-Adapted
unfolding way_text way_word way_case values_text
returns-in-Adapted c =
    let both = puts_as c.args.self.now.out.now c.args.self.now.at (ap way_text c.in-Adapted.is) (c.word-in-Adapted.ensures.value, c.word-in-Adapted.ensures.out_after) in
    record { same = search rules; value = both.0; out_after = both.1 }
