-- `teller::Page::text` puts the words of a line one behind the other. Assumes nothing.
use borrow.Author.Rules.{rules}
use mathlib.Core.Path.{◌≡◌, sym, ap, ◌∙◌}
use Prim.Native.Nat.{◌+◌, ◌≤◌}
use lib.ListN.{length}
use Rattle.refusals.specs.Refusal.{number_of}
use Rattle.why.specs.Why.{Why, why_in}
use Rattle.teller.specs.Decimal.{decimal_of}
use Rattle.teller.specs.Words.{reasons_text, text_of}
use Rattle.teller.proofs.Puts.{Puts, room_as, puts_as}
use Rattle.teller.proofs.Texts.{denied_room₁, denied_room₂, denied_room₃, denied_puts, said_room₁, said_room₂, said_room₃, said_room₄, said_room₅, said_room₆, said_puts}
use Rattle.teller.proofs.Page.text.Goals as goal
use Rattle.teller.proofs.Page.text.Goals.{After-from, After-number-in-Err, In-Err, In-Ok}

room : (c : In-Err) → c.args.self.now.at + length (text_of (Why.Refused (number_of c.in-Err.refusal))) ≤ length c.args.self.now.out.now
unfolding why_in
room c = room_as c.args.self.now.out.now c.args.self.now.at (ap (λ r. text_of (why_in r)) c.in-Err.is) c.requires

pub word-requires : goal.word-requires
word-requires c =
    denied_room₁ c.args.self.now.out.now c.args.self.now.at (number_of c.in-Err.refusal) (room (goal.at.word-requires c).In-Err)

-- the number that is put
numbered : (c : After-from) → decimal_of (number_of c.in-Err.refusal) ≡ decimal_of c.from.result
numbered c = ap decimal_of (sym (c.from.ensures ∙ c.number.ensures.value))

-- it is put behind the word
number_put : (c : After-number-in-Err) → Puts c.word.new.self.out.now c.word.new.self.at (decimal_of (number_of c.in-Err.refusal)) c.number-in-Err.new.self.at c.number-in-Err.new.self.out.now
number_put c =
    puts_as c.word.new.self.out.now c.word.new.self.at (numbered (goal.at.After-number-in-Err c).After-from) (c.number-in-Err.ensures.value, c.number-in-Err.ensures.out_after)

pub number-requires-in-Err : goal.number-requires-in-Err
number-requires-in-Err c =
    room_as c.word.new.self.out.now c.word.new.self.at (numbered (goal.at.number-requires-in-Err c).After-from)
    (denied_room₂ c.args.self.now.out.now c.args.self.now.at (number_of c.in-Err.refusal) (room (goal.at.number-requires-in-Err c).In-Err) (c.word.ensures.value, c.word.ensures.out_after))

pub word-requires-in-Err : goal.word-requires-in-Err
word-requires-in-Err c =
    denied_room₃ c.args.self.now.out.now c.args.self.now.at (number_of c.in-Err.refusal) (room (goal.at.word-requires-in-Err c).In-Err) (c.word.ensures.value, c.word.ensures.out_after) (number_put (goal.at.word-requires-in-Err c).After-number-in-Err)

rooms : (c : In-Ok) → c.args.self.now.at + length (reasons_text c.in-Ok.r) ≤ length c.args.self.now.out.now
unfolding text_of why_in
rooms c = room_as c.args.self.now.out.now c.args.self.now.at (ap (λ r. text_of (why_in r)) c.in-Ok.is) c.requires

pub number-requires-in-Ok : goal.number-requires-in-Ok
number-requires-in-Ok c =
    said_room₁ c.args.self.now.out.now c.args.self.now.at c.in-Ok.r (rooms (goal.at.number-requires-in-Ok c).In-Ok)

pub word-requires-in-Ok : goal.word-requires-in-Ok
word-requires-in-Ok c =
    said_room₂ c.args.self.now.out.now c.args.self.now.at c.in-Ok.r (rooms (goal.at.word-requires-in-Ok c).In-Ok) (c.number-in-Ok.ensures.value, c.number-in-Ok.ensures.out_after)

pub flag-requires : goal.flag-requires
flag-requires c =
    said_room₃ c.args.self.now.out.now c.args.self.now.at c.in-Ok.r (rooms (goal.at.flag-requires c).In-Ok) (c.number-in-Ok.ensures.value, c.number-in-Ok.ensures.out_after) (c.word-in-Ok.ensures.value, c.word-in-Ok.ensures.out_after)

pub word-requires-in-Ok-2 : goal.word-requires-in-Ok-2
word-requires-in-Ok-2 c =
    said_room₄ c.args.self.now.out.now c.args.self.now.at c.in-Ok.r (rooms (goal.at.word-requires-in-Ok-2 c).In-Ok) (c.number-in-Ok.ensures.value, c.number-in-Ok.ensures.out_after) (c.word-in-Ok.ensures.value, c.word-in-Ok.ensures.out_after) (c.flag.ensures.value, c.flag.ensures.out_after)

pub way-requires : goal.way-requires
way-requires c =
    said_room₅ c.args.self.now.out.now c.args.self.now.at c.in-Ok.r (rooms (goal.at.way-requires c).In-Ok) (c.number-in-Ok.ensures.value, c.number-in-Ok.ensures.out_after) (c.word-in-Ok.ensures.value, c.word-in-Ok.ensures.out_after) (c.flag.ensures.value, c.flag.ensures.out_after) (c.word-in-Ok-2.ensures.value, c.word-in-Ok-2.ensures.out_after)

pub word-requires-in-Ok-3 : goal.word-requires-in-Ok-3
word-requires-in-Ok-3 c =
    said_room₆ c.args.self.now.out.now c.args.self.now.at c.in-Ok.r (rooms (goal.at.word-requires-in-Ok-3 c).In-Ok) (c.number-in-Ok.ensures.value, c.number-in-Ok.ensures.out_after) (c.word-in-Ok.ensures.value, c.word-in-Ok.ensures.out_after) (c.flag.ensures.value, c.flag.ensures.out_after) (c.word-in-Ok-2.ensures.value, c.word-in-Ok-2.ensures.out_after) (c.way.ensures.value, c.way.ensures.out_after)

pub returns-in-Err : goal.returns-in-Err
unfolding why_in
returns-in-Err c =
    let both = puts_as c.args.self.now.out.now c.args.self.now.at (ap (λ r. text_of (why_in r)) c.in-Err.is)
    (denied_puts c.args.self.now.out.now c.args.self.now.at (number_of c.in-Err.refusal) (room (goal.at.returns-in-Err c).In-Err) (c.word.ensures.value, c.word.ensures.out_after) (number_put (goal.at.returns-in-Err c).After-number-in-Err) (c.word-in-Err.ensures.value, c.word-in-Err.ensures.out_after)) in
    record { same = search rules; value = both.0; out_after = both.1 }

pub returns-in-Ok : goal.returns-in-Ok
unfolding text_of why_in
returns-in-Ok c =
    let both = puts_as c.args.self.now.out.now c.args.self.now.at (ap (λ r. text_of (why_in r)) c.in-Ok.is)
    (said_puts c.args.self.now.out.now c.args.self.now.at c.in-Ok.r (rooms (goal.at.returns-in-Ok c).In-Ok) (c.number-in-Ok.ensures.value, c.number-in-Ok.ensures.out_after) (c.word-in-Ok.ensures.value, c.word-in-Ok.ensures.out_after) (c.flag.ensures.value, c.flag.ensures.out_after) (c.word-in-Ok-2.ensures.value, c.word-in-Ok-2.ensures.out_after) (c.way.ensures.value, c.way.ensures.out_after) (c.word-in-Ok-3.ensures.value, c.word-in-Ok-3.ensures.out_after)) in
    record { same = search rules; value = both.0; out_after = both.1 }
