-- `teller::Page::flag` puts the word of the reason, and the number of a hangover. Assumes nothing.
use borrow.Author.Rules.{rules}
use mathlib.Core.Path.{◌≡◌, ap, ◌∙◌}
use mathlib.Core.List.{◌++◌}
use Prim.Native.Nat.{◌+◌, ◌≤◌}
use lib.ListN.{length}
use Rattle.why.specs.Fits.{flag_case}
use Rattle.teller.specs.Decimal.{decimal_of}
use Rattle.teller.specs.Words.{flag_word, values_text, flag_text}
use Rattle.teller.proofs.Puts.{room_as, puts_as, room_first, room_second, puts_both}
use Rattle.teller.specs.Laws.{hangover, hangover_text}
use Rattle.teller.proofs.Page.flag.Goals as goal
use Rattle.teller.proofs.Page.flag.Goals.{In-Hangover}

pub word-requires : goal.word-requires
unfolding flag_text flag_word flag_case values_text
word-requires c =
    room_as c.args.self.now.out.now c.args.self.now.at (ap flag_text c.in-Energy.is) c.requires

-- its text
its_text : (c : In-Hangover) → flag_text c.args.f ≡ hangover ++ decimal_of c.in-Hangover.n
its_text c = ap flag_text c.in-Hangover.is ∙ hangover_text c.in-Hangover.n

room : (c : In-Hangover) → c.args.self.now.at + length (hangover ++ decimal_of c.in-Hangover.n) ≤ length c.args.self.now.out.now
room c = room_as c.args.self.now.out.now c.args.self.now.at (its_text c) c.requires

pub word-requires-in-Hangover : goal.word-requires-in-Hangover
word-requires-in-Hangover c =
    room_first c.args.self.now.out.now c.args.self.now.at hangover (decimal_of c.in-Hangover.n) (room (goal.at.word-requires-in-Hangover c).In-Hangover)

pub number-requires : goal.number-requires
number-requires c =
    room_second c.args.self.now.out.now c.args.self.now.at hangover (decimal_of c.in-Hangover.n) (room (goal.at.number-requires c).In-Hangover) (c.word-in-Hangover.ensures.value, c.word-in-Hangover.ensures.out_after)

pub word-requires-in-Quiet : goal.word-requires-in-Quiet
unfolding flag_text flag_word flag_case values_text
word-requires-in-Quiet c =
    room_as c.args.self.now.out.now c.args.self.now.at (ap flag_text c.in-Quiet.is) c.requires

pub returns-in-Energy : goal.returns-in-Energy
unfolding flag_text flag_word flag_case values_text
returns-in-Energy c =
    let both = puts_as c.args.self.now.out.now c.args.self.now.at (ap flag_text c.in-Energy.is) (c.word.ensures.value, c.word.ensures.out_after) in
    record { same = search rules; value = both.0; out_after = both.1 }

pub returns-in-Hangover : goal.returns-in-Hangover
returns-in-Hangover c =
    let both = puts_as c.args.self.now.out.now c.args.self.now.at (its_text (goal.at.returns-in-Hangover c).In-Hangover)
    (puts_both c.args.self.now.out.now c.args.self.now.at hangover (decimal_of c.in-Hangover.n) (room (goal.at.returns-in-Hangover c).In-Hangover) (c.word-in-Hangover.ensures.value, c.word-in-Hangover.ensures.out_after) (c.number.ensures.value, c.number.ensures.out_after)) in
    record { same = search rules; value = both.0; out_after = both.1 }

pub returns-in-Quiet : goal.returns-in-Quiet
unfolding flag_text flag_word flag_case values_text
returns-in-Quiet c =
    let both = puts_as c.args.self.now.out.now c.args.self.now.at (ap flag_text c.in-Quiet.is) (c.word-in-Quiet.ensures.value, c.word-in-Quiet.ensures.out_after) in
    record { same = search rules; value = both.0; out_after = both.1 }
