-- `pieces::last_end` looks from the end back. Assumes nothing.
use Rattle.std.proofs.Common.{length, sym, rules}
use Rattle.std.proofs.iter.runs.Made.{chains}
use Rattle.pieces.specs.Cut.{to_of}
use Rattle.pieces.proofs.Found.{end_last, end_none}
use Rattle.pieces.proofs.last_end.Goals as goal

pub returns-in-Some : goal.returns-in-Some
unfolding to_of
returns-in-Some c = sym (end_last c.args.s.now c.in-Some.k (length c.args.s.now) (search rules) (search rules) (search rules))

pub returns-in-None : goal.returns-in-None
unfolding to_of
returns-in-None c = sym (end_none c.args.s.now (length c.args.s.now) (search (rules, chains)))
