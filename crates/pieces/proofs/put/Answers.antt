-- `pieces::put` stores the text where it fits. Assumes nothing.
use Rattle.std.proofs.Common.{sym, arith, append_assoc, rules}
use Rattle.std.proofs.lemmas.Slice.{overwrites}
use Rattle.pieces.proofs.Written.{put_is, put_no}
use Rattle.pieces.proofs.put.Goals as goal

pub returns-then-text-out : goal.returns-then-text-out
returns-then-text-out c = let a = c.args in rw (put_is a.out.now a.at a.text.now (omega arith)) (simp append_assoc (search (rules, overwrites)))

pub returns-else-at-out : goal.returns-else-at-out
returns-else-at-out c = let a = c.args in sym (put_no a.out.now a.at a.text.now (omega arith))
