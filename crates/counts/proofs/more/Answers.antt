-- `counts::more` raises the numbers that the answer's kind has, each of which can rise. Assumes nothing.
use borrow.Author.Rules.{rules}
use native.Mathlib.Omega.{arith}
use Rattle.counts.proofs.Adds.{plus_refused, plus_speech, plus_held, plus_quiet}
use Rattle.counts.proofs.Room.{room}
use Rattle.counts.proofs.more.Goals as goal

pub overflow_add-n : goal.overflow_add-n
overflow_add-n c = let h = room _ c.requires in search rules

pub returns-then-r-ne0 : goal.returns-then-r-ne0
returns-then-r-ne0 c = plus_refused _ _ c.if-r-ne0.true

pub overflow_add-n-2 : goal.overflow_add-n-2
overflow_add-n-2 c = let h = room _ c.requires in search rules

pub overflow_add-n-then-r : goal.overflow_add-n-then-r
overflow_add-n-then-r c = let h = room _ c.requires in search rules

pub returns-then-r : goal.returns-then-r
returns-then-r c = plus_speech _ _ (omega arith) c.if-r.true

pub overflow_add-n-then-r-2 : goal.overflow_add-n-then-r-2
overflow_add-n-then-r-2 c = let h = room _ c.requires in search rules

pub returns-then-r-2 : goal.returns-then-r-2
returns-then-r-2 c = plus_held _ _ (omega arith) c.if-r.false c.if-r-2.true

pub overflow_add-n-else-r-2 : goal.overflow_add-n-else-r-2
overflow_add-n-else-r-2 c = let h = room _ c.requires in search rules

pub returns-else-r-2 : goal.returns-else-r-2
returns-else-r-2 c = plus_quiet _ _ (omega arith) c.if-r.false c.if-r-2.false
