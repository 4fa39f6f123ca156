-- `teller::digits` writes a digit a turn, the last first. Assumes nothing.
use borrow.Author.Rules.{rules}
use mathlib.Core.Path.{refl, ◌∙◌}
use mathlib.Core.List.{append-nil}
use Prim.Native.Nat.{◌<◌}
use native.Mathlib.Omega.{arith}
use lib.ListN.{length-set}
use Rattle.teller.specs.Decimal.{decimal_of}
use Rattle.teller.proofs.Decimal.{digit_next, digit_last, digit_room, digit_small}
use Rattle.teller.proofs.digits.Goals as goal
use Rattle.teller.proofs.digits.Goals.{In-loop-rest}

pub loop-rest-init : goal.loop-rest-init
unfolding decimal_of
loop-rest-init c = (omega arith, refl, search rules, append-nil _)

-- there is room for the digit
room : (c : In-loop-rest) → 0 < c.loop-rest.from
room c = let w = c.loop-rest in digit_room w.from w.rest w.invariant.2 (omega arith)

pub overflow_sub-from : goal.overflow_sub-from
overflow_sub-from c = room c

pub loop-rest-smaller : goal.loop-rest-smaller
loop-rest-smaller c = let h = room c in omega arith

pub loop-rest-preserved : goal.loop-rest-preserved
loop-rest-preserved c =
    let w = c.loop-rest in
    let h = room c in (
      omega arith,
      simp length-set w.invariant.1,
      digit_small w.from w.rest w.invariant.2 h,
      digit_next w.text w.from w.rest (omega arith) (omega arith) h ∙ w.invariant.3,
    )

pub returns : goal.returns
returns c =
    let w = c.loop-rest in
    (w.invariant.0, digit_last w.text w.from w.rest (omega arith) (omega arith) ∙ w.invariant.3)
