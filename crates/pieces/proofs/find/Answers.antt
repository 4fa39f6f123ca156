-- `pieces::find`: where no line feed stands in 81 bytes, it is looked for after them. Assumes nothing.
use Rattle.std.proofs.Common.{◌≡◌, ◌+◌, sym, ap, ◌∙◌, arith, leb-true, rules}
use Rattle.pieces.specs.Lines.{plain_of}
use Rattle.pieces.proofs.Found.{plain_le, plain_take, plain_drop}
use Rattle.pieces.proofs.find.Goals as goal
use Rattle.pieces.proofs.find.Goals.{After-seek}

-- 81 bytes are passed
passed : (c : After-seek) → 81 + c.seek.result ≡ plain_of c.args.s.now
passed c =
    let s = c.args.s.now in
    let e = c.in-Some.ensures.cases in
    let p = ap plain_of e.0 ∙ plain_take 81 s in
    let h = leb-true 81 _ (sym c.plain.ensures ∙ c.if-plain.true) in
    let d = plain_drop 81 s (omega arith) in
    omega (arith, c.seek.ensures, ap plain_of e.1)

pub overflow_add-result : goal.overflow_add-result
overflow_add-result c = let p = passed c in let l = plain_le c.args.s.now in search rules

pub returns-in-Some : goal.returns-in-Some
returns-in-Some c = passed c
