-- `lines::decode` reads the numbers of the line, and has their ranges checked. Assumes nothing.
use Rattle.std.proofs.Common.{w16, SFits, rules}
use Rattle.std.proofs.lemmas.Result.{err_from_is_err_and}
use Rattle.numbers.proofs.Read.{zreads}
use Rattle.refusals.specs.Refusal.{number_in}
use Rattle.lines.specs.Answers.{ranges_of}
use Rattle.lines.proofs.Answers.{parse_refused, check_refused, check_accepted}
use Rattle.lines.proofs.decode.Goals as goal

pub returns-in_err-frame : goal.returns-in_err-frame
returns-in_err-frame c =
    let p = err_from_is_err_and c.from_residual.result c.from_residual.ensures.1 in
    rw (p.1, p.2) (parse_refused c.args.line.now _ c.in_err-frame.ensures)

pub returns-in_err-check : goal.returns-in_err-check
unfolding number_in ranges_of
returns-in_err-check c =
    let p = err_from_is_err_and c.from_residual-in_err-check.result c.from_residual-in_err-check.ensures.1 in
    let f : SFits w16 c.in_ok-frame.frame.scale = search rules in
    rw (p.1, p.2) (check_refused c.args.line.now c.in_ok-frame.frame _ c.in_ok-frame.ensures (simp zreads at c.in_err-check.ensures))

pub returns : goal.returns
unfolding number_in ranges_of
returns c =
    let f : SFits w16 c.in_ok-frame.frame.scale = search rules in
    check_accepted c.args.line.now c.in_ok-frame.frame c.in_ok-frame.ensures (simp zreads at c.in_ok-check.ensures)
