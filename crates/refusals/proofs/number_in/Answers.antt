-- `number_in` answers 0, or the refusal's number. Assumes nothing.
use Rattle.std.proofs.Common.{rules}
use Rattle.refusals.specs.Refusal.{number_in}
use Rattle.refusals.proofs.number_in.Goals as goal

pub returns-in-Ok : goal.returns-in-Ok
unfolding number_in
returns-in-Ok c = search rules

pub returns-in-Err : goal.returns-in-Err
unfolding number_in
returns-in-Err c = search rules
