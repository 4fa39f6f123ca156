-- `lindenflax::stepped` answers as the definition does, in either direction and for every input. Assumes nothing.
use mathlib.Core.Path.{◌≡◌, refl, sym, ap, ◌∙◌}
use mathlib.Core.List.{List}
use native.Mathlib.Omega.{arith}
use borrow.Author.Tests.{ne_eqb}
use lib.IntN.{ℤ}
use Rattle.std.specs.Prelude.{Ok, Err}
use Rattle.std.proofs.lemmas.Result.{err_from_is_err_and}
use Rattle.numbers.proofs.Read.{zreads}
use Rattle.rows.specs.Choice.{IF◌THEN◌ELSE◌}
use Rattle.refusals.specs.Refusal.{number_of, number_in}
use Rattle.refusals.proofs.Laws.{number_digit}
use Rattle.frames.specs.Frame.{samples_ok}
use Rattle.frames.specs.Direction.{direction_in}
use Rattle.detector.specs.declared.Accepted.{Accepted}
use Rattle.detector.specs.declared.Refused.{Refused}
use Rattle.detector.specs.Step.{refused_of, answer_for}
use Rattle.detector.specs.Result as step
use Rattle.lindenflax.specs.Run.{state_of, narrow_of, lent_number, answer_of, run_after, answer_after}
use Rattle.lindenflax.proofs.Answers.{refused, readable, storable, stepped}
use Rattle.lindenflax.proofs.stepped.Goals as goal
use Rattle.lindenflax.proofs.stepped.Goals.{After-lent, After-frame}

-- the number that the test of what is lent finds
lent_is : (c : After-lent) → let a = c.args in number_in c.lent.result ≡ lent_number (samples_ok (direction_in a.direction)) a.acf.now a.lags.now a.state.now a.answer.now
lent_is c = c.lent.ensures

answer_is : (c : After-frame) → let a = c.args in step.answer_of c.frame.result ≡ answer_for (direction_in a.direction) a.acf.now a.lags.now a.scale (state_of a.state.now)
answer_is c =
    let a = c.args in
    let f = c.ranges.scale in
    (simp zreads at c.frame.ensures) ∙ ap (answer_for (direction_in a.direction) a.acf.now a.lags.now a.scale) (c.unpacked.ensures ∙ ap state_of c.taken.ensures)

pub returns-in_err-lent : goal.returns-in_err-lent
unfolding number_in
returns-in_err-lent c =
    let a = c.args in
    let p = err_from_is_err_and c.from_residual.result c.from_residual.ensures.1 in
    let r = c.in_err-lent.field-0.0 in
    let d = number_digit r in
    let l : number_of r ≡ lent_number (samples_ok (direction_in a.direction)) a.acf.now a.lags.now a.state.now a.answer.now =
    ap number_in (sym c.in_err-lent.was) ∙ lent_is (goal.at.returns-in_err-lent c).After-lent in
    let all = refused (direction_in a.direction) a.acf.now a.lags.now a.scale a.state.now a.answer.now l (λ z. omega arith) in
    record { value = ap number_in (p.1 ∙ ap Err p.2) ∙ all.0; state_after = all.1.0; answer_after = all.1.1 }

-- nothing that is lent is refused
none : (c : After-lent) → c.lent.result ≡ Ok tt → let a = c.args in lent_number (samples_ok (direction_in a.direction)) a.acf.now a.lags.now a.state.now a.answer.now ≡ 0
unfolding number_in
none c e = sym (lent_is c) ∙ ap number_in e

pub taken-requires : goal.taken-requires
taken-requires c =
    let a = c.args in
    (readable (direction_in a.direction) a.acf.now a.lags.now a.scale a.state.now a.answer.now (none (goal.at.taken-requires c).After-lent c.in_ok-lent.was)).0

pub unpacked-requires : goal.unpacked-requires
unpacked-requires c =
    let a = c.args in
    ap narrow_of c.taken.ensures
    ∙ (readable (direction_in a.direction) a.acf.now a.lags.now a.scale a.state.now a.answer.now (none (goal.at.unpacked-requires c).After-lent c.in_ok-lent.was)).1

-- what a refusal leaves, and its number
run_left : (r : Refused) (run : List ℤ) → let a = step.answer_of (Err r) in run ≡ run_after a.refusal a run
unfolding run_after step.answer_of refused_of IF◌THEN◌ELSE◌
run_left r run = let d = number_digit r.refusal in let t = ne_eqb (number_of r.refusal) 0 (λ z. omega arith) in rw t

answer_left : (r : Refused) (answer : List ℤ) → let a = step.answer_of (Err r) in answer ≡ answer_after a.refusal a answer
unfolding answer_after step.answer_of refused_of IF◌THEN◌ELSE◌
answer_left r answer = let d = number_digit r.refusal in let t = ne_eqb (number_of r.refusal) 0 (λ z. omega arith) in rw t

number_refused : (r : Refused) → number_of r.refusal ≡ (step.answer_of (Err r)).refusal
unfolding step.answer_of refused_of
number_refused r = refl

pub returns-in_err-a : goal.returns-in_err-a
unfolding number_in
returns-in_err-a c =
    let a = c.args in
    let r = c.in_err-a.field-0.0 in
    let p = err_from_is_err_and c.from_residual-in_err-a.result c.from_residual-in_err-a.ensures.1 in
    let z = none (goal.at.returns-in_err-a c).After-lent c.in_ok-lent.was in
    let i = ap step.answer_of (sym c.in_err-a.was) ∙ answer_is (goal.at.returns-in_err-a c).After-frame in
    let all = stepped (direction_in a.direction) a.acf.now a.lags.now a.scale a.state.now a.answer.now z i (number_refused r) (run_left r a.state.now) (answer_left r a.answer.now) in
    record { value = ap number_in (p.1 ∙ ap Err p.2) ∙ all.0; state_after = all.1.0; answer_after = all.1.1 }

-- an accepted frame's answer is the detector's
accepted_is : (c : After-frame) (x : Accepted) → c.frame.result ≡ Ok x → let a = c.args in step.answer_of (Ok x) ≡ answer_for (direction_in a.direction) a.acf.now a.lags.now a.scale (state_of a.state.now)
accepted_is c x e = ap step.answer_of (sym e) ∙ answer_is c

number_accepted : (x : Accepted) → (step.answer_of (Ok x)).refusal ≡ 0
unfolding step.answer_of
number_accepted x = refl

pub packed-requires : goal.packed-requires
unfolding step.answer_of
packed-requires c =
    let a = c.args in
    let z = none (goal.at.packed-requires c).After-lent c.in_ok-lent.was in
    let i = accepted_is (goal.at.packed-requires c).After-frame c.in_ok-a.a c.in_ok-a.was in
    (storable (direction_in a.direction) a.acf.now a.lags.now a.scale a.state.now a.answer.now z i).2 (number_accepted c.in_ok-a.a)

pub put_answer-requires : goal.put_answer-requires
put_answer-requires c =
    let a = c.args in
    let z = none (goal.at.put_answer-requires c).After-lent c.in_ok-lent.was in
    let i = accepted_is (goal.at.put_answer-requires c).After-frame c.in_ok-a.a c.in_ok-a.was in
    (storable (direction_in a.direction) a.acf.now a.lags.now a.scale a.state.now a.answer.now z i).1

pub returns : goal.returns
unfolding number_in run_after answer_after answer_of step.answer_of IF◌THEN◌ELSE◌
returns c =
    let a = c.args in
    let z = none (goal.at.returns c).After-lent c.in_ok-lent.was in
    let i = accepted_is (goal.at.returns c).After-frame c.in_ok-a.a c.in_ok-a.was in
    let all = stepped (direction_in a.direction) a.acf.now a.lags.now a.scale a.state.now a.answer.now z i refl (c.put.ensures ∙ c.packed.ensures) c.put_answer.ensures in
    record { value = all.0; state_after = all.1.0; answer_after = all.1.1 }
