-- `lindenflax::lent` makes the tests in their order, and is left at the first that fails. Assumes nothing.
use mathlib.Core.Path.{◌≡◌, sym, ap, ◌∙◌}
use mathlib.Core.Bool.{true}
use Rattle.std.proofs.Common.{rules}
use Rattle.refusals.specs.Refusal.{number_of, number_in}
use Rattle.lindenflax.specs.Run.{narrow_of, lengths_of}
use Rattle.lindenflax.proofs.Answers.{all_lengths, no_acf, no_lags, no_run, no_answer, lent_1, lent_8, lent_5, lent_0}
use Rattle.lindenflax.proofs.lent.Goals as goal
use Rattle.lindenflax.proofs.lent.Goals.{After-narrow, Else-answer-ne-ANSWER, then-acf-ne-NUMBERS-via-then-acf-ne-NUMBERS, then-acf-ne-NUMBERS-via-else-acf-ne-NUMBERS+then-lags-ne-LAGS, then-acf-ne-NUMBERS-via-else-acf-ne-NUMBERS+else-lags-ne-LAGS+then-state-ne-RUN, then-acf-ne-NUMBERS-via-else-acf-ne-NUMBERS+else-lags-ne-LAGS+else-state-ne-RUN+then-answer-ne-ANSWER}

-- the lengths are right
lengths : (c : Else-answer-ne-ANSWER) → lengths_of c.args.acf.now c.args.lags.now c.args.state.now c.args.answer.now ≡ true
lengths c =
    all_lengths c.args.acf.now c.args.lags.now c.args.state.now c.args.answer.now c.if-acf-ne-NUMBERS.false c.if-lags-ne-LAGS.false c.if-state-ne-RUN.false c.if-answer-ne-ANSWER.false

-- what the calls gave
narrow_is : (c : After-narrow) → narrow_of c.args.state.now ≡ c.narrow.result
narrow_is c = sym (c.narrow.ensures ∙ ap narrow_of c.taken.ensures)

pub returns-then-acf-ne-NUMBERS : goal.returns-then-acf-ne-NUMBERS
unfolding number_in number_of
returns-then-acf-ne-NUMBERS c =
    let a = c.args in
    sym (lent_1 a.acf.now a.lags.now a.state.now a.answer.now _ (
    elim c.then-acf-ne-NUMBERS.branch [
      | then-acf-ne-NUMBERS-via-then-acf-ne-NUMBERS w ↦ no_acf a.acf.now a.lags.now a.state.now a.answer.now w.if-acf-ne-NUMBERS.true
      | then-acf-ne-NUMBERS-via-else-acf-ne-NUMBERS+then-lags-ne-LAGS w ↦ no_lags a.acf.now a.lags.now a.state.now a.answer.now w.if-acf-ne-NUMBERS.false w.if-lags-ne-LAGS.true
      | then-acf-ne-NUMBERS-via-else-acf-ne-NUMBERS+else-lags-ne-LAGS+then-state-ne-RUN w ↦
          no_run a.acf.now a.lags.now a.state.now a.answer.now w.if-acf-ne-NUMBERS.false w.if-lags-ne-LAGS.false w.if-state-ne-RUN.true
      | then-acf-ne-NUMBERS-via-else-acf-ne-NUMBERS+else-lags-ne-LAGS+else-state-ne-RUN+then-answer-ne-ANSWER w ↦
          no_answer a.acf.now a.lags.now a.state.now a.answer.now w.if-acf-ne-NUMBERS.false w.if-lags-ne-LAGS.false w.if-state-ne-RUN.false w.if-answer-ne-ANSWER.true
    ]))

pub returns-then-not-samples_ok : goal.returns-then-not-samples_ok
unfolding number_in number_of
returns-then-not-samples_ok c =
    let a = c.args in
    sym (lent_8 a.acf.now a.lags.now a.state.now a.answer.now _ (lengths (goal.at.returns-then-not-samples_ok c).Else-answer-ne-ANSWER) (search rules))

pub returns-then-not-narrow : goal.returns-then-not-narrow
unfolding number_in number_of
returns-then-not-narrow c =
    let a = c.args in
    sym (lent_5 a.acf.now a.lags.now a.state.now a.answer.now _ (lengths (goal.at.returns-then-not-narrow c).Else-answer-ne-ANSWER) (search rules) (narrow_is (goal.at.returns-then-not-narrow c).After-narrow ∙ search rules))

pub returns : goal.returns
unfolding number_in
returns c =
    let a = c.args in
    sym (lent_0 a.acf.now a.lags.now a.state.now a.answer.now _ (lengths (goal.at.returns c).Else-answer-ne-ANSWER) (search rules) (narrow_is (goal.at.returns c).After-narrow ∙ search rules))
