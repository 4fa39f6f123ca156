-- `frames::check` makes the frame's own tests in document 01's order, and is left at the first that fails. Assumes nothing.
use Rattle.numbers.proofs.Read.{zreads}
use Rattle.rows.specs.Choice.{IF◌THEN◌ELSE◌}
use Rattle.refusals.specs.Refusal.{number_of, number_in}
use Rattle.frames.specs.Frame.{scale_ok, frame_refusal_of}
use mathlib.Core.Path.{◌≡◌, sym}
use Rattle.std.proofs.Common.{rules}
use Rattle.frames.proofs.check.Goals as goal
use Rattle.frames.proofs.check.Goals.{After-short_within}

scale_is : (c : After-short_within) → scale_ok c.args.scalvad ≡ c.short_within.result
unfolding scale_ok
scale_is c = let f = c.ranges.scalvad in sym (simp zreads at c.short_within.ensures)

pub returns-then-not-short_within : goal.returns-then-not-short_within
unfolding frame_refusal_of IF◌THEN◌ELSE◌ number_of number_in
returns-then-not-short_within c =
    let s = scale_is (goal.at.returns-then-not-short_within c).After-short_within in
    search rules

pub returns-then-not-acf_ok : goal.returns-then-not-acf_ok
unfolding frame_refusal_of IF◌THEN◌ELSE◌ number_of number_in
returns-then-not-acf_ok c =
    let s = scale_is (goal.at.returns-then-not-acf_ok c).After-short_within in
    search rules

pub returns-then-not-lags_ok : goal.returns-then-not-lags_ok
unfolding frame_refusal_of IF◌THEN◌ELSE◌ number_of number_in
returns-then-not-lags_ok c =
    let s = scale_is (goal.at.returns-then-not-lags_ok c).After-short_within in
    search rules

pub returns : goal.returns
unfolding frame_refusal_of IF◌THEN◌ELSE◌ number_of number_in
returns c =
    let s = scale_is (goal.at.returns c).After-short_within in
    search rules
