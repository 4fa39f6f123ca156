-- `lindenflax::lindenflax_read_line` looks at the scale's run, reads the line, and stores the scale of an accepted one. Assumes nothing.
use native.Mathlib.Omega.{arith}
use Rattle.std.proofs.Common.{w16, SFits, to_z-of_z, refl, ◌∙◌, rules}
use Rattle.std.specs.Prelude.{Ok, Err}
use Rattle.refusals.proofs.Laws.{number_digit}
use Rattle.lines.specs.Answers.{heading_in}
use Rattle.lindenflax.proofs.Lines.{no_scale, kept, refused_left, accepted_left}
use Rattle.lindenflax.proofs.lindenflax_read_line.Goals as goal

pub returns-then-scale-ne1 : goal.returns-then-scale-ne1
returns-then-scale-ne1 c =
    let all =
    kept c.args.line.now c.args.acf.now c.args.lags.now c.args.scale.now 1
    (no_scale c.args.line.now c.args.acf.now c.args.lags.now c.args.scale.now (λ z. omega arith)) (λ z. omega arith)
    in record { value = all.0; acf_after = all.1.0; lags_after = all.1.1.0; scale_after = all.1.1.1 }

pub returns-in-Err : goal.returns-in-Err
unfolding heading_in
returns-in-Err c =
    let r = c.in-Err.ensures in
    let e = c.in-Err.refusal in
    let d = number_digit e in
    let all =
    refused_left c.args.line.now c.args.acf.now c.args.lags.now c.args.scale.now (heading_in (Err e)) _ _
    r.value r.acf_after r.lags_after (omega arith) (λ z. omega arith)
    in record { value = c.number.ensures.value ∙ all.0; acf_after = all.1.0; lags_after = all.1.1.0; scale_after = all.1.1.1 }

pub returns-in-Ok : goal.returns-in-Ok
unfolding heading_in
returns-in-Ok c =
    let r = c.in-Ok.ensures in
    let f : SFits w16 c.in-Ok.read = search rules in
    let all =
    accepted_left c.args.line.now c.args.acf.now c.args.lags.now c.args.scale.now (heading_in (Ok c.in-Ok.read)) _ _
    r.value r.acf_after r.lags_after (omega arith) refl
    in rw (to_z-of_z f) (record { value = all.0; acf_after = all.1.0; lags_after = all.1.1.0; scale_after = all.1.1.1 })
