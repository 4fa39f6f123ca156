-- `lines::read` looks at the buffers, then at the line, and stores an accepted frame. Assumes nothing.
use Rattle.std.proofs.Common.{ℤ, ap, ◌∙◌, w16, SFits, to_z-of_z, rules}
use Rattle.std.specs.Prelude.{Ok}
use Rattle.std.proofs.lemmas.Result.{err_from_is_err_and}
use Rattle.lines.specs.Answers.{heading_in}
use Rattle.lines.proofs.Answers.{lengths_no, lengths_no_lags, lengths_yes, unsized_read, refused_read, accepted_read}
use Rattle.lines.proofs.read.Goals as goal
use Rattle.lines.proofs.read.Goals.{then-acf-ne-NUMBERS-via-then-acf-ne-NUMBERS, then-acf-ne-NUMBERS-via-else-acf-ne-NUMBERS+then-lags-ne-LAGS}

pub returns-then-acf-ne-NUMBERS : goal.returns-then-acf-ne-NUMBERS
returns-then-acf-ne-NUMBERS c =
    let a = c.args.acf.now in
    let g = c.args.lags.now in
    let k = unsized_read a g c.args.line.now (elim c.then-acf-ne-NUMBERS.branch [
      | then-acf-ne-NUMBERS-via-then-acf-ne-NUMBERS w ↦ lengths_no a g w.if-acf-ne-NUMBERS.true
      | then-acf-ne-NUMBERS-via-else-acf-ne-NUMBERS+then-lags-ne-LAGS w ↦ lengths_no_lags a g w.if-acf-ne-NUMBERS.false w.if-lags-ne-LAGS.true
    ]) in
    record { value = k.0; acf_after = k.1.0; lags_after = k.1.1 }

pub returns-in_err-frame : goal.returns-in_err-frame
returns-in_err-frame c =
    let a = c.args.acf.now in
    let g = c.args.lags.now in
    let p = err_from_is_err_and c.from_residual.result c.from_residual.ensures.1 in
    let k = refused_read a g c.args.line.now _ (lengths_yes a g c.if-acf-ne-NUMBERS.false c.if-lags-ne-LAGS.false) c.in_err-frame.ensures in
    record { value = rw (p.1, p.2) k.0; acf_after = k.1.0; lags_after = k.1.1 }

pub returns : goal.returns
returns c =
    let a = c.args.acf.now in
    let g = c.args.lags.now in
    let f = c.in_ok-frame.frame in
    let b : SFits w16 f.scale = search rules in
    let k = accepted_read a g c.args.line.now f _ _ (lengths_yes a g c.if-acf-ne-NUMBERS.false c.if-lags-ne-LAGS.false) c.in_ok-frame.ensures c.copy_from_slice.ensures.after c.copy_from_slice-2.ensures.after in
    record { value = ap (λ (x : ℤ). heading_in (Ok x)) (to_z-of_z b) ∙ k.0; acf_after = k.1.0; lags_after = k.1.1 }
