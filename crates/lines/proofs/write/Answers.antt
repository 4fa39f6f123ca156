-- `lines::write` looks at the buffers, has the ranges checked, and puts the line of an accepted frame. Assumes nothing.
use Rattle.std.proofs.Common.{◌≡◌, ℕ, List, ℤ, pos, sym, ap, ap₂, ◌∙◌}
use Rattle.std.proofs.lemmas.Result.{err_from_is_err_and}
use Rattle.numbers.proofs.Read.{zreads}
use Rattle.rows.proofs.Fill.{first_whole}
use Rattle.refusals.specs.Refusal.{number_in}
use Rattle.frames.specs.Frame.{frame_refusal_of}
use Rattle.lines.specs.declared.Frame.{Frame}
use Rattle.lines.specs.Line.{line_of}
use Rattle.lines.specs.Answers.{ranges_of, write_of}
use Rattle.lines.proofs.Answers.{lengths_no, lengths_no_lags, lengths_yes, write_unsized, write_short, write_sized, unsized_written, refused_written, write_stored}
use Rattle.lines.proofs.write.Goals as goal
use Rattle.lines.proofs.write.Goals.{After-check, then-acf-ne-NUMBERS-via-then-acf-ne-NUMBERS, then-acf-ne-NUMBERS-via-else-acf-ne-NUMBERS+then-lags-ne-LAGS, then-acf-ne-NUMBERS-via-else-acf-ne-NUMBERS+else-lags-ne-LAGS+then-line-ne-LINE}

abbrev frame : List ℤ → ℤ → List ℕ → Frame
frame a s g = record { acf = a; scale = s; lags = g }

pub returns-then-acf-ne-NUMBERS : goal.returns-then-acf-ne-NUMBERS
returns-then-acf-ne-NUMBERS c =
    let a = c.args.acf.now in
    let g = c.args.lags.now in
    let o = c.args.line.now in
    let f = frame a c.args.scale g in
    let k = unsized_written f o (elim c.then-acf-ne-NUMBERS.branch [
      | then-acf-ne-NUMBERS-via-then-acf-ne-NUMBERS w ↦ write_unsized f o (lengths_no a g w.if-acf-ne-NUMBERS.true)
      | then-acf-ne-NUMBERS-via-else-acf-ne-NUMBERS+then-lags-ne-LAGS w ↦ write_unsized f o (lengths_no_lags a g w.if-acf-ne-NUMBERS.false w.if-lags-ne-LAGS.true)
      | then-acf-ne-NUMBERS-via-else-acf-ne-NUMBERS+else-lags-ne-LAGS+then-line-ne-LINE w ↦ write_short f o (lengths_yes a g w.if-acf-ne-NUMBERS.false w.if-lags-ne-LAGS.false) w.if-line-ne-LINE.true
    ]) in
    record { value = k.0; line_after = k.1 }

-- what is lent has its length, and is copied whole
module _ (c : After-check) where
  lent_acf : c.nine-acf.result ≡ c.args.acf.now
  lent_acf = c.nine-acf.ensures ∙ first_whole 9 c.args.acf.now (pos 0) c.if-acf-ne-NUMBERS.false

  lent_lags : c.four-lags.result ≡ c.args.lags.now
  lent_lags = c.four-lags.ensures ∙ first_whole 4 c.args.lags.now 0 c.if-lags-ne-LAGS.false

  ranges_is : write_of (frame c.args.acf.now c.args.scale c.args.lags.now) c.args.line.now ≡ number_in c.check.result
  unfolding ranges_of
  ranges_is =
      let f = c.ranges.scale in
      write_sized (frame c.args.acf.now c.args.scale c.args.lags.now) c.args.line.now (lengths_yes c.args.acf.now c.args.lags.now c.if-acf-ne-NUMBERS.false c.if-lags-ne-LAGS.false) c.if-line-ne-LINE.false
      ∙ sym ((simp zreads at c.check.ensures) ∙ ap₂ (λ (x : List ℤ) (y : List ℕ). frame_refusal_of x y c.args.scale) lent_acf lent_lags)

pub returns-in_err-check : goal.returns-in_err-check
unfolding number_in
returns-in_err-check c =
    let r = (goal.at.returns-in_err-check c).After-check in
    let p = err_from_is_err_and c.from_residual.result c.from_residual.ensures.1 in
    let k = refused_written (frame c.args.acf.now c.args.scale c.args.lags.now) c.args.line.now _ (ranges_is r ∙ ap number_in c.in_err-check.was) in
    record { value = rw (p.1, p.2) k.0; line_after = k.1 }

pub returns : goal.returns
unfolding number_in
returns c =
    let r = (goal.at.returns c).After-check in
    let f = c.ranges.scale in
    let p = simp zreads at c.put_line.ensures in
    let k =
    write_stored (frame c.args.acf.now c.args.scale c.args.lags.now) c.args.line.now _ (ranges_is r ∙ ap number_in c.in_ok-check.was)
    (p ∙ ap₂ (λ (x : List ℤ) (y : List ℕ). line_of (record { acf = x; scale = c.args.scale; lags = y })) (lent_acf r) (lent_lags r)) in
    record { value = k.0; line_after = k.1 }
