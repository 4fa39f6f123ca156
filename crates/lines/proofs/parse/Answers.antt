-- `lines::parse` reads the fields of a well-formed line. Assumes nothing.
use Rattle.std.proofs.Common.{◌≡◌, ℕ, ℤ, List, false, sym, ap, ap₂, ◌∙◌, w16, rules}
use Rattle.numbers.proofs.Read.{back}
use Rattle.refusals.specs.Refusal.{number_of}
use Rattle.lines.specs.declared.Frame.{Frame}
use Rattle.lines.specs.Line.{frame_of, formed_of}
use Rattle.lines.specs.Answers.{accepted_of, decoded_in, parsed_of}
use Rattle.lines.proofs.Answers.{parsed_malformed, parsed_formed}
use Rattle.lines.proofs.parse.Goals as goal

pub returns-in_default : goal.returns-in_default
unfolding decoded_in number_of
returns-in_default c =
    let t : formed_of c.args.line.now ≡ false = search rules in
    sym (parsed_malformed c.args.line.now t)

-- a frame by its fields
fields : (f : Frame) (a : List ℤ) (s : ℤ) (g : List ℕ) → a ≡ f.acf → s ≡ f.scale → g ≡ f.lags → record { acf = a; scale = s; lags = g } ≡ f
fields f a s g p q r = ap₂ (λ (x : List ℤ) (y : ℤ). record { acf = x; scale = y; lags = g }) p q ∙ ap (λ (z : List ℕ). record { acf = f.acf; scale = f.scale; lags = z }) r

pub returns : goal.returns
unfolding decoded_in frame_of
returns c =
    let l = c.in-Some.formed.line.now in
    let e : l ≡ c.args.line.now = search rules in
    let s = back w16 {z = c.scale.result} c.scale.type_inv ∙ c.scale.ensures in
    ap accepted_of (fields (frame_of l) _ _ _ c.acf-acf.ensures s c.lags-lags.ensures) ∙ (sym (parsed_formed l c.in-Some.formed.formed) ∙ ap parsed_of e)
