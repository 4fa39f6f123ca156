-- What a result of the code stands for tells it: two results that stand for the same are the same. Assumes nothing.
use Rattle.std.proofs.Common.{◌≡◌, ap, arith, ℤ}
use Rattle.std.specs.Prelude.{Result, Ok, Err}
use Rattle.refusals.specs.declared.Refusal.{Refusal}
use Rattle.refusals.proofs.Laws.{number_digit, same_number}
use Rattle.lines.specs.declared.Frame.{Frame}
use Rattle.lines.specs.Answers.{Decoded, Heading, accepted_of, refused_of, decoded_in, heading_in}

-- the frame that was read
back : Decoded → Frame
back d = record { acf = d.acf; scale = d.scale; lags = d.lags }

pub same_decoded : (r q : Result Frame Refusal) → decoded_in r ≡ decoded_in q → r ≡ q
unfolding decoded_in accepted_of refused_of back
same_decoded (Ok a) (Ok b) e = ap (λ (x : Decoded). Ok (back x)) e
same_decoded (Ok a) (Err q) e = let n = ap (λ (x : Decoded). x.refusal) e in let d = number_digit q in absurd (omega arith)
same_decoded (Err r) (Ok b) e = let n = ap (λ (x : Decoded). x.refusal) e in let d = number_digit r in absurd (omega arith)
same_decoded (Err r) (Err q) e = ap Err (same_number r q (ap (λ (x : Decoded). x.refusal) e))

pub same_heading : (r q : Result ℤ Refusal) → heading_in r ≡ heading_in q → r ≡ q
unfolding heading_in
same_heading (Ok a) (Ok b) e = ap (λ (x : Heading). Ok x.scale) e
same_heading (Ok a) (Err q) e = let n = ap (λ (x : Heading). x.refusal) e in let d = number_digit q in absurd (omega arith)
same_heading (Err r) (Ok b) e = let n = ap (λ (x : Heading). x.refusal) e in let d = number_digit r in absurd (omega arith)
same_heading (Err r) (Err q) e = ap Err (same_number r q (ap (λ (x : Heading). x.refusal) e))
