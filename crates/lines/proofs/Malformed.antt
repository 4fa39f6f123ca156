-- Lines that are malformed: one of another length than 82 bytes, and one that lacks its line feed. So of a line that comes in pieces its first bytes
-- are enough, and one that the end of the input cuts is refused with 6. Assumes nothing.
use Rattle.std.proofs.Common.{◌≡◌, ℕ, false, leb, List, length, take, sym, ap, ◌∙◌, arith, length-take, take_all, leb-false, leb-true}
use Rattle.rows.proofs.Choice.{by_no, either}
use Rattle.pieces.specs.Lines.{plain_of, short, kept}
use Rattle.pieces.proofs.Found.{plain_at}
use Rattle.lines.specs.Line.{LINE, DIGITS, formed_of}
use Rattle.lines.specs.Answers.{refused_of, decoded_of}
use Rattle.lines.proofs.Fields.{formed}

module _ (l : List ℕ) where
  malformed : formed_of l ≡ false → decoded_of l ≡ refused_of 6
  unfolding decoded_of
  malformed t = by_no _ _ t

  -- another length
  pub decoded_long : (length l ≡ LINE → ⊥) → decoded_of l ≡ refused_of 6
  decoded_long h = either (decoded_of l ≡ refused_of 6) (formed_of l) (λ t. absurd (h (formed l t).size)) malformed

  -- no line feed in it
  pub decoded_cut : plain_of l ≡ length l → decoded_of l ≡ refused_of 6
  decoded_cut p =
      either (decoded_of l ≡ refused_of 6) (formed_of l)
      (λ t. let f = formed l t in let n = f.size in let h = plain_at l DIGITS (omega arith) f.feed in absurd (omega arith))
      malformed

-- its first bytes are enough
pub decoded_short : (l : List ℕ) → decoded_of (short l) ≡ decoded_of l
unfolding short
decoded_short l =
    either (decoded_of (take kept l) ≡ decoded_of l) (leb (length l) kept)
    (λ t. ap decoded_of (take_all kept l (leb-true (length l) kept t)))
    (λ t.
    let h = leb-false (length l) kept t in
    let n = length-take kept l in
    decoded_long (take kept l) (λ z. omega arith) ∙ sym (decoded_long l (λ z. omega arith)))
