-- The line of the report: 41 bytes, of which 40 are digits and the last a line feed; and its five numbers are read back from it. Assumes nothing.
use mathlib.Core.Path.{◌≡◌, sym, ap, ◌∙◌}
use mathlib.Core.Bool.{true}
use mathlib.Core.List.{List, [], ◌∷◌, ◌++◌}
use Prim.Native.Nat.{ℕ, ◌+◌, ◌*◌, ◌<◌, ◌≤◌, ◌^◌}
use native.Mathlib.Omega.{arith}
use lib.ListN.{length, take, drop, get_or, replicate, length-append, length-drop}
use lib.Seq.{take_at, drop_at}
use Rattle.rows.specs.Rows.{all}
use Rattle.rows.proofs.All.{drop_next}
use Rattle.counts.specs.declared.Totals.{Totals}
use Rattle.lines.specs.Hex.{hex_of, number_of, digits_of, blocks_of}
use Rattle.lines.specs.Line.{field_at}
use Rattle.lines.proofs.Digits.{length_digits, number_digits}
use Rattle.lines.proofs.Puts.{length_blocks}
use Rattle.lines.proofs.RoundTrip.{block_at, blocks_hex}
use Rattle.pieces.specs.Put.{put_of}
use Rattle.pieces.proofs.Written.{put_is, put_put}
use Rattle.totals.specs.Report.{numbers_of, report_of}

-- ---- put number after number
pub blocks_put : (o w : List ℕ) (i : ℕ) → i < length w → 8 * length w ≤ length o
    → put_of (put_of o (8 * i) (digits_of 8 (get_or w i 0))) (8 * (i + 1)) (blocks_of 8 (drop (i + 1) w)) ≡ put_of o (8 * i) (blocks_of 8 (drop i w))
unfolding blocks_of
blocks_put o w i h g =
    let a = digits_of 8 (get_or w i 0) in
    let b = blocks_of 8 (drop (i + 1) w) in
    let n = length_digits 8 (get_or w i 0) in
    let m = length_blocks 8 (drop (i + 1) w) in
    let d = length-drop (i + 1) w in
    let e : 8 * (i + 1) ≡ 8 * i + length a = omega arith in
    ap (λ (j : ℕ). put_of (put_of o (8 * i) a) j b) e ∙ (put_put o (8 * i) a b (omega arith) ∙ ap (λ (l : List ℕ). put_of o (8 * i) (blocks_of 8 l)) (sym (drop_next w i 0 h)))

-- ---- the line
module _ (t : Totals) where
  forty : length (blocks_of 8 (numbers_of t)) ≡ 40
  unfolding numbers_of
  forty = length_blocks 8 (numbers_of t)

  pub report_made : put_of (replicate 41 10) 0 (blocks_of 8 (numbers_of t)) ≡ report_of t
  unfolding report_of
  report_made =
      let n = forty in
      let e : 0 + length (blocks_of 8 (numbers_of t)) ≡ 40 = omega arith in
      put_is (replicate 41 10) 0 (blocks_of 8 (numbers_of t)) (omega arith) ∙ ap (λ (j : ℕ). blocks_of 8 (numbers_of t) ++ drop j (replicate 41 10)) e

  pub report_length : length (report_of t) ≡ 41
  unfolding report_of
  report_length = let n = forty in let a = length-append (blocks_of 8 (numbers_of t)) (10 ∷ []) in omega arith

  pub report_digits : all hex_of (take 40 (report_of t)) ≡ true
  unfolding report_of
  report_digits = ap (all hex_of) (take_at (blocks_of 8 (numbers_of t)) (10 ∷ []) 40 forty) ∙ blocks_hex 8 (numbers_of t)

  pub report_end : drop 40 (report_of t) ≡ 10 ∷ []
  unfolding report_of
  report_end = drop_at (blocks_of 8 (numbers_of t)) (10 ∷ []) 40 forty

  -- the number at place i reads as what it was
  pub report_reads : (i : ℕ) → i < 5 → get_or (numbers_of t) i 0 < 2 ^ 32 → field_at 8 (report_of t) i ≡ get_or (numbers_of t) i 0
  unfolding report_of numbers_of field_at
  report_reads i h g = ap number_of (block_at 8 (numbers_of t) (10 ∷ []) i (omega arith)) ∙ number_digits 8 (get_or (numbers_of t) i 0) g
