-- A well-formed line is one line of whatever text it begins. Assumes nothing.
use Rattle.std.proofs.Common.{◌≡◌, ℕ, suc, ◌+◌, min, true, T, eqb, List, [], ◌∷◌, ◌++◌, length, take, drop, sym, refl, ap, ◌∙◌, subst, append_assoc, arith, length-take, take-suc, eqb-true}
use lib.Seq.{take-length}
use Rattle.rows.specs.Choice.{IF◌THEN◌ELSE◌}
use Rattle.rows.specs.Rows.{all}
use Rattle.rows.proofs.Choice.{and_left, and_right, by_test}
use Rattle.pieces.specs.Lines.{lines_of, plain_of, first_of}
use Rattle.pieces.proofs.Found.{begun}
use Rattle.lines.specs.Hex.{value_of, hex_of}
use Rattle.lines.specs.Line.{DIGITS, formed_of}
use Rattle.lines.proofs.Fields.{formed}

-- no digit is a line feed
hex_plain : (t : List ℕ) → all hex_of t ≡ true → plain_of t ≡ length t
unfolding plain_of all hex_of value_of IF◌THEN◌ELSE◌
hex_plain [] h = refl
hex_plain (b ∷ t) h =
    by_test (λ (n : ℕ). n ≡ suc (length t)) (eqb b 10) _ _
    (λ e. absurd (subst T (sym (and_left (hex_of b) (all hex_of t) h) ∙ ap hex_of (eqb-true b 10 e)) tt))
    (λ e. ap suc (hex_plain t (and_right (hex_of b) (all hex_of t) h)))

module _ (l x : List ℕ) (t : formed_of l ≡ true) where
  abbrev y : List ℕ
  y = take DIGITS l

  parted : l ≡ y ++ (10 ∷ [])
  parted =
      let f = formed l t in
      let n = f.size in
      sym (ap (λ (k : ℕ). take k l) (sym n) ∙ take-length l) ∙ (take-suc l DIGITS 0 (omega arith) ∙ ap (λ (b : ℕ). y ++ (b ∷ [])) f.feed)

  after : lines_of (y ++ (10 ∷ x)) ≡ (y ++ (10 ∷ [])) ∷ lines_of x
  unfolding first_of plain_of IF◌THEN◌ELSE◌
  after =
      let f = formed l t in
      let n = f.size in
      let k = length-take DIGITS l in
      let e : min (0 + 1) (suc (length x)) ≡ 1 = omega arith in
      begun y (10 ∷ x) (hex_plain y f.hex) (omega arith) ∙ ap (λ (k : ℕ). (y ++ take k (10 ∷ x)) ∷ lines_of (drop k (10 ∷ x))) e

  pub formed_line : lines_of (l ++ x) ≡ l ∷ lines_of x
  formed_line =
      ap (λ (z : List ℕ). lines_of (z ++ x)) parted
      ∙ (ap lines_of (append_assoc y (10 ∷ []) x) ∙ (after ∙ ap (λ (z : List ℕ). z ∷ lines_of x) (sym parted)))
