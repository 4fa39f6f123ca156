-- What a well-formed line has at each field. Assumes nothing.
use Rattle.std.proofs.Common.{◌≡◌, ℕ, ◌+◌, ◌*◌, ◌^◌, ◌<◌, ◌≤◌, Bool, true, false, ◌&&◌, eqb, eq-eqb, ne_eqb, List, [], zero, suc, refl, ap, ◌∙◌, drop-drop, length, get_or, take, drop, arith, take-take, eqb-true}
use Rattle.std.specs.List.{list_all}
use Rattle.std.specs.Simd.{first_chunks}
use Rattle.rows.specs.Rows.{all}
use Rattle.rows.proofs.Choice.{and_left, and_right}
use Rattle.lines.specs.Hex.{hex_of, number_of}
use Rattle.lines.specs.Line.{formed_of}
use Rattle.lines.proofs.Tests.{all_part, all_is}
use Rattle.lines.proofs.Digits.{number_lt, part_length}

-- the facts of a well-formed line
pub record Formed (l : List ℕ) : Type 0 where
  pub size : length l ≡ 82
  pub hex : all hex_of (take 81 l) ≡ true
  pub feed : get_or l 81 0 ≡ 10

pub formed : (l : List ℕ) → formed_of l ≡ true → Formed l
unfolding formed_of
formed l e =
    let r = and_right (eqb (length l) 82) (all hex_of (take 81 l) && eqb (get_or l 81 0) 10) e in
    record {
      size = eqb-true (length l) 82 (and_left (eqb (length l) 82) (all hex_of (take 81 l) && eqb (get_or l 81 0) 10) e);
      hex = and_left (all hex_of (take 81 l)) (eqb (get_or l 81 0) 10) r;
      feed = eqb-true (get_or l 81 0) 10 (and_right (all hex_of (take 81 l)) (eqb (get_or l 81 0) 10) r);
    }

-- and back, by the library's test of all
pub formed_as : (l : List ℕ) → length l ≡ 82 → formed_of l ≡ (eqb (get_or l 81 0) 10 && list_all hex_of (take 81 l))
unfolding formed_of
formed_as l n = rw (eq-eqb (length l) 82 n, all_is hex_of (take 81 l)) (and_swap (list_all hex_of (take 81 l)) (eqb (get_or l 81 0) 10))
  where
    and_swap : (a b : Bool) → (a && b) ≡ (b && a)
    and_swap true true = refl
    and_swap true false = refl
    and_swap false true = refl
    and_swap false false = refl

pub formed_not : (l : List ℕ) → (length l ≡ 82 → ⊥) → formed_of l ≡ false
unfolding formed_of
formed_not l h = rw (ne_eqb (length l) 82 h)

-- k digits from p on, and the number that they write
pub field_hex : (l : List ℕ) → formed_of l ≡ true → (p k : ℕ) → p + k ≤ 81 → all hex_of (take k (drop p l)) ≡ true
field_hex l e p k h = all_part hex_of 81 p k l h (formed l e).hex

pub field_lt : (l : List ℕ) → formed_of l ≡ true → (p k : ℕ) → p + k ≤ 81 → number_of (take k (drop p l)) < 2 ^ (4 * k)
field_lt l e p k h =
    let s = (formed l e).size in
    let n = part_length l p k (omega arith) in
    let t : take k (take k (drop p l)) ≡ take k (drop p l) = take-take k k (drop p l) (omega arith) in
    rw t at (number_lt k (take k (drop p l)) (omega arith) (field_hex l e p k h))

-- the text in parts of eight
pub part_at : (n i : ℕ) (l : List ℕ) → i < n → get_or (first_chunks 8 n l) i [] ≡ take 8 (drop (8 * i) l)
part_at zero i l h = absurd (omega arith)
part_at (suc n) zero l h = refl
part_at (suc n) (suc i) l h =
    let a : 8 + 8 * i ≡ 8 * suc i = omega arith in
    part_at n i (drop 8 l) (omega arith) ∙ ap (take 8) (drop-drop (8 * i) 8 l ∙ ap (λ (j : ℕ). drop j l) a)
