-- Digits and numbers, for any number of digits: what is written is read, and what is read is written. Then digits that stand in a longer
-- text. Assumes nothing.
use Rattle.std.proofs.Common.{◌≡◌, ℕ, zero, suc, ◌+◌, ◌-◌, ◌*◌, ◌/◌, ◌%◌, ◌^◌, ◌<◌, ◌≤◌, Bool, true, false, ltb, leb, List, [], ◌∷◌, ◌++◌, length, get_or, take, drop, sym, refl, ap, ◌∙◌, ap₂, add-zero, add-suc, mul_assoc, arith, length-append, length-drop, length-take, get_or-drop, drop-cons, get_or-take, take-suc, pow-add, ltb-false, ltb-true, le-ltb, lt-ltb, le-leb, leb-true}
use borrow.Author.Tests.{lt-leb}
use Rattle.rows.specs.Choice.{IF◌THEN◌ELSE◌}
use Rattle.std.specs.Prelude.{Some, None}
use Rattle.rows.specs.Rows.{all}
use Rattle.rows.proofs.Choice.{either, by_yes, by_no}
use Rattle.rows.proofs.All.{all_at}
use Rattle.lines.specs.Hex.{value_of, hex_of, worth_of, digit_of, number_from, number_of, digits_of}
use Rattle.lines.proofs.Tests.{all_append}

-- a digit's worth: below 10 from 48 on, the rest from 55 on
pub data Digit (b v : ℕ) : Type 0 where
  low : b ≡ 48 + v → v < 10 → Digit b v
  high : b ≡ 55 + v → 10 ≤ v → v < 16 → Digit b v

value_low : (b : ℕ) → 48 ≤ b → b ≤ 57 → value_of b ≡ b - 48
unfolding value_of IF◌THEN◌ELSE◌
value_low b h k = rw (le-ltb b 48 h, le-leb b 57 k)

value_high : (b : ℕ) → 65 ≤ b → b ≤ 70 → value_of b ≡ b - 55
unfolding value_of IF◌THEN◌ELSE◌
value_high b h k =
    let h1 : 48 ≤ b = omega arith in
    let h2 : 57 < b = omega arith in
    rw (le-ltb b 48 h1, lt-leb b 57 h2, le-ltb b 65 h, le-leb b 70 k)

-- what is worth less than 16 is a digit
pub of_value : (b : ℕ) → value_of b < 16 → Digit b (value_of b)
unfolding value_of IF◌THEN◌ELSE◌
of_value b h = go (ltb b 48) (leb b 57) (ltb b 65) (leb b 70) refl refl refl refl
  where
    go : (s t u v : Bool) → ltb b 48 ≡ s → leb b 57 ≡ t → ltb b 65 ≡ u → leb b 70 ≡ v → Digit b (value_of b)
    go true t u v e f g k = absurd (let z = rw e at h in omega arith)
    go false true u v e f g k =
        let l = ltb-false b 48 e in
        let r = leb-true b 57 f in
        let q = value_low b l r in low (omega arith) (omega arith)
    go false false true v e f g k = absurd (let z = rw (e, f, g) at h in omega arith)
    go false false false true e f g k =
        let l = ltb-false b 65 g in
        let r = leb-true b 70 k in
        let q = value_high b l r in high (omega arith) (omega arith) (omega arith)
    go false false false false e f g k = absurd (let z = rw (e, f, g, k) at h in omega arith)

pub value_digit : (n : ℕ) → n < 16 → value_of (digit_of n) ≡ n
unfolding digit_of IF◌THEN◌ELSE◌
value_digit n h = go (ltb n 10) refl
  where
    go : (t : Bool) → ltb n 10 ≡ t → value_of (digit_of n) ≡ n
    go true e = let l = ltb-true n 10 e in rw e (value_low (48 + n) (omega arith) (omega arith) ∙ omega arith)
    go false e = let l = ltb-false n 10 e in rw e (value_high (55 + n) (omega arith) (omega arith) ∙ omega arith)

pub digit_value : (b : ℕ) → value_of b < 16 → digit_of (value_of b) ≡ b
unfolding digit_of IF◌THEN◌ELSE◌
digit_value b h = go (of_value b h)
  where
    go : Digit b (value_of b) → digit_of (value_of b) ≡ b
    go (low e k) = rw (lt-ltb (value_of b) 10 k) (sym e)
    go (high e k l) = rw (le-ltb (value_of b) 10 k) (sym e)

pub hex_value : (b : ℕ) → hex_of b ≡ true → value_of b < 16
unfolding hex_of
hex_value b e = ltb-true (value_of b) 16 e

-- what is no digit is worth 16
pub value_none : (b : ℕ) → hex_of b ≡ false → value_of b ≡ 16
unfolding hex_of value_of IF◌THEN◌ELSE◌
value_none b x = let h = ltb-false (value_of b) 16 x in go h (ltb b 48) (leb b 57) (ltb b 65) (leb b 70) refl refl refl refl
  where
    go : 16 ≤ value_of b → (s t u v : Bool) → ltb b 48 ≡ s → leb b 57 ≡ t → ltb b 65 ≡ u → leb b 70 ≡ v → value_of b ≡ 16
    go h true t u v e f g k = rw e
    go h false true u v e f g k =
        let l = ltb-false b 48 e in
        let r = leb-true b 57 f in
        let q = value_low b l r in absurd (omega arith)
    go h false false true v e f g k = rw (e, f, g)
    go h false false false true e f g k =
        let l = ltb-false b 65 g in
        let r = leb-true b 70 k in
        let q = value_high b l r in absurd (omega arith)
    go h false false false false e f g k = rw (e, f, g, k)

-- what a character is worth, by what is answered
pub worth_some : (b v : ℕ) → Some v ≡ worth_of b → (v ≡ value_of b) × (value_of b < 16)
unfolding worth_of
worth_some b v e =
    either ((v ≡ value_of b) × (value_of b < 16)) (hex_of b)
    (λ t. (let q = e ∙ by_yes (Some (value_of b)) None t in cc, hex_value b t))
    (λ t. absurd (let q = e ∙ by_no (Some (value_of b)) None t in cc))

pub worth_none : (b : ℕ) → None ≡ worth_of b → value_of b ≡ 16
unfolding worth_of
worth_none b e =
    either (value_of b ≡ 16) (hex_of b)
    (λ t. absurd (let q = e ∙ by_yes (Some (value_of b)) None t in cc))
    (λ t. value_none b t)

pub hex_digit : (n : ℕ) → n < 16 → hex_of (digit_of n) ≡ true
unfolding hex_of
hex_digit n h = rw (value_digit n h) (lt-ltb n 16 h)

-- ---- one digit more
pub from_snoc : (n : ℕ) (l : List ℕ) (b : ℕ) → number_from n (l ++ (b ∷ [])) ≡ number_from n l * 16 + value_of b
unfolding number_from
from_snoc n [] b = refl
from_snoc n (x ∷ l) b = from_snoc (n * 16 + value_of x) l b

pub number_snoc : (l : List ℕ) (b : ℕ) → number_of (l ++ (b ∷ [])) ≡ number_of l * 16 + value_of b
unfolding number_of
number_snoc l b = from_snoc 0 l b

pub number_suc : (k : ℕ) (l : List ℕ) → k < length l → number_of (take (suc k) l) ≡ number_of (take k l) * 16 + value_of (get_or l k 0)
number_suc k l h = ap number_of (take-suc l k 0 h) ∙ number_snoc (take k l) (get_or l k 0)

pub pow_suc : (k : ℕ) → 2 ^ (4 * suc k) ≡ 2 ^ (4 * k) * 16
pow_suc k = let e : 4 * suc k ≡ 4 * k + 4 = omega arith in rw e (pow-add 2 (4 * k) 4)

-- k digits more
pub number_more : (j k : ℕ) (l : List ℕ) → j + k ≤ length l → number_of (take (j + k) l) ≡ number_of (take j l) * 2 ^ (4 * k) + number_of (take k (drop j l))
unfolding number_of number_from
number_more j zero l h = rw (add-zero j) (omega arith)
number_more j (suc k) l h =
    let i = number_more j k l (omega arith) in
    let s = number_suc (j + k) l (omega arith) in
    let t = number_suc k (drop j l) (simp length-drop (omega arith)) ∙ ap (λ (b : ℕ). number_of (take k (drop j l)) * 16 + value_of b) (get_or-drop j l k 0) in
    rw (add-suc j k, pow_suc k) (omega (arith, i, s, t, mul_assoc (number_of (take j l)) (2 ^ (4 * k)) 16))

-- ---- both ways round, for any number of digits
pub number_lt : (k : ℕ) (l : List ℕ) → k ≤ length l → all hex_of l ≡ true → number_of (take k l) < 2 ^ (4 * k)
unfolding number_of number_from
number_lt zero l h e = omega arith
number_lt (suc k) l h e =
    let i = number_lt k l (omega arith) e in
    let v = hex_value (get_or l k 0) (all_at hex_of l k 0 e (omega arith)) in
    let s = number_suc k l (omega arith) in
    rw (pow_suc k) (omega arith)

pub number_digits : (k n : ℕ) → n < 2 ^ (4 * k) → number_of (digits_of k n) ≡ n
unfolding number_of number_from digits_of
number_digits zero n h = omega arith
number_digits (suc k) n h =
    let p = rw (pow_suc k) at h in
    let d : n / 16 < 2 ^ (4 * k) = omega arith in
    let m : n % 16 < 16 = omega arith in
    number_snoc (digits_of k (n / 16)) (digit_of (n % 16))
    ∙ (ap₂ (λ (a b : ℕ). a * 16 + b) (number_digits k (n / 16) d) (value_digit (n % 16) m) ∙ omega arith)

pub digits_number : (k : ℕ) (l : List ℕ) → k ≤ length l → all hex_of l ≡ true → digits_of k (number_of (take k l)) ≡ take k l
unfolding digits_of
digits_number zero l h e = refl
digits_number (suc k) l h e =
    let n = number_of (take k l) in
    let b = get_or l k 0 in
    let v = hex_value b (all_at hex_of l k 0 e (omega arith)) in
    let q : (n * 16 + value_of b) / 16 ≡ n = omega arith in
    let r : (n * 16 + value_of b) % 16 ≡ value_of b = omega arith in
    rw (number_suc k l (omega arith), q, r)
    (ap₂ (λ (x : List ℕ) (y : ℕ). x ++ (y ∷ [])) (digits_number k l (omega arith) e) (digit_value b v) ∙ sym (take-suc l k 0 (omega arith)))

pub length_digits : (k n : ℕ) → length (digits_of k n) ≡ k
unfolding digits_of
length_digits zero n = refl
length_digits (suc k) n = length-append (digits_of k (n / 16)) (digit_of (n % 16) ∷ []) ∙ omega (arith, length_digits k (n / 16))

pub hex_digits : (k n : ℕ) → all hex_of (digits_of k n) ≡ true
unfolding digits_of all
hex_digits zero n = refl
hex_digits (suc k) n = all_append hex_of (digits_of k (n / 16)) (digit_of (n % 16) ∷ []) (hex_digits k (n / 16)) (rw (hex_digit (n % 16) (omega arith)))

-- ---- digits that stand in a longer text
module _ (s : List ℕ) (at k : ℕ) (fits : at + k ≤ length s) where
  pub part_length : length (take k (drop at s)) ≡ k
  part_length = simp (length-take, length-drop) (omega arith)

  pub part_hex : (i : ℕ) → i < k → all hex_of (take k (drop at s)) ≡ true → hex_of (get_or s (at + i) 0) ≡ true
  part_hex i h e =
      let q = part_length in
      let g = get_or-take k (drop at s) i 0 h ∙ get_or-drop at s i 0 in
      rw g at (all_at hex_of (take k (drop at s)) i 0 e (omega arith))

-- one digit is its worth
pub digit_at : (s : List ℕ) (at : ℕ) → at < length s → number_of (take 1 (drop at s)) ≡ value_of (get_or s at 0)
unfolding number_of number_from
digit_at s at h = ap (λ (l : List ℕ). number_of (take 1 l)) (drop-cons s at 0 h) ∙ omega arith
