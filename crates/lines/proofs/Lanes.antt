-- Eight digits at once: digits that stand in one number, each in a lane of its own, are joined in three steps. Assumes nothing.
use Rattle.std.proofs.Common.{◌≡◌, ℕ, zero, suc, ◌+◌, ◌-◌, ◌*◌, ◌/◌, ◌%◌, ◌^◌, ◌<◌, ◌≤◌, true, List, [], ◌∷◌, map, length, get_or, replicate, sym, refl, ap, ◌∙◌, subst, ap₂, mul-le-mul_right, mod-eq_of_lt, mul_assoc, add-mul, mul-add, mul_right_comm, arith}
use lib.Arith.{digits_lt}
use lib.Bits.{bit_and, and_block, and_mask, and_zero_r}
use lib.Pow as power
use Rattle.rows.specs.Rows.{all}
use Rattle.rows.proofs.Choice.{and_left, and_right}
use Rattle.lines.specs.Hex.{value_of, hex_of, number_from}
use Rattle.lines.proofs.Digits.{Digit, low, high, of_value, hex_value}

-- digits in lanes of k bits, the first in the lowest
unfoldable pub lanes_of : ℕ → List ℕ → ℕ
lanes_of k [] = 0
lanes_of k (d ∷ l) = lanes_of k l * 2 ^ k + d

-- digits of k bits, each second one joined to the one before it
unfoldable pub joined_of : ℕ → List ℕ → List ℕ
joined_of k [] = []
joined_of k (a ∷ []) = []
joined_of k (a ∷ b ∷ l) = (a * 2 ^ k + b) ∷ joined_of k l

-- the number that digits of k bits write, after digits that write n
unfoldable pub written_of : ℕ → ℕ → List ℕ → ℕ
written_of k n [] = n
written_of k n (d ∷ l) = written_of k (n * 2 ^ k + d) l

-- each is a digit of k bits
abbrev pub Below : ℕ → List ℕ → Type 0
Below k l = (i : ℕ) → get_or l i 0 < 2 ^ k

-- the most that digits of b bits come to, in lanes of any width
pub lanes_le : (k b : ℕ) (n : ℕ) (l : List ℕ) → length l ≡ n → Below b l → lanes_of k l ≤ (2 ^ b - 1) * lanes_of k (replicate n 1)
unfolding lanes_of
lanes_le k b zero [] e h = omega arith
lanes_le k b (suc n) (d ∷ l) e h =
    let m = 2 ^ b - 1 in
    let o = lanes_of k (replicate n 1) in
    let i = mul-le-mul_right (2 ^ k) (lanes_le k b n l (omega arith) (λ j. h (suc j))) in
    omega (arith, i, h 0, mul-add m (o * 2 ^ k) 1, mul_assoc m o (2 ^ k))
lanes_le k b zero (d ∷ l) e h = absurd (omega arith)
lanes_le k b (suc n) [] e h = absurd (omega arith)

-- ---- digits of k bits in lanes of twice as many, two and two joined
module _ (k : ℕ) where
  abbrev A : ℕ
  A = 2 ^ k

  abbrev W : ℕ
  W = 2 ^ (k + k)

  pub joined_length : (n : ℕ) (l : List ℕ) → length l ≡ n + n → length (joined_of k l) ≡ n
  unfolding joined_of
  joined_length zero [] e = refl
  joined_length (suc n) (a ∷ b ∷ l) e = ap suc (joined_length n l (omega arith))
  joined_length zero (a ∷ l) e = absurd (omega arith)
  joined_length (suc n) [] e = absurd (omega arith)
  joined_length (suc n) (a ∷ []) e = absurd (omega arith)

  two_lt : (a b : ℕ) → a < A → b < A → a * A + b < W
  two_lt a b h g = subst (λ (x : ℕ). a * A + b < x) (sym (power.pow-add 2 k k)) (digits_lt h g)

  pub joined_below : (l : List ℕ) → Below k l → Below (k + k) (joined_of k l)
  unfolding joined_of
  joined_below [] h i = power.pow_pos (k + k)
  joined_below (a ∷ []) h i = power.pow_pos (k + k)
  joined_below (a ∷ b ∷ l) h zero = two_lt a b (h 0) (h 1)
  joined_below (a ∷ b ∷ l) h (suc i) = joined_below l (λ j. h (suc (suc j))) i

  pub joined_written : (n : ℕ) (l : List ℕ) → length l ≡ n + n → (m : ℕ) → written_of (k + k) m (joined_of k l) ≡ written_of k m l
  unfolding joined_of written_of
  joined_written zero [] e m = refl
  joined_written (suc n) (a ∷ b ∷ l) e m =
      let s : m * W + (a * A + b) ≡ (m * A + a) * A + b = omega (arith, ap (λ (x : ℕ). m * x) (power.pow-add 2 k k), mul_assoc m A A, add-mul (m * A) a A) in
      ap (λ (x : ℕ). written_of (k + k) x (joined_of k l)) s ∙ joined_written n l (omega arith) ((m * A + a) * A + b)
  joined_written zero (a ∷ l) e m = absurd (omega arith)
  joined_written (suc n) [] e m = absurd (omega arith)
  joined_written (suc n) (a ∷ []) e m = absurd (omega arith)

  A_le_W : A ≤ W
  A_le_W = power.pow_mono (omega arith)

  -- the lowest lane
  lowest : (l : List ℕ) → Below k l → lanes_of (k + k) l % W < A
  unfolding lanes_of
  lowest [] h = subst (λ (x : ℕ). x < A) (sym (mod-eq_of_lt (power.pow_pos (k + k)))) (power.pow_pos k)
  lowest (d ∷ l) h = subst (λ (x : ℕ). x < A) (sym (power.low (lanes_of (k + k) l) (k + k) (omega (arith, h 0, A_le_W)))) (h 0)

  -- two lanes more: the sum of the digits moved up and of those from the lane above
  moved : (a b r : ℕ) → a < A → ((r * W + b) * W + a) * A + ((r * W + b) * W + a) / W ≡ (r * A + r / W) * 2 ^ (k + k + (k + k)) + ((b * A + r % W) * W + (a * A + b))
  moved a b r h =
      let d = power.high (r * W + b) (k + k) {lo = a} (omega (arith, h, A_le_W)) in
      let s = ap (λ (x : ℕ). x * W) (sym (power.split r (k + k))) ∙ add-mul (r / W * W) (r % W) W in
      let u = ap (λ (x : ℕ). x * A) (add-mul (r * W) b W) ∙ add-mul (r * W * W) (b * W) A in
      let v = ap (λ (x : ℕ). x * A) (mul_assoc r W W) ∙ mul_right_comm r (W * W) A in
      let w = ap (λ (x : ℕ). (r * A + r / W) * x) (power.pow-add 2 (k + k) (k + k)) ∙ add-mul (r * A) (r / W) (W * W) in
      omega (arith, d, s, u, v, w, add-mul ((r * W + b) * W) a A, mul_right_comm b W A, mul_assoc (r / W) W W, add-mul (b * A) (r % W) W)

  pub joined : (n : ℕ) (l : List ℕ) → length l ≡ n + n → Below k l
      → bit_and (lanes_of (k + k) l * A + lanes_of (k + k) l / W) (lanes_of (k + k + (k + k)) (replicate n (W - 1))) ≡ lanes_of (k + k + (k + k)) (joined_of k l)
  unfolding lanes_of joined_of
  joined zero [] e h = and_zero_r (0 * A + 0 / W)
  joined (suc n) (a ∷ b ∷ l) e h =
      let r = lanes_of (k + k) l in
      let t = a * A + b in
      let g : Below k l = λ i. h (suc (suc i)) in
      let below = two_lt a b (h 0) (h 1) in
      let inner = two_lt b (r % W) (h 1) (lowest l g) in
      let fits = subst (λ (x : ℕ). (b * A + r % W) * W + t < x) (sym (power.pow-add 2 (k + k) (k + k))) (digits_lt inner below) in
      let ones = subst (λ (x : ℕ). W - 1 < x) (sym (power.pow-add 2 (k + k) (k + k))) (omega (arith, digits_lt (power.pow_pos (k + k)) (power.ones_lt (k + k)))) in
      ap (λ (x : ℕ). bit_and x (lanes_of (k + k + (k + k)) (replicate n (W - 1)) * 2 ^ (k + k + (k + k)) + (W - 1))) (moved a b r (h 0))
      ∙ (and_block (k + k + (k + k)) (r * A + r / W) (lanes_of (k + k + (k + k)) (replicate n (W - 1))) ((b * A + r % W) * W + t) (W - 1) fits ones
      ∙ ap₂ (λ (x y : ℕ). x * 2 ^ (k + k + (k + k)) + y) (joined n l (omega arith) g) (and_mask ((b * A + r % W) * W + t) (k + k) ∙ power.low (b * A + r % W) (k + k) below))
  joined zero (a ∷ l) e h = absurd (omega arith)
  joined (suc n) [] e h = absurd (omega arith)
  joined (suc n) (a ∷ []) e h = absurd (omega arith)

-- one lane is its number
pub one_lane : (k m : ℕ) (l : List ℕ) → length l ≡ 1 → lanes_of k l ≡ written_of m 0 l
unfolding lanes_of written_of
one_lane k m (a ∷ []) e = omega arith
one_lane k m [] e = absurd (omega arith)
one_lane k m (a ∷ b ∷ l) e = absurd (omega arith)

-- ---- digits as characters: 48 and what the digit is worth, and 7 more for a letter, whose bit 6 is set
-- 1 for a letter and 0 for a figure
abbrev pub letter_of : ℕ → ℕ
letter_of b = b / 64

pub record Char (b : ℕ) : Type 0 where
  pub is : b ≡ 48 + value_of b + 7 * (b / 64)
  pub worth : value_of b < 16
  pub top : b / 64 ≤ 1

pub char : (b : ℕ) → hex_of b ≡ true → Char b
char b e = go (of_value b (hex_value b e))
  where
    go : Digit b (value_of b) → Char b
    go (low i k) = record { is = omega arith; worth = omega arith; top = omega arith }
    go (high i k l) = record { is = omega arith; worth = omega arith; top = omega arith }

abbrev pub ones : List ℕ → ℕ
ones l = lanes_of 8 (replicate (length l) 1)

pub letters_are : (l : List ℕ) → all hex_of l ≡ true → bit_and (lanes_of 8 l / 64) (ones l) ≡ lanes_of 8 (map letter_of l)
unfolding lanes_of all
letters_are [] e = refl
letters_are (b ∷ l) e =
    let c = char b (and_left (hex_of b) (all hex_of l) e) in
    let i = letters_are l (and_right (hex_of b) (all hex_of l) e) in
    let x = lanes_of 8 l in
    let r = b / 64 + 4 * (x % 64) in
    let q : (x * 256 + b) / 64 ≡ x / 64 * 2 ^ 8 + r = omega (arith, c.is, c.worth, c.top) in
    let m : bit_and r 1 ≡ b / 64 = and_mask r 1 ∙ omega (arith, c.top) in
    ap (λ (y : ℕ). bit_and y (ones (b ∷ l))) q ∙ (and_block 8 (x / 64) (ones l) r 1 (omega (arith, c.top)) (omega arith) ∙ omega (arith, i, m))

pub worths_are : (l : List ℕ) → all hex_of l ≡ true → lanes_of 8 l ≡ 48 * ones l + lanes_of 8 (map value_of l) + 7 * lanes_of 8 (map letter_of l)
unfolding lanes_of all
worths_are [] e = refl
worths_are (b ∷ l) e =
    let c = char b (and_left (hex_of b) (all hex_of l) e) in
    let i = worths_are l (and_right (hex_of b) (all hex_of l) e) in
    omega (arith, c.is, i)

pub worths_below : (l : List ℕ) → all hex_of l ≡ true → Below 4 (map value_of l)
unfolding all
worths_below [] e i = omega arith
worths_below (b ∷ l) e zero = (char b (and_left (hex_of b) (all hex_of l) e)).worth
worths_below (b ∷ l) e (suc i) = worths_below l (and_right (hex_of b) (all hex_of l) e) i

pub letters_below : (l : List ℕ) → all hex_of l ≡ true → Below 1 (map letter_of l)
unfolding all
letters_below [] e i = omega arith
letters_below (b ∷ l) e zero = let c = char b (and_left (hex_of b) (all hex_of l) e) in omega (arith, c.top)
letters_below (b ∷ l) e (suc i) = letters_below l (and_right (hex_of b) (all hex_of l) e) i

pub worths_write : (l : List ℕ) (n : ℕ) → written_of 4 n (map value_of l) ≡ number_from n l
unfolding written_of number_from
worths_write [] n = refl
worths_write (b ∷ l) n = worths_write l (n * 16 + value_of b)
