-- `lines::number` has each character in a lane; then the digits are joined in three steps. Assumes nothing.
use Rattle.std.proofs.Common.{◌≡◌, ℕ, ◌+◌, ◌-◌, ◌*◌, ◌/◌, ◌≤◌, List, [], ◌∷◌, map, length, replicate, sym, ap, ◌∙◌, ap₂, arith}
use lib.Bits.{bit_and, and_le_r}
use lib.ListN.{length-map}
use Rattle.lines.specs.Hex.{value_of, number_of}
use Rattle.std.specs.Int.{w64, from_le_bytes}
use Rattle.lines.proofs.Lanes as lane
use Rattle.lines.proofs.Lanes.{lanes_of, joined_of, Below}
use Rattle.lines.proofs.number.Goals as goal
use Rattle.lines.proofs.number.Goals.{After-from_le_bytes-x}

-- eight bytes, the first in the lowest lane
lanes_eight : (l : List ℕ) → length l ≡ 8 → from_le_bytes w64 l ≡ lanes_of 8 l
unfolding lanes_of
lanes_eight [] e = absurd (omega arith)
lanes_eight (a ∷ []) e = absurd (omega arith)
lanes_eight (a ∷ b ∷ []) e = absurd (omega arith)
lanes_eight (a ∷ b ∷ c ∷ []) e = absurd (omega arith)
lanes_eight (a ∷ b ∷ c ∷ d ∷ []) e = absurd (omega arith)
lanes_eight (a ∷ b ∷ c ∷ d ∷ f ∷ []) e = absurd (omega arith)
lanes_eight (a ∷ b ∷ c ∷ d ∷ f ∷ g ∷ []) e = absurd (omega arith)
lanes_eight (a ∷ b ∷ c ∷ d ∷ f ∷ g ∷ h ∷ []) e = absurd (omega arith)
lanes_eight (a ∷ b ∷ c ∷ d ∷ f ∷ g ∷ h ∷ i ∷ []) e = omega arith
lanes_eight (a ∷ b ∷ c ∷ d ∷ f ∷ g ∷ h ∷ i ∷ j ∷ l) e = absurd (omega arith)

-- what each step comes to
module _ (c : After-from_le_bytes-x) where
  abbrev l : List ℕ
  l = c.args.digits.now

  size : length l ≡ 8
  size = c.told-digits

  -- eight digits, four numbers of two and two of four
  abbrev one : List ℕ
  one = map value_of l

  abbrev two : List ℕ
  two = joined_of 4 one

  abbrev four : List ℕ
  four = joined_of 8 two

  one_size : length one ≡ 8
  one_size = length-map l value_of ∙ size

  two_size : length two ≡ 4
  two_size = lane.joined_length 4 4 one one_size

  four_size : length four ≡ 2
  four_size = lane.joined_length 8 2 two two_size

  one_below : Below 4 one
  one_below = lane.worths_below l c.requires

  two_below : Below 8 two
  two_below = lane.joined_below 4 one one_below

  four_below : Below 16 four
  four_below = lane.joined_below 8 two two_below

  abbrev x : ℕ
  x = c.from_le_bytes-x.result

  abbrev letters : ℕ
  letters = bit_and (x / 64) 0x0101_0101_0101_0101

  abbrev worths : ℕ
  worths = x - 0x3030_3030_3030_3030 - 7 * letters

  abbrev bytes : ℕ
  bytes = bit_and (worths * 16 + worths / 256) 0x00ff_00ff_00ff_00ff

  abbrev halves : ℕ
  halves = bit_and (bytes * 256 + bytes / 65536) 0x0000_ffff_0000_ffff

  x_is : x ≡ lanes_of 8 l
  x_is = c.from_le_bytes-x.ensures ∙ lanes_eight l size

  ones_are : lane.ones l ≡ 0x0101_0101_0101_0101
  unfolding lanes_of
  ones_are = ap (λ (n : ℕ). lanes_of 8 (replicate n 1)) size

  letters_is : letters ≡ lanes_of 8 (map lane.letter_of l)
  letters_is = ap₂ (λ (y z : ℕ). bit_and (y / 64) z) x_is (sym ones_are) ∙ lane.letters_are l c.requires

  letters_le : letters ≤ 0x0101_0101_0101_0101
  unfolding lanes_of
  letters_le = omega (arith, letters_is, lane.lanes_le 8 1 8 (map lane.letter_of l) (length-map l lane.letter_of ∙ size) (lane.letters_below l c.requires))

  x_parts : x ≡ 0x3030_3030_3030_3030 + lanes_of 8 one + 7 * letters
  x_parts = omega (arith, x_is, lane.worths_are l c.requires, ones_are, letters_is)

  worths_is : worths ≡ lanes_of 8 one
  worths_is = omega (arith, x_parts)

  worths_le : worths ≤ 0x0f0f_0f0f_0f0f_0f0f
  unfolding lanes_of
  worths_le = omega (arith, worths_is, lane.lanes_le 8 4 8 one one_size one_below)

  bytes_is : bytes ≡ lanes_of 16 two
  unfolding lanes_of
  bytes_is = ap (λ (y : ℕ). bit_and (y * 16 + y / 256) 0x00ff_00ff_00ff_00ff) worths_is ∙ lane.joined 4 4 one one_size one_below

  bytes_le : bytes ≤ 0x00ff_00ff_00ff_00ff
  unfolding lanes_of
  bytes_le = omega (arith, bytes_is, lane.lanes_le 16 8 4 two two_size two_below)

  halves_is : halves ≡ lanes_of 32 four
  unfolding lanes_of
  halves_is = ap (λ (y : ℕ). bit_and (y * 256 + y / 65536) 0x0000_ffff_0000_ffff) bytes_is ∙ lane.joined 8 2 two two_size two_below

  halves_le : halves ≤ 0x0000_ffff_0000_ffff
  unfolding lanes_of
  halves_le = omega (arith, halves_is, lane.lanes_le 32 16 2 four four_size four_below)

  result_is : bit_and (halves * 65536 + halves / 4294967296) 0xffff_ffff ≡ number_of l
  unfolding lanes_of number_of
  result_is =
      ap (λ (y : ℕ). bit_and (y * 65536 + y / 4294967296) 0xffff_ffff) halves_is
      ∙ (lane.joined 16 1 four four_size four_below
      ∙ (lane.one_lane 64 32 (joined_of 16 four) (lane.joined_length 16 1 four four_size)
      ∙ (lane.joined_written 16 1 four four_size 0 ∙ (lane.joined_written 8 2 two two_size 0 ∙ (lane.joined_written 4 4 one one_size 0 ∙ lane.worths_write l 0)))))

pub overflow_sub-worths : goal.overflow_sub-worths
overflow_sub-worths c = omega (arith, x_parts c)

pub overflow_mul-worths : goal.overflow_mul-worths
overflow_mul-worths c = record { fits = omega (arith, letters_le c) }

pub overflow_sub-worths-2 : goal.overflow_sub-worths-2
overflow_sub-worths-2 c = omega (arith, x_parts c)

pub overflow_mul-bytes : goal.overflow_mul-bytes
overflow_mul-bytes c = record { fits = omega (arith, worths_le c) }

pub overflow_add-bytes : goal.overflow_add-bytes
overflow_add-bytes c = record { fits = omega (arith, worths_le c) }

pub overflow_mul-halves : goal.overflow_mul-halves
overflow_mul-halves c = record { fits = omega (arith, bytes_le c) }

pub overflow_add-halves : goal.overflow_add-halves
overflow_add-halves c = record { fits = omega (arith, bytes_le c) }

pub overflow_mul-result : goal.overflow_mul-result
overflow_mul-result c = record { fits = omega (arith, halves_le c) }

pub overflow_add-result : goal.overflow_add-result
overflow_add-result c = record { fits = omega (arith, halves_le c) }

pub overflow_cast-result : goal.overflow_cast-result
overflow_cast-result c = record { fits = omega (arith, and_le_r (halves c * 65536 + halves c / 4294967296) 0xffff_ffff) }

pub returns : goal.returns
returns c = result_is c
