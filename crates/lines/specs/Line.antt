-- A line of a trace and its frame: nine numbers of eight digits in two's complement, a scale of one digit, four lags of two digits, and
-- a line feed, 82 bytes in all. `to_z w32` of the library reads 32 bits as signed, `of_z w32` gives a number's bits. Assumes nothing.
use Rattle.std.specs.Prelude.{ℕ, ◌*◌, Bool, ◌&&◌, List, [], ◌∷◌, ◌++◌, map, length, take, drop, ℤ, pos, ◌==◌, slice_index, unsigned_abs}
use Rattle.std.specs.Int.{w32}
use Rattle.std.proofs.Common.{to_z, of_z}
use Rattle.rows.specs.Rows.{row, all}
use Rattle.lines.specs.declared.Frame.{Frame}
use Rattle.lines.specs.Hex.{hex_of, number_of, digits_of, blocks_of}

-- a line's digits, and its bytes with the line feed
abbrev pub DIGITS : ℕ
DIGITS = 81

abbrev pub LINE : ℕ
LINE = 82

-- the number i of a text of numbers of k digits
unfoldable pub field_at : ℕ → List ℕ → ℕ → ℕ
field_at k l i = number_of (take k (drop (k * i) l))

-- the same, of eight digits, as signed
unfoldable pub word_at : List ℕ → ℕ → ℤ
word_at l i = to_z w32 (field_at 8 l i)

-- the frame of a line
unfoldable pub frame_of : List ℕ → Frame
frame_of l = record { acf = row 9 (word_at l); scale = pos (field_at 1 (drop 72 l) 0); lags = row 4 (field_at 2 (drop 73 l)) }

-- the line of a frame
unfoldable pub line_of : Frame → List ℕ
line_of f = blocks_of 8 (map (of_z w32) f.acf) ++ digits_of 1 (unsigned_abs f.scale) ++ blocks_of 2 f.lags ++ (10 ∷ [])

-- a line is well formed: 81 digits and a line feed
unfoldable pub formed_of : List ℕ → Bool
formed_of l = length l == LINE && (all hex_of (take DIGITS l) && slice_index l DIGITS == 10)
