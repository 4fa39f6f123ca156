-- A piece of the input, and the unfinished line that is carried from piece to piece. A piece is cut in three: what ends the carried line (the
-- head, put together), the lines that lie whole in it (from .. to), and the rest, which is carried on. Assumes nothing.
use Rattle.std.specs.Prelude.{List, [], ◌++◌, ℕ, zero, suc, ◌-◌, min, eqb, length, take, drop, get_or, replicate}
use Rattle.rows.specs.Choice.{IF◌THEN◌ELSE◌}
use Rattle.pieces.specs.declared.Finder.{Finder}
use Rattle.pieces.specs.declared.Parts.{Parts}
use Rattle.pieces.specs.Lines.{plain_of, first_of, kept, short}

-- as many bytes as are kept: a line's first, then zeros
unfoldable pub pad_of : List ℕ → List ℕ
pad_of l = short l ++ replicate (kept - length l) 0

-- what carries an unfinished line, and the line that is carried: no line feed is in it
unfoldable pub finder_of : List ℕ → Finder
finder_of l = record { line = pad_of l; fill = min kept (length l) }

unfoldable pub held_of : Finder → List ℕ
held_of f = take (plain_of (take f.fill f.line)) f.line

-- where the last line that ends in a text ends, 0 where none does
unfoldable pub end_from : List ℕ → ℕ → ℕ
end_from l zero = 0
end_from l (suc k) = IF eqb (get_or l k 0) 10 THEN suc k ELSE end_from l k

unfoldable pub to_of : List ℕ → ℕ
to_of l = end_from l (length l)

-- how much of the piece ends the carried line, where a line ends in the piece, and for any piece
unfoldable pub ending_of : Finder → List ℕ → ℕ
ending_of f p = IF eqb (length (held_of f)) 0 THEN 0 ELSE first_of p

unfoldable pub from_of : Finder → List ℕ → ℕ
from_of f p = IF eqb (to_of p) 0 THEN 0 ELSE ending_of f p

unfoldable pub head_of : Finder → List ℕ → List ℕ
head_of f p = IF eqb (to_of p) 0 THEN [] ELSE short (held_of f ++ take (from_of f p) p)

unfoldable pub mid_of : Finder → List ℕ → List ℕ
mid_of f p = take (to_of p - from_of f p) (drop (from_of f p) p)

unfoldable pub rest_of : Finder → List ℕ → Finder
rest_of f p = finder_of (IF eqb (to_of p) 0 THEN held_of f ++ p ELSE drop (to_of p) p)

unfoldable pub cut_of : Finder → List ℕ → Parts
cut_of f p = record { head = pad_of (head_of f p); n = length (head_of f p); from = from_of f p; to = to_of p; rest = rest_of f p }
