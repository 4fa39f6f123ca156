-- The lines of a text. A line ends with its line feed, the byte 10; the last may lack it. Assumes nothing.
use Rattle.std.specs.Prelude.{List, [], ◌∷◌, ℕ, suc, ◌+◌, min, eqb, length, take}
use Rattle.rows.specs.Choice.{IF◌THEN◌ELSE◌}

-- a byte before the first line
unfoldable pub on_first : ℕ → List (List ℕ) → List (List ℕ)
on_first b [] = (b ∷ []) ∷ []
on_first b (l ∷ ls) = (b ∷ l) ∷ ls

unfoldable pub lines_of : List ℕ → List (List ℕ)
lines_of [] = []
lines_of (b ∷ l) = IF eqb b 10 THEN (b ∷ []) ∷ lines_of l ELSE on_first b (lines_of l)

-- how many bytes stand before the first line feed, and how many the first line has
unfoldable pub plain_of : List ℕ → ℕ
plain_of [] = 0
plain_of (b ∷ l) = IF eqb b 10 THEN 0 ELSE suc (plain_of l)

unfoldable pub first_of : List ℕ → ℕ
first_of l = min (plain_of l + 1) (length l)

-- how many lines end in a text: its line feeds
unfoldable pub feeds_of : List ℕ → ℕ
feeds_of [] = 0
feeds_of (b ∷ l) = IF eqb b 10 THEN suc (feeds_of l) ELSE feeds_of l

-- as much of a line as is looked at: the longest line of any form has 84 bytes, so one byte more shows that a line is malformed
abbrev pub longest : ℕ
longest = 84

abbrev pub kept : ℕ
kept = longest + 1

unfoldable pub short : List ℕ → List ℕ
short l = take kept l
