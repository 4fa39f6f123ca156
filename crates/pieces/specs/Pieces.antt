-- An input that comes in pieces: the lines that are handed out, and what a caller makes of them who answers one line after the other.
-- Assumes nothing.
use Rattle.std.specs.Prelude.{List, [], ◌∷◌, ◌++◌, map, ℕ}
use Rattle.pieces.specs.declared.Finder.{Finder}
use Rattle.pieces.specs.Lines.{lines_of, short}
use Rattle.pieces.specs.Cut.{held_of, head_of, mid_of, rest_of}

-- the whole input
unfoldable pub flat : List (List ℕ) → List ℕ
flat [] = []
flat (p ∷ ps) = p ++ flat ps

-- the lines that end in a piece, and those of all pieces; at the end what is carried is a line
unfoldable pub handed_of : Finder → List ℕ → List (List ℕ)
handed_of f p = lines_of (head_of f p) ++ lines_of (mid_of f p)

unfoldable pub handed_all : Finder → List (List ℕ) → List (List ℕ)
handed_all f [] = lines_of (held_of f)
handed_all f (p ∷ ps) = handed_of f p ++ handed_all (rest_of f p) ps

unfoldable pub shorts : List (List ℕ) → List (List ℕ)
shorts ls = map short ls

-- ---- a caller: its state after some lines, and what it wrote
unfoldable pub state_after : {S : Type 0} → (S → List ℕ → S) → S → List (List ℕ) → S
state_after next s [] = s
state_after next s (l ∷ ls) = state_after next (next s l) ls

unfoldable pub text_after : {S : Type 0} → (S → List ℕ → S) → (S → List ℕ → List ℕ) → S → List (List ℕ) → List ℕ
text_after next text s [] = []
text_after next text s (l ∷ ls) = text s l ++ text_after next text (next s l) ls
