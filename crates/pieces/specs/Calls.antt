-- A caller that is fed an input piece by piece, with an output lent that has k bytes for each byte of the piece. Assumes nothing.
use Rattle.std.specs.Prelude.{List, [], ◌∷◌, ◌++◌, ℕ, ◌/◌, ◌≤◌, length}

-- one call: the piece, what the lent output holds before, and that there is room in it
pub record Call (k : ℕ) : Type 0 where
  pub piece : List ℕ
  pub lent : List ℕ
  pub room : length piece ≤ length lent / k

unfoldable pub pieces_of : {k : ℕ} → List (Call k) → List (List ℕ)
pieces_of [] = []
pieces_of (c ∷ cs) = c.piece ∷ pieces_of cs

-- calls one after the other: what each gives, with what the call before left; then the end
unfoldable pub calls_give : {T : Type 0} {k : ℕ} → (T → Call k → List ℕ) → (T → Call k → T) → (T → List ℕ) → T → List (Call k) → List ℕ
calls_give gives leaves end t [] = end t
calls_give gives leaves end t (c ∷ cs) = gives t c ++ calls_give gives leaves end (leaves t c) cs
