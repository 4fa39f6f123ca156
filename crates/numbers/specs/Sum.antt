-- Sums of finitely many terms, and the entries of a list as terms. The terms are counted from 0. Assumes nothing.
use Rattle.std.specs.Prelude.{List, ℕ, zero, suc, ◌+◌, ◌*◌, ℤ, nat_abs, pos, ◌+ℤ◌, get_or, length}

-- t 0 + t 1 + .. + t (n - 1)
unfoldable pub sum : ℕ → (ℕ → ℤ) → ℤ
sum zero t = pos 0
sum (suc n) t = sum n t +ℤ t n

-- the same, of terms that are not negative
unfoldable pub total : ℕ → (ℕ → ℕ) → ℕ
total zero b = 0
total (suc n) b = total n b + b n

-- the entry i of a list, 0 past its end
abbrev pub at : List ℤ → ℕ → ℤ
at l i = get_or l i (pos 0)

-- the sum of a list, of its magnitudes, and of its squares
unfoldable pub sum_of : List ℤ → ℤ
sum_of l = sum (length l) (at l)

unfoldable pub magnitudes_of : List ℤ → ℕ
magnitudes_of l = total (length l) (λ k. nat_abs (at l k))

unfoldable pub squares_of : List ℤ → ℕ
squares_of l = total (length l) (λ k. nat_abs (at l k) * nat_abs (at l k))
