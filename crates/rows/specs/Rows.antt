-- Rows of numbers, made entry by entry and tested entry by entry, and the standard's running sum. Assumes nothing.
use Rattle.std.specs.Prelude.{Bool, true, ◌&&◌, List, [], ◌∷◌, ◌++◌, ℕ, zero, suc, ◌+◌, ◌-◌, min, ℤ, pos, negsuc, ◌*ℤ◌, length, get_or}
use Rattle.numbers.specs.Sum.{sum, at}
use Rattle.operations.specs.Operations.{l_add, l_mult}
use Rattle.rows.specs.Choice.{within}

-- f 0, f 1, .., f (n - 1)
unfoldable pub row {ℓ} : {A : Type ℓ} → ℕ → (ℕ → A) → List A
row zero f = []
row (suc n) f = row n f ++ (f n ∷ [])

-- the first n entries, and z for those that a shorter row does not have
unfoldable pub first_of {ℓ} : {A : Type ℓ} → ℕ → A → List A → List A
first_of n z l = row n (λ i. get_or l i z)

-- the test holds of each entry
unfoldable pub all {ℓ} : {A : Type ℓ} → (A → Bool) → List A → Bool
all t [] = true
all t (x ∷ l) = t x && all t l

-- `L = 0; FOR k = 0 to n-1: L = L_add( L, t[k] )`
unfoldable pub l_sum : ℕ → (ℕ → ℤ) → ℤ
l_sum zero t = pos 0
l_sum (suc n) t = l_add (l_sum n t) (t n)

-- `L_add( .., L_mult( a[k], b[k] ) )` over the entries that both rows have
unfoldable pub l_products : List ℤ → List ℤ → ℤ
l_products a b = l_sum (min (length a) (length b)) (λ k. l_mult (at a k) (at b k))

-- the same of a row and itself at the lag i: `L_add( .., L_mult( a[k], a[k+i] ) )`
unfoldable pub l_lagged : List ℤ → ℕ → ℤ
l_lagged a i = l_sum (length a - i) (λ k. l_mult (at a k) (at a (k + i)))

-- the exact sum of the products, neither doubled nor clipped
unfoldable pub product_sum : List ℤ → List ℤ → ℤ
product_sum a b = sum (min (length a) (length b)) (λ k. at a k *ℤ at b k)

-- a number of 13 bits
unfoldable pub thirteen : ℤ → Bool
thirteen x = within (negsuc 4095) (pos 4095) x
