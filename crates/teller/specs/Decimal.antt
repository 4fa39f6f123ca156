-- A number in decimal, without leading zeros: its last digit is the remainder by ten, and the digits before it are those of the quotient. A number of
-- 32 bits has at most ten digits. Characters are their ASCII codes: 48..57 are 0..9. `decimal_reads`, `decimal_first` and `decimal_digits` in
-- `proofs/Decimal.antt` show that the digits read as the number, begin with no zero, and are digits all. Assumes nothing.
use Rattle.std.specs.Prelude.{List, [], ◌∷◌, ◌++◌, ℕ, zero, suc, ◌+◌, ◌-◌, ◌*◌, ◌/◌, ◌%◌, ltb}
use Rattle.rows.specs.Choice.{IF◌THEN◌ELSE◌}

-- at most k digits
unfoldable pub decimal_from : ℕ → ℕ → List ℕ
decimal_from zero n = []
decimal_from (suc k) n = IF ltb n 10 THEN (48 + n) ∷ [] ELSE decimal_from k (n / 10) ++ ((48 + n % 10) ∷ [])

unfoldable pub decimal_of : ℕ → List ℕ
decimal_of n = decimal_from 10 n

-- ---- the number that decimal digits write, the first digit first
-- after a number that was read before them
unfoldable pub read_from : ℕ → List ℕ → ℕ
read_from v [] = v
read_from v (d ∷ ds) = read_from (10 * v + (d - 48)) ds

unfoldable pub read_of : List ℕ → ℕ
read_of ds = read_from 0 ds
