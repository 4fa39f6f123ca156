-- Upper-case hexadecimal digits: what a character is worth, the character of a digit, and a number and its digits, the first the
-- highest. Characters are their ASCII codes: 48..57 are 0..9, 65..70 are A..F. Assumes nothing.
use Rattle.std.specs.Prelude.{ℕ, zero, suc, ◌+◌, ◌-◌, ◌*◌, ◌/◌, ◌%◌, Bool, ltb, List, [], ◌∷◌, ◌++◌, nat_le, nat_lt, Option, Some, None}
use Rattle.rows.specs.Choice.{IF◌THEN◌ELSE◌}

-- what a character is worth: 0..15, and 16 where it is no digit
unfoldable pub value_of : ℕ → ℕ
value_of b =
    IF ltb b 48 THEN 16
    ELSE IF nat_le b 57 THEN b - 48
    ELSE IF ltb b 65 THEN 16
    ELSE IF nat_le b 70 THEN b - 55
    ELSE 16

unfoldable pub hex_of : ℕ → Bool
hex_of b = nat_lt (value_of b) 16

-- the same, of a digit alone
unfoldable pub worth_of : ℕ → Option ℕ
worth_of b = IF hex_of b THEN Some (value_of b) ELSE None

-- the character of a number below 16
unfoldable pub digit_of : ℕ → ℕ
digit_of n = IF ltb n 10 THEN 48 + n ELSE 55 + n

-- the number that digits write, after digits that write n
unfoldable pub number_from : ℕ → List ℕ → ℕ
number_from n [] = n
number_from n (b ∷ l) = number_from (n * 16 + value_of b) l

unfoldable pub number_of : List ℕ → ℕ
number_of l = number_from 0 l

-- the k lowest digits of a number
unfoldable pub digits_of : ℕ → ℕ → List ℕ
digits_of zero n = []
digits_of (suc k) n = digits_of k (n / 16) ++ (digit_of (n % 16) ∷ [])

-- numbers of k digits each, one after the other
unfoldable pub blocks_of : ℕ → List ℕ → List ℕ
blocks_of k [] = []
blocks_of k (n ∷ l) = digits_of k n ++ blocks_of k l
