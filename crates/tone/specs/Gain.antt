-- Clause 6.10.6, the prediction gain test, line by line. Assumes nothing.
use Rattle.std.specs.Prelude.{Bool, List, ℕ, zero, suc, ℤ, pos}
use Rattle.std.specs.Int.Signed.{lt_z}
use Rattle.numbers.specs.Sum.{at}
use Rattle.operations.specs.Operations.{sub, mult}

-- `prederr = 32767; FOR i = 1 to 4: temp = mult ( rc[i], rc[i] ); temp = sub ( 32767, temp ); prederr = mult ( prederr, temp )`, after n turns
unfoldable pub prederr_of : List ℤ → ℕ → ℤ
prederr_of rc zero = pos 32767
prederr_of rc (suc n) = mult (prederr_of rc n) (sub (pos 32767) (mult (at rc (suc n)) (at rc (suc n))))

-- `temp = sub ( prederr, 1464 ); IF ( temp < 0 ) THEN tone = 1; ELSE tone = 0`
unfoldable pub gain_of : List ℤ → Bool
gain_of rc = lt_z (sub (prederr_of rc 4) (pos 1464)) (pos 0)
