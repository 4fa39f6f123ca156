-- A text put into a lent output at a place, where it fits; where it does not, the output stays. Assumes nothing.
use Rattle.std.specs.Prelude.{List, ◌++◌, ℕ, ◌+◌, leb, length, take, drop}
use Rattle.rows.specs.Choice.{IF◌THEN◌ELSE◌}

unfoldable pub put_of : List ℕ → ℕ → List ℕ → List ℕ
put_of o at t = IF leb (at + length t) (length o) THEN take at o ++ t ++ drop (at + length t) o ELSE o
