-- What the code tests for speed and no clause names: whether a number of 32 bits is a quarter of their range. Four of them add up without a clip.
-- Assumes nothing.
use Rattle.std.specs.Prelude.{Bool, ℤ, pos, negsuc}
use Rattle.rows.specs.Choice.{within}

-- -2^29..2^29-1
unfoldable pub quarter : ℤ → Bool
quarter z = within (negsuc 536870911) (pos 536870911) z
