-- The standard's IF .. THEN .. ELSE, its test of equality, and the test of a range. `lt_z` and `le_z` of the library are its < and <=. Assumes nothing.
use Rattle.std.specs.Prelude.{Bool, true, false, ◌&&◌, ℤ}
use Rattle.std.specs.Int.Signed.{le_z}

infixr 1 IF◌THEN◌ELSE◌
unfoldable pub IF◌THEN◌ELSE◌ {ℓ} : {A : Type ℓ} → Bool → A → A → A
IF true THEN a ELSE b = a
IF false THEN a ELSE b = b

-- x == y
unfoldable pub eqZ : ℤ → ℤ → Bool
eqZ x y = le_z x y && le_z y x

-- lo..hi
unfoldable pub within : ℤ → ℤ → ℤ → Bool
within lo hi z = le_z lo z && le_z z hi
