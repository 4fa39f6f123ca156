-- A pattern of 32 bits and its number, reached over 64 bits. Assumes nothing.
use Rattle.std.proofs.Common.{◌≡◌, ℕ, ◌^◌, ◌<◌, ◌≤◌, true, false, T, ℤ, pos, negsuc, ◌+ℤ◌, ◌-ℤ◌, nat_abs, refl, subst, w32, SFits, to_z, of_z, le-ltb}
use lib.Signed.{lt_z}
use mir.Val.{hbits}
use Rattle.numbers.proofs.Parts.{zarith, plus, minus}

-- a pattern from 2 ^ 31 on is its number and 2 ^ 32
pub taken_off : (x : ℕ) → 2147483648 ≤ x → x < 4294967296 → pos x -ℤ pos 4294967296 ≡ to_z w32 x
taken_off x h k = rw (le-ltb x (2 ^ hbits w32) h) (omega (zarith, minus (pos x) (pos 4294967296)))

-- and back, for a negative number
pub put_on : (z : ℤ) → lt_z z (pos 0) ≡ true → SFits w32 z → z +ℤ pos 4294967296 ≡ pos (of_z w32 z)
put_on (pos n) e f = absurd (omega (zarith, e))
put_on (negsuc n) e f = let r = f.sfits in omega (zarith, plus (negsuc n) (pos 4294967296))

-- a number that is not negative is its pattern
pub straight : (z : ℤ) → lt_z z (pos 0) ≡ false → nat_abs z ≡ of_z w32 z
straight (pos n) e = refl
straight (negsuc n) e = absurd (subst T e tt)
