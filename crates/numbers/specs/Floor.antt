-- Division with a rest. The quotient rounded down is `shr_z z n` of the library, and a shift to the right by k is the one by 2 ^ k; the
-- rest is `residue z n`. `numbers/proofs/Floor.antt` shows that z is n times the one and the other, from 0 to n - 1, and that no other
-- two numbers are so. Assumes nothing.
use Rattle.std.specs.Prelude.{ℕ, suc, ◌-◌, ◌%◌, ℤ, pos, negsuc}

-- the rest of -(k + 1) lies as far below n - 1 as that of k lies above 0
unfoldable pub residue : ℤ → ℕ → ℕ
residue (pos k) n = k % n
residue (negsuc k) n = n - suc (k % n)
