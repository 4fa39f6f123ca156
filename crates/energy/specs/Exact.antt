-- The filter sum with no step clipped: of the scaled autocorrelations it is 6.1's L_temp, of a frame's own ones its exact filtered energy.
-- Assumes nothing.
use Rattle.std.specs.Prelude.{ℕ, suc, ℤ, pos, ◌+ℤ◌, ◌*ℤ◌}
use Rattle.numbers.specs.Sum.{sum}

-- r[0] x[0] + 2 (r[1] x[1] + .. + r[8] x[8])
unfoldable pub exact_of : (ℕ → ℤ) → (ℕ → ℤ) → ℤ
exact_of r x = r 0 *ℤ x 0 +ℤ sum 8 (λ k. r (suc k) *ℤ x (suc k)) *ℤ pos 2
