-- Pseudo-floating numbers (clause 6, its introduction; document 01, 'Arithmetic'): a pair (e, m) means m · 2^(e-15). For 6.1, 6.6 and 6.7.
-- Assumes nothing.
use Rattle.std.specs.Prelude.{Bool, ◌&&◌, ◌||◌, ℕ, ◌*◌, ◌^◌, ℤ, nat_abs, pos, negsuc, ◌+ℤ◌}
use Rattle.std.specs.Int.Signed.{lt_z}
use Rattle.rows.specs.Choice.{eqZ}
use Rattle.pairs.specs.declared.Pair.{Pair}

-- a > b, as 6.7 and 6.6 find it: `IF ( e_a > e_b ) THEN 1; IF ( e_a == e_b ) THEN IF ( m_a > m_b ) THEN 1`
unfoldable pub greater_of : Pair → Pair → Bool
greater_of a b = lt_z b.e a.e || (eqZ a.e b.e && lt_z b.m a.m)

-- the pair (e, m)
abbrev pub pair : ℤ → ℤ → Pair
pair e m = record { e = e; m = m }

-- the energies of an all-zero frame
abbrev pub silent : Pair
silent = pair (negsuc 32767) (pos 0)

-- what a pair is worth, in parts of 2^-47: m · 2^(e-15) times 2^47, for a pair that is not negative and has an exponent from -32 on
unfoldable pub worth_of : Pair → ℕ
worth_of p = nat_abs p.m * 2 ^ nat_abs (p.e +ℤ pos 32)
