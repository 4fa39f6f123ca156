-- The number of a width nearest to a whole number: what a saturating operation of GSM 06.10 gives for an exact result.
-- For whoever reads a definition that saturates; `numbers/proofs/Clamp.antt` shows that it is the nearest. Assumes nothing.
use Rattle.std.specs.Prelude.{◌-◌, ◌^◌, min, ℤ, pos, negsuc}
use Rattle.std.specs.Int.{Width}
use mir.Val.{hbits}

-- n and -(n + 1) are numbers of the width w exactly when n is below 2 ^ hbits w, so each end of the range is one `min`
unfoldable pub clamp : Width → ℤ → ℤ
clamp w (pos n) = pos (min n (2 ^ hbits w - 1))
clamp w (negsuc n) = negsuc (min n (2 ^ hbits w - 1))
