-- Two's complement: the low bits of a whole number, read as a number of a width. It is document 01's reading of a left shift, which
-- drops the bits pushed out. `numbers/proofs/Wrap.antt` shows that it is the one number of the width's range that differs from the
-- given one by a multiple of 2 ^ bits w. Assumes nothing.
use Rattle.std.specs.Prelude.{◌^◌, ℤ}
use Rattle.std.specs.Int.{Width}
use mir.Val.{bits, to_z}
use Rattle.numbers.specs.Floor.{residue}

-- the low bits are the remainder by 2 ^ bits w, and `to_z` of the library reads them as signed
unfoldable pub wrap : Width → ℤ → ℤ
wrap w z = to_z w (residue z (2 ^ bits w))
