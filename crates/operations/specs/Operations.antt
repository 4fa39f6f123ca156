-- The operations of GSM 06.10 (its clause on arithmetic), as document 01, 'Arithmetic', reads them, with the standard's names: `l_add` is
-- its L_add, `mult_r` its mult_r. For whoever writes down or reads a clause of GSM 06.32. A variable of 16 or 32 bits is a whole number
-- here; `w16` and `w32` name its width. What document 01 leaves open is marked "decided" and argued in docs/DECISIONS.md. Assumes nothing.
use Rattle.std.specs.Prelude.{zero, suc, ◌^◌, ℤ, nat_abs, pos, negsuc, neg_ℤ, ◌+ℤ◌, ◌-ℤ◌, ◌*ℤ◌}
use Rattle.std.specs.Int.Count.{count_leading_zeros}
use Rattle.std.specs.Int.Signed.{shr_z}
use Rattle.std.specs.Int.{Width, w16, w32}
use Rattle.numbers.specs.Clamp.{clamp}
use Rattle.numbers.specs.Wrap.{wrap}

-- ---- sums and differences: the exact one, at the end of the range where it is beyond

unfoldable pub add : ℤ → ℤ → ℤ
add x y = clamp w16 (x +ℤ y)

unfoldable pub sub : ℤ → ℤ → ℤ
sub x y = clamp w16 (x -ℤ y)

unfoldable pub l_add : ℤ → ℤ → ℤ
l_add x y = clamp w32 (x +ℤ y)

unfoldable pub l_sub : ℤ → ℤ → ℤ
l_sub x y = clamp w32 (x -ℤ y)

-- ---- products, of which only that of -32768 with itself is beyond the range, and magnitudes

unfoldable pub mult : ℤ → ℤ → ℤ
mult x y = clamp w16 (shr_z (x *ℤ y) (2 ^ 15))

unfoldable pub mult_r : ℤ → ℤ → ℤ
mult_r x y = clamp w16 (shr_z (x *ℤ y +ℤ pos 16384) (2 ^ 15))

unfoldable pub l_mult : ℤ → ℤ → ℤ
l_mult x y = clamp w32 (x *ℤ y *ℤ pos 2)

unfoldable pub abs : ℤ → ℤ
abs x = clamp w16 (pos (nat_abs x))

-- of a long variable, which clause 6.4 of GSM 06.32 writes out
unfoldable pub l_abs : ℤ → ℤ
l_abs x = clamp w32 (pos (nat_abs x))

-- ---- shifts of a number of the width w. To the right is the quotient rounded down; to the left drops the bits pushed out, which is
-- document 01's reading; a negative amount is the opposite shift. An amount of the width or more is no exception (decided).

unfoldable pub shift_left : Width → ℤ → ℤ → ℤ
shift_left w x (pos n) = wrap w (x *ℤ pos (2 ^ n))
shift_left w x (negsuc n) = shr_z x (2 ^ suc n)

unfoldable pub shift_right : Width → ℤ → ℤ → ℤ
shift_right w x (pos n) = shr_z x (2 ^ n)
shift_right w x (negsuc n) = wrap w (x *ℤ pos (2 ^ suc n))

infixl 5 ◌<<◌ ◌>>◌ ◌<<ₛ◌ ◌>>ₛ◌
-- of a long variable, 32 bits
abbrev pub ◌<<◌ : ℤ → ℤ → ℤ
x << n = shift_left w32 x n

abbrev pub ◌>>◌ : ℤ → ℤ → ℤ
x >> n = shift_right w32 x n

-- of a short variable, 16 bits (decided: it drops bits as the long one does)
abbrev pub ◌<<ₛ◌ : ℤ → ℤ → ℤ
x <<ₛ n = shift_left w16 x n

abbrev pub ◌>>ₛ◌ : ℤ → ℤ → ℤ
x >>ₛ n = shift_right w16 x n

-- ---- `var2 = ( L_var1 << n ) >> 16`: the top half of a long variable shifted to the left
abbrev pub topped : ℤ → ℤ → ℤ
topped x n = x << n >> pos 16

-- ---- `var2 = L_var1`: the low 16 bits of a long variable, as two's complement
unfoldable pub short : ℤ → ℤ
short x = wrap w16 x

-- ---- the shift that brings the magnitude of a 32-bit number into 2^30..2^31-1, which is the number of zeros before its first digit
-- when it is written with 31 digits; 0 for 0. A negative number has the norm of its magnitude (decided).
unfoldable pub norm : ℤ → ℤ
norm (pos zero) = pos 0
norm (pos (suc n)) = pos (count_leading_zeros 31 (suc n))
norm (negsuc n) = pos (count_leading_zeros 31 (suc n))

-- ---- division. x over y, rounded down, where y is not 0; by 0 it is x, which `div` then puts at the end of the range unless it is 0
-- (decided; so is the rounding of a quotient below 0)
unfoldable pub over : ℤ → ℤ → ℤ
over x (pos zero) = x
over x (pos (suc n)) = shr_z x (suc n)
over x (negsuc n) = shr_z (neg_ℤ x) (suc n)

-- the quotient in 32768ths
unfoldable pub div : ℤ → ℤ → ℤ
div x y = clamp w16 (over (x *ℤ pos 32768) y)
