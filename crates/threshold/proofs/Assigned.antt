-- Clause 6.6, of a threshold and a pvad in their ranges: the lowered threshold's mantissa is normalised and loses nothing where it is doubled, and
-- each long number that is assigned to a short variable fits it. Assumes nothing.
use mathlib.Core.Path.{◌≡◌, ap}
use Prim.Native.Nat.{◌/◌, ◌^◌, ◌<◌, ◌≤◌}
use native.Mathlib.Nat.{div-eq_of_lt, lt_of_lt_of_le, mul-le-mul_left, div-add-mod'}
use lib.IntN.{ℤ, pos, negsuc, ◌*ℤ◌}
use lib.Pow.{pow_mono, pow_pos}
use lib.Signed.{lt_z, ◌≤ℤ◌, ◌<ℤ◌}
use mir.Syntax.{w16, w32}
use Rattle.numbers.proofs.Parts.{zarith, plus, minus, times, same}
use Rattle.operations.specs.Operations.{sub, l_add, short, shift_right, ◌>>◌, ◌<<ₛ◌, ◌>>ₛ◌}
use Rattle.operations.proofs.Laws.{left_exact, short_exact}
use Rattle.operations.proofs.Exact.{sub_parts, l_add_parts, right_parts}
use Rattle.rows.proofs.Choice.{by_test}
use Rattle.pairs.specs.declared.Pair.{Pair}
use Rattle.pairs.proofs.Range.{Mantissa}
use Rattle.threshold.specs.Threshold.{lowered_of}

-- ---- a short number that is not negative, shifted to the right
pub right_in : (x n : ℤ) → pos 0 ≤ℤ x → pos 0 ≤ℤ n → (pos 0 ≤ℤ (x >>ₛ n)) × ((x >>ₛ n) ≤ℤ x)
unfolding shift_right
right_in (pos x) (pos n) h l =
    (omega zarith, omega (zarith, div-add-mod' x (2 ^ n), mul-le-mul_left (x / 2 ^ n) (pow_pos n)))
right_in (negsuc x) n h l = absurd (omega zarith)
right_in (pos x) (negsuc n) h l = absurd (omega zarith)

-- by 15 or more nothing is left
pub right_far : (x n : ℤ) → Mantissa x → pos 15 ≤ℤ n → x >>ₛ n ≡ pos 0
unfolding shift_right
right_far (pos x) (pos n) k h =
    let l : 15 ≤ n = omega zarith in
    let m : x < 2 ^ 15 = omega (zarith, k.high) in
    ap pos (div-eq_of_lt (lt_of_lt_of_le m (pow_mono l)))
right_far (negsuc x) n k h = absurd (omega (zarith, k.low))
right_far (pos x) (negsuc n) k h = absurd (omega zarith)

-- ---- the two assignments of `fitted`, of a number below 2^16
module _ (x : ℤ) (low : pos 0 ≤ℤ x) (high : x ≤ℤ pos 65535) where
  pub short_half : short (x >> pos 1) ≡ x >> pos 1
  short_half = let r = right_parts w32 x 1 in short_exact (omega zarith)

  pub short_whole : x ≤ℤ pos 32767 → short x ≡ x
  short_whole h = short_exact (omega zarith)

-- ---- thvad-(thvad/dec)
module _ (thvad : Pair) (k : Mantissa thvad.m) where
  abbrev pub less : ℤ
  less = sub thvad.m (thvad.m >>ₛ pos 5)

  less_in : (pos 15872 ≤ℤ less) × (less ≤ℤ pos 31744)
  less_in =
      let q = thvad.m >>ₛ pos 5 in
      let r = right_parts w16 thvad.m 5 in
      let s = sub_parts thvad.m q (omega (zarith, minus thvad.m q, k.low, k.high)) in
      (omega (zarith, k.low, k.high), omega (zarith, k.low, k.high))

  pub lowered_twice : less <ℤ pos 16384 → less <<ₛ pos 1 ≡ less *ℤ pos 2
  lowered_twice h = let i = less_in in left_exact w16 less 1 (omega (zarith, times less (pos 2)))

  pub lowered_mantissa : Mantissa (lowered_of thvad).m
  unfolding lowered_of
  lowered_mantissa =
      let i = less_in in
      by_test (λ (p : Pair). Mantissa p.m) (lt_z less (pos 16384)) _ _
      (λ t. let e = same (lowered_twice (omega zarith)) in let d = times less (pos 2) in record { low = omega zarith; high = omega zarith })
      (λ t. record { low = omega zarith; high = omega zarith })

-- ---- pvad*fac, thvad+(thvad/inc), pvad+margin: the long numbers
pub tripled_in : (m : ℤ) → Mantissa m → let x = l_add (l_add m m) m >> pos 1 in (pos 0 ≤ℤ x) × (x ≤ℤ pos 65535)
tripled_in m k =
    let two = l_add m m in
    let three = l_add two m in
    let b = l_add_parts m m (omega (zarith, plus m m, k.low, k.high)) in
    let c = l_add_parts two m (omega (zarith, plus two m, k.low, k.high)) in
    let r = right_parts w32 three 1 in
    (omega (zarith, k.low), omega (zarith, k.high))

-- a mantissa and what is left of another, shifted to the right
pub added_in : (m x n : ℤ) → Mantissa m → Mantissa x → pos 0 ≤ℤ n → let y = l_add m (x >>ₛ n) in (pos 0 ≤ℤ y) × (y ≤ℤ pos 65535)
added_in m x n k j h =
    let q = x >>ₛ n in
    let i = right_in x n (omega (zarith, j.low)) h in
    let b = l_add_parts m q (omega (zarith, plus m q, k.low, k.high, j.high)) in
    (omega (zarith, k.low), omega (zarith, k.high, j.high))
