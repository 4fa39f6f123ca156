-- Document 01, 'Distance of the energy': how far the reported energy may lie from the exact one. Whole numbers throughout: what document 01 states
-- in the units of pvad and thvad is here multiplied by 2 ^ 80, which makes every exponent a natural number. Assumes nothing.
use Rattle.std.specs.Prelude.{List, ℕ, ◌+◌, ◌*◌, ◌^◌, ℤ, nat_abs, pos, ◌+ℤ◌, ◌-ℤ◌, ◌*ℤ◌}
use Rattle.numbers.specs.Sum.{at}
use Rattle.operations.specs.Operations.{norm}
use Rattle.pairs.specs.declared.Pair.{Pair}
use Rattle.energy.specs.Energy.{filter_sum_of}
use Rattle.energy.specs.Exact.{exact_of}
use Rattle.state.specs.Valid.{weight_of}

-- E = rvad[0]·L_ACF[0] + 2·(sum of rvad[i]·L_ACF[i]), the exact energy of the frame through the filter
unfoldable pub e_of : List ℤ → List ℤ → ℤ
e_of l_acf rvad = exact_of (at rvad) (at l_acf)

-- W = rvad[0] + 2·(sum of magnitudes of rvad[1..8])
unfoldable pub w_of : List ℤ → ℕ
w_of rvad = nat_abs (at rvad 0) + 2 * weight_of rvad

-- a and p, the two normalising shifts of 6.1: of L_ACF[0], and of the filter sum L before it is replaced
unfoldable pub a_of : List ℤ → ℕ
a_of l_acf = nat_abs (norm (at l_acf 0))

unfoldable pub l_of : List ℤ → List ℤ → ℤ
l_of l_acf rvad = filter_sum_of l_acf rvad

unfoldable pub p_of : List ℤ → List ℤ → ℕ
p_of l_acf rvad = nat_abs (norm (l_of l_acf rvad))

-- E·2^(a+p) differs from m·2^35 by at most this: 2^p·(2^19-1)·W + 2^19·(2^16-1)
unfoldable pub distance_of : List ℤ → List ℤ → ℕ
distance_of l_acf rvad = 2 ^ p_of l_acf rvad * (524287 * w_of rvad) + 2 ^ 19 * 65535

-- where L is not positive, E·2^a is at most this: (2^19-1)·W
unfoldable pub small_of : List ℤ → ℕ
small_of rvad = 524287 * w_of rvad

-- ---- in the units of pvad and thvad, times 2^80
-- the exact energy: E·2^(2·scalvad - 4 - normrvad)
unfoldable pub energy_units : List ℤ → List ℤ → ℤ → ℤ → ℤ
energy_units l_acf rvad scalvad normrvad = e_of l_acf rvad *ℤ pos (2 ^ nat_abs (scalvad *ℤ pos 2 -ℤ normrvad +ℤ pos 76))

-- the distance: times 2^(2·scalvad - 4 - normrvad - a - p)
unfoldable pub distance_units : List ℤ → List ℤ → ℤ → ℤ → ℕ
distance_units l_acf rvad scalvad normrvad =
    distance_of l_acf rvad * 2 ^ nat_abs (scalvad *ℤ pos 2 -ℤ normrvad -ℤ pos (a_of l_acf + p_of l_acf rvad) +ℤ pos 76)

-- a pair (e, m): m·2^(e-15)
unfoldable pub pair_units : Pair → ℕ
pair_units p = nat_abs p.m * 2 ^ nat_abs (p.e +ℤ pos 65)
