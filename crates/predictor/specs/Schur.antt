-- Clause 6.3.1, the Schur recursion, line by line, for any order N up to 8: the clause's is 8, and that of 6.10.3, which is the same, is 4. The
-- arrays have the clause's numbering, so that vpar[0], and what is not said of K, is 0 and not used. Assumes nothing.
use Rattle.std.specs.Prelude.{Bool, ◌&&◌, List, ℕ, zero, suc, ◌+◌, ◌-◌, leb, ℤ, pos, set}
use Rattle.std.specs.Int.Signed.{lt_z}
use Rattle.numbers.specs.Sum.{at}
use Rattle.operations.specs.Operations.{add, sub, mult_r, abs, div, norm, ◌<<◌, ◌>>◌}
use Rattle.rows.specs.Choice.{IF◌THEN◌ELSE◌, eqZ}
use Rattle.rows.specs.Rows.{row}

-- `FOR i=1 to 7: K[9-i] = sacf[i]`: K[j] = sacf[9-j] for j = 2 to 8
unfoldable pub k_of : ℕ → List ℤ → ℕ → ℤ
k_of N sacf j = IF leb 2 j && leb j N THEN at sacf (N + 1 - j) ELSE pos 0

-- `IF( P[0] < abs( P[1] ) )`, which leaves the recursion
unfoldable pub leaves_of : ℤ → ℤ → Bool
leaves_of P0 P1 = lt_z P0 (abs P1)

-- `vpar[n] = div( abs( P[1] ), P[0] ); IF ( P[1] > 0 ) THEN vpar[n] = sub( 0, vpar[n] )`
unfoldable pub coefficient_of : ℤ → ℤ → ℤ
coefficient_of P0 P1 = let q = div (abs P1) P0 in IF lt_z (pos 0) P1 THEN sub (pos 0) q ELSE q

-- `add( x, mult_r( y, vpar[n] ) )`
unfoldable pub turned_of : ℤ → ℤ → ℤ → ℤ
turned_of x y c = add x (mult_r y c)

pub record Arrays : Type 0 where
  pub P : List ℤ
  pub K : List ℤ

-- `FOR m=1 to 8-n: P[m] = add( P[m+1], mult_r( K[9-m], vpar[n] ) ); K[9-m] = add( K[9-m], mult_r( P[m+1], vpar[n] ) )`:
-- so many turns, from m on, with c for vpar[n]
unfoldable pub inner_from : ℕ → ℤ → ℕ → ℕ → Arrays → Arrays
inner_from N c zero m a = a
inner_from N c (suc turns) m a =
    let x = at a.P (m + 1) in
    let y = at a.K (N + 1 - m) in
    inner_from N c turns (m + 1) (record { P = set a.P m (turned_of x y c); K = set a.K (N + 1 - m) (turned_of y x c) })

-- `FOR n=1 to 8`: so many turns, from n on. To leave is to keep vpar as it is, with zeros from n on
unfoldable pub outer_from : ℕ → ℕ → ℕ → Arrays → List ℤ → List ℤ
outer_from N zero n a vpar = vpar
outer_from N (suc turns) n a vpar =
    let P0 = at a.P 0 in
    let P1 = at a.P 1 in
    let c = coefficient_of P0 P1 in
    let b : Arrays = record { P = set a.P 0 (turned_of P0 P1 c); K = a.K } in
    IF leaves_of P0 P1 THEN vpar ELSE outer_from N turns (n + 1) (inner_from N c (N - n) 1 b) (set vpar n c)

-- the recursion of the order N
unfoldable pub schur_of : ℕ → List ℤ → List ℤ
schur_of N sacf = outer_from N N 1 (record { P = sacf; K = row 9 (k_of N sacf) }) (row 9 (λ i. pos 0))

-- `temp = norm( L_av1[0] ); sacf[k] = ( L_av1[k] << temp ) >> 16`. This left shift is document 01's: it drops bits
unfoldable pub sacf_of : List ℤ → ℕ → ℤ
sacf_of l_av1 k = at l_av1 k << norm (at l_av1 0) >> pos 16

-- the whole clause for the order N: `IF( L_av1[0] == 0 ) THEN FOR i = 1 to N: vpar[i] = 0`
unfoldable pub reflection_of : ℕ → List ℤ → List ℤ
reflection_of N l_av1 = IF eqZ (at l_av1 0) (pos 0) THEN row 9 (λ i. pos 0) ELSE schur_of N (row 9 (sacf_of l_av1))

-- that of 6.3.1
unfoldable pub vpar_of : List ℤ → List ℤ
vpar_of l_av1 = reflection_of 8 l_av1
