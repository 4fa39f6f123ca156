-- `lags::lagcount` counts along the row: what is counted, and what is left to count, make the whole. Assumes nothing.
use mathlib.Core.Path.{◌≡◌, refl, ap, ◌∙◌}
use mathlib.Core.Bool.{Bool, true, false}
use mathlib.Core.List.{List}
use Prim.Native.Nat.{ℕ, ◌+◌, ◌<◌, ◌≤◌}
use native.Mathlib.Omega.{arith}
use lib.IntN.{ℤ, pos, ◌+ℤ◌}
use lib.ListN.{length, get_or, drop, drop_of_length-le}
use lib.Signed.{◌≤ℤ◌}
use mir.Syntax.{w16}
use mir.Val.{SFits, to_z, of_z}
use Rattle.std.specs.Int.{from_bool}
use Rattle.numbers.proofs.Parts.{zarith, of, plus, same}
use Rattle.numbers.proofs.Read.{zreads}
use Rattle.rows.specs.Choice.{IF◌THEN◌ELSE◌}
use Rattle.rows.proofs.All.{drop_next}
use Rattle.lags.specs.Lags.{counted_of, once_of, lagcount_of}
use Rattle.lags.proofs.Range.{once_le}
use Rattle.lags.proofs.lagcount.Goals as goal

-- ---- over plain numbers
one : (t : Bool) → from_bool t ≡ (IF t THEN 1 ELSE 0)
unfolding IF◌THEN◌ELSE◌
one true = refl
one false = refl

once_is : (a b : ℕ) → from_bool (counted_of a b) ≡ once_of a b
unfolding once_of
once_is a b = one (counted_of a b)

one_more : (last : ℕ) (l : List ℕ) (i : ℕ) → i < length l → lagcount_of last (drop i l) ≡ once_of last (get_or l i 0) + lagcount_of (get_or l i 0) (drop (i + 1) l)
unfolding lagcount_of
one_more last l i h = ap (lagcount_of last) (drop_next l i 0 h)

none_left : (last : ℕ) (l : List ℕ) (i : ℕ) → length l ≤ i → lagcount_of last (drop i l) ≡ 0
unfolding lagcount_of
none_left last l i h = ap (lagcount_of last) (drop_of_length-le l h)

-- a turn: the count k, and o more
abbrev Turned : ℤ → ℕ → ℕ → ℕ → Type 0
Turned r i m w = (pos 0 ≤ℤ r) × (r ≤ℤ pos (i + 1)) × (r +ℤ pos m ≡ pos w)

turned : (k : ℤ) (i o m n w : ℕ) → i < 4 → o ≤ 1 → n ≡ o + m → pos 0 ≤ℤ k → k ≤ℤ pos i → k +ℤ pos n ≡ pos w → Turned (to_z w16 (of_z w16 (k +ℤ to_z w16 (of_z w16 (pos o))))) i m w
turned k i o m n w h l e lo hi is =
    let f : SFits w16 (pos o) = record { sfits = omega arith } in
    let s = k +ℤ pos o in
    let g : SFits w16 s = omega (zarith, plus k (pos o), of s, of k) in
    let q = same is in
    simp zreads (omega (zarith, plus k (pos o)), omega (zarith, plus k (pos o)), omega (zarith, plus k (pos o), plus s (pos m), plus k (pos n)))

-- ---- the goals
pub loop-lag-preserved : goal.loop-lag-preserved
loop-lag-preserved c =
    let l = c.args.lags in
    let i = c.loop-lag.lag-index in
    let last = c.loop-lag.last in
    let in_row : i < length l = omega arith in
    let v = c.loop-lag.invariant in
    let e : c.from-count.result ≡ pos (once_of last (get_or l i 0)) = c.from-count.ensures ∙ ap (λ (t : Bool). pos (from_bool t)) c.counted.ensures ∙ ap pos (once_is last (get_or l i 0)) in
    rw e (turned (to_z w16 c.loop-lag.count-bits) i _ _ _ _ (omega arith) (once_le last (get_or l i 0)) (one_more last l i in_row) v.0 v.1 v.2)

pub returns : goal.returns
returns c =
    let l = c.args.lags in
    let none = none_left c.loop-lag.last l c.loop-lag.lag-index (omega arith) in
    let q = same c.loop-lag.invariant.2 in
    omega (zarith, plus (to_z w16 c.loop-lag.count-bits) (pos (lagcount_of c.loop-lag.last (drop c.loop-lag.lag-index l))))
