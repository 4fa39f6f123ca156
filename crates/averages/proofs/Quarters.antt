-- Quarters: what the test of one says, and that the four which are added at one index need no clip. Assumes nothing.
use mathlib.Core.Path.{◌≡◌, ap, ◌∙◌}
use mathlib.Core.Bool.{true}
use mathlib.Core.List.{List}
use Prim.Native.Nat.{ℕ, ◌+◌, ◌<◌}
use native.Mathlib.Omega.{arith}
use lib.IntN.{ℤ, pos, negsuc, ◌+ℤ◌}
use lib.Signed.{◌≤ℤ◌}
use lib.ListN.{length}
use mir.Syntax.{w32}
use mir.Val.{SFits}
use Rattle.numbers.specs.Sum.{at}
use Rattle.numbers.proofs.Parts.{zarith, plus}
use Rattle.operations.specs.Operations.{l_add}
use Rattle.operations.proofs.Laws.{l_add_exact}
use Rattle.rows.specs.Rows.{all}
use Rattle.rows.proofs.Choice.{within_ends}
use Rattle.rows.proofs.All.{all_at}
use Rattle.averages.specs.Averages.{l_av0_of}
use Rattle.averages.specs.Quarters.{quarter}

abbrev pub Quarter : ℤ → Type 0
Quarter z = (negsuc 536870911 ≤ℤ z) × (z ≤ℤ pos 536870911)

quarter_at : (l : List ℤ) → all quarter l ≡ true → (k : ℕ) → k < length l → Quarter (at l k)
unfolding quarter
quarter_at l e k h = within_ends (negsuc 536870911) (pos 536870911) (at l k) (all_at quarter l k (pos 0) e h)

-- ---- the four numbers that are added at the index i
pub record Four (h f : List ℤ) (i : ℕ) : Type 0 where
  pub first : Quarter (at h i)
  pub second : Quarter (at h (i + 9))
  pub third : Quarter (at h (i + 18))
  pub new : Quarter (at f i)

module _ (h f : List ℤ) (i : ℕ) (q : Four h f i) where
  abbrev two : ℤ
  two = at h i +ℤ at f i

  abbrev three : ℤ
  three = at h (i + 9) +ℤ two

  two_fits : SFits w32 (at h i +ℤ at f i)
  two_fits = omega (zarith, q.first, q.new, plus (at h i) (at f i))

  three_fits : SFits w32 (at h (i + 9) +ℤ (at h i +ℤ at f i))
  three_fits = omega (zarith, q.first, q.second, q.new, plus (at h i) (at f i), plus (at h (i + 9)) two)

  four_fits : SFits w32 (at h (i + 18) +ℤ (at h (i + 9) +ℤ (at h i +ℤ at f i)))
  four_fits = omega (zarith, q.first, q.second, q.third, q.new, plus (at h i) (at f i), plus (at h (i + 9)) two, plus (at h (i + 18)) three)

  -- none of the three sums is clipped
  pub av0_exact : l_av0_of h f i ≡ at h (i + 18) +ℤ (at h (i + 9) +ℤ (at h i +ℤ at f i))
  unfolding l_av0_of
  av0_exact =
      ap (λ (t : ℤ). l_add (at h (i + 18)) (l_add (at h (i + 9)) t)) (l_add_exact (at h i) (at f i) two_fits)
      ∙ ap (l_add (at h (i + 18))) (l_add_exact (at h (i + 9)) two three_fits)
      ∙ l_add_exact (at h (i + 18)) three four_fits

-- ---- of three frames and one more, all quarters
pub four_at : (h f : List ℤ) → length h ≡ 27 → length f ≡ 9 → all quarter h ≡ true → all quarter f ≡ true → (i : ℕ) → i < 9 → Four h f i
four_at h f n m s t i l =
    record {
      first = quarter_at h s i (omega (arith, n));
      second = quarter_at h s (i + 9) (omega (arith, n));
      third = quarter_at h s (i + 18) (omega (arith, n));
      new = quarter_at f t i (omega (arith, m));
    }
