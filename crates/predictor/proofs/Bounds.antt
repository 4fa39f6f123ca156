-- What clause 6.3 hands on, whatever the averages are: a filter with a positive first entry of 15 bits, the others' magnitudes at most four times
-- it and 11, and a norm from 2 to 9. Assumes nothing.
use mathlib.Core.Path.{◌≡◌, sym, ap, ◌∙◌, subst}
use mathlib.Core.List.{List}
use Prim.Native.Nat.{ℕ, suc, ◌+◌, ◌*◌, ◌/◌, ◌^◌, ◌<◌, ◌≤◌}
use native.Mathlib.Nat.{mul-le-mul_right, le_refl}
use native.Mathlib.Omega.{arith}
use lib.IntN.{ℤ, nat_abs, pos, ◌*ℤ◌}
use lib.ListN.{length}
use lib.Signed.{shr_z, ◌≤ℤ◌}
use mir.Syntax.{w32}
use Rattle.numbers.specs.Sum.{total, at}
use Rattle.numbers.proofs.Parts.{zarith, same}
use Rattle.numbers.proofs.Magnitude.{abs-*, abs_fits}
use Rattle.numbers.proofs.Floor.{floor_abs}
use Rattle.numbers.proofs.Sum.{total_le}
use Rattle.operations.specs.Operations.{shift_right, ◌<<◌, ◌>>◌}
use Rattle.operations.proofs.Laws.{left_exact}
use Rattle.rows.specs.Rows.{row}
use Rattle.rows.proofs.Fill.{length_row, row_at}
use Rattle.predictor.specs.Schur.{vpar_of}
use Rattle.predictor.specs.StepUp.{aav1_of}
use Rattle.predictor.specs.Filter.{l_work_of, whitened_of, predicted_of}
use Rattle.predictor.specs.declared.Filter.{Filter}
use Rattle.predictor.proofs.Predictor.{aav1_first, aav1_small}
use Rattle.numbers.proofs.Scale.{total_8}
use Rattle.predictor.proofs.Autocorrelation.{S, r, work_first, work_le, work_rest, norm_is, norm_in, first_scaled}

pub record Whitening (f : Filter) : Type 0 where
  pub lo : pos 16384 ≤ℤ at f.rav1 0
  pub hi : at f.rav1 0 ≤ℤ pos 32767
  pub rest : total 8 (λ k. nat_abs (at f.rav1 (suc k))) ≤ 4 * nat_abs (at f.rav1 0) + 11
  pub norm_lo : pos 2 ≤ℤ f.normrav1
  pub norm_hi : f.normrav1 ≤ℤ pos 9
  pub nine : length f.rav1 ≡ 9

-- ---- ( x << n ) >> 16, where the shift to the left loses nothing
module _ (x : ℤ) (n : ℕ) (h : nat_abs x * 2 ^ n < 2 ^ 31) where
  pub top_exact : (x << pos n >> pos 16) ≡ shr_z (x *ℤ pos (2 ^ n)) 65536
  unfolding shift_right
  top_exact = ap (λ (z : ℤ). shr_z z 65536) (left_exact w32 x n (abs_fits w32 (x *ℤ pos (2 ^ n)) (omega (arith, abs-* x (pos (2 ^ n))))))

  -- the floor costs less than one
  pub top_le : 65536 * nat_abs (x << pos n >> pos 16) ≤ nat_abs x * 2 ^ n + 65535
  top_le = rw top_exact (omega (arith, abs-* x (pos (2 ^ n)), floor_abs (x *ℤ pos (2 ^ n)) 65535))

-- ---- rav1, from any predictor whose first entry is 1024 and whose entries are within 4096 of 0
module _ (a : List ℤ) (first : at a 0 ≡ pos 1024) (small : (k : ℕ) → nat_abs (at a k) ≤ 4096) where
  abbrev s : ℕ
  s = S a first small

  abbrev n : ℕ
  n = r a first small

  abbrev rav : ℕ → ℤ
  rav i = l_work_of a i << pos n >> pos 16

  room : (i : ℕ) → i ≤ 9 → nat_abs (l_work_of a i) * 2 ^ n < 2 ^ 31
  room i h = omega (arith, first_scaled a first small, mul-le-mul_right (2 ^ n) (work_le a first small i h))

  rav_le : (i : ℕ) → i ≤ 9 → 65536 * nat_abs (rav i) ≤ nat_abs (l_work_of a i) * 2 ^ n + 65535
  rav_le i h = top_le (l_work_of a i) n (room i h)

  rav_first : rav 0 ≡ pos (2 * s * 2 ^ n / 65536)
  rav_first = top_exact (l_work_of a 0) n (room 0 (omega arith)) ∙ ap (λ (z : ℤ). shr_z (z *ℤ pos (2 ^ n)) 65536) (work_first a first small)

  rav_rest : total 8 (λ k. nat_abs (rav (suc k))) ≤ 4 * nat_abs (rav 0) + 11
  rav_rest =
      rw rav_first (omega (
        arith,
        first_scaled a first small,
        total_8 (λ k. nat_abs (rav (suc k))),
        total_8 (λ k. nat_abs (l_work_of a (suc k))),
        mul-le-mul_right (2 ^ n) (work_rest a first small),
        ap (λ (m : ℕ). m * 2 ^ n) (total_8 (λ k. nat_abs (l_work_of a (suc k)))),
        rav_le 1 (omega arith),
        rav_le 2 (omega arith),
        rav_le 3 (omega arith),
        rav_le 4 (omega arith),
        rav_le 5 (omega arith),
        rav_le 6 (omega arith),
        rav_le 7 (omega arith),
        rav_le 8 (omega arith),
      ))

  -- the definition's norm, as the number that it is
  is : whitened_of a ≡ record { rav1 = row 9 rav; normrav1 = pos n }
  unfolding whitened_of
  is = ap (λ (z : ℤ). record { rav1 = row 9 (λ i. l_work_of a i << z >> pos 16); normrav1 = z }) (norm_is a first small)

  pub whitened_whitening : Whitening (whitened_of a)
  whitened_whitening =
      let z : at (row 9 rav) 0 ≡ rav 0 = row_at 9 rav 0 (pos 0) (omega arith) in
      let e = same (z ∙ rav_first) in
      let i = first_scaled a first small in
      let j = norm_in a first small in
      let each : total 8 (λ k. nat_abs (at (row 9 rav) (suc k))) ≤ total 8 (λ k. nat_abs (rav (suc k))) =
      total_le 8 _ _ (λ k l. subst (λ (y : ℤ). nat_abs y ≤ nat_abs (rav (suc k))) (sym (row_at 9 rav (suc k) (pos 0) (omega arith))) (le_refl (nat_abs (rav (suc k))))) in
      subst Whitening (sym is) (record {
        lo = omega (zarith, e, i);
        hi = omega (zarith, e, i);
        rest = omega (arith, each, rav_rest, ap nat_abs z);
        norm_lo = omega (zarith, j);
        norm_hi = omega (zarith, j);
        nine = length_row 9 rav;
      })

-- ---- the whole clause
pub predicted_whitening : (l_av1 : List ℤ) → Whitening (predicted_of l_av1)
unfolding predicted_of
predicted_whitening l_av1 = whitened_whitening (row 9 (aav1_of (vpar_of l_av1))) (aav1_first (vpar_of l_av1)) (aav1_small (vpar_of l_av1))
