-- Clause 6.2 keeps the histories: the entries of `l_sacf` stay in -2^29..2^29-1, so that no sum of four is clipped, and the first entry of
-- each frame is not negative. Assumes nothing.
use mathlib.Core.Path.{◌≡◌, sym, ap, ◌∙◌, subst}
use mathlib.Core.List.{List}
use Prim.Native.Nat.{ℕ, ◌+◌, ◌-◌, ◌*◌, ◌/◌, ◌%◌, ◌^◌, ◌<◌, ◌≤◌}
use native.Mathlib.Nat.{mul-le-mul_left, div-add-mod'}
use native.Mathlib.Omega.{arith}
use lib.Dec.{eqb}
use borrow.Author.Tests.{eqb-true, eqb-false}
use lib.IntN.{ℤ, pos, negsuc, ◌+ℤ◌, ◌*ℤ◌}
use lib.ListN.{length, get_or-eq_default}
use lib.Pow.{pow_mono}
use lib.Signed.{mag, shr_z, ◌≤ℤ◌}
use mir.Syntax.{w16, w32}
use mir.Val.{SFits}
use Rattle.numbers.specs.Sum.{at}
use Rattle.numbers.proofs.Parts.{up, zarith, plus, minus, times, of, sign}
use Rattle.numbers.proofs.Floor.{floor_mag}
use Rattle.operations.specs.Operations.{sub, shift_right, ◌<<ₛ◌}
use Rattle.operations.proofs.Laws.{sub_exact, left_exact}
use Rattle.rows.specs.Rows.{row}
use Rattle.rows.proofs.Choice.{either}
use Rattle.rows.proofs.Fill.{length_row, row_at}
use Rattle.averages.specs.declared.Averages.{Averages}
use Rattle.averages.specs.Averages.{l_temp_of, l_av0_of, l_av1_of, stored_of, average_of}
use Rattle.averages.proofs.Quarters.{Quarter, Four, av0_exact}
use Rattle.averages.proofs.Pointers.{Pointer, next_pointer, average_inside}
use Rattle.averages.proofs.Stored.{stored_length, stored_each}

-- ---- what is kept
-- the first entry of each frame is not negative (past the end an entry counts as 0)
abbrev pub Firsts : List ℤ → Type 0
Firsts h = (k : ℕ) → k % 9 ≡ 0 → pos 0 ≤ℤ at h k

pub record Kept27 (h : List ℤ) : Type 0 where
  pub size : length h ≡ 27
  pub each : (k : ℕ) → Quarter (at h k)
  pub firsts : Firsts h

pub record Kept36 (h : List ℤ) : Type 0 where
  pub size : length h ≡ 36
  pub firsts : Firsts h

-- the first entries, one by one, are enough
module _ (h : List ℤ) (k : ℕ) where
  past : length h ≤ k → pos 0 ≤ℤ at h k
  past l = subst (λ (z : ℤ). pos 0 ≤ℤ z) (sym (get_or-eq_default h (pos 0) l)) (omega zarith)

  either_at : (n : ℕ) → pos 0 ≤ℤ at h n → ((k ≡ n → ⊥) → pos 0 ≤ℤ at h k) → pos 0 ≤ℤ at h k
  either_at n here elsewhere =
      either (pos 0 ≤ℤ at h k) (eqb k n) (λ t. subst (λ (j : ℕ). pos 0 ≤ℤ at h j) (sym (eqb-true k n t)) here) (λ t. elsewhere (eqb-false k n t))

pub kept27 : (h : List ℤ) → length h ≡ 27 → ((k : ℕ) → Quarter (at h k)) → pos 0 ≤ℤ at h 0 → pos 0 ≤ℤ at h 9 → pos 0 ≤ℤ at h 18 → Kept27 h
kept27 h n e a b c =
    record {
      size = n;
      each = e;
      firsts = λ k m. either_at h k 0 a (λ x. either_at h k 9 b (λ y. either_at h k 18 c (λ z. past h k (omega arith))));
    }

pub kept36 : (h : List ℤ) → length h ≡ 36 → pos 0 ≤ℤ at h 0 → pos 0 ≤ℤ at h 9 → pos 0 ≤ℤ at h 18 → pos 0 ≤ℤ at h 27 → Kept36 h
kept36 h n a b c d =
    record {
      size = n;
      firsts = λ k m. either_at h k 0 a (λ x. either_at h k 9 b (λ y. either_at h k 18 c (λ z. either_at h k 27 d (λ w. past h k (omega arith)))));
    }

-- the frame that comes in
pub record Incoming (l_acf : List ℤ) (scalvad : ℤ) : Type 0 where
  pub fits : (k : ℕ) → SFits w32 (at l_acf k)
  pub first : pos 0 ≤ℤ at l_acf 0
  pub least : pos 0 ≤ℤ scalvad
  pub most : scalvad ≤ℤ pos 4

-- ---- a shift by two places or more
module _ (x : ℤ) (n : ℕ) where
  pub down_in : 2 ≤ n → SFits w32 x → Quarter (shr_z x (2 ^ n))
  down_in h f =
      let z = shr_z x (2 ^ n) in
      let a = floor_mag x (2 ^ n) in
      let b = div-add-mod' (mag x) (2 ^ n) in
      let c = mul-le-mul_left (mag x / 2 ^ n) (pow_mono h) in
      let d : mag z < 2 ^ 29 = omega (arith, f.sfits) in
      (omega (zarith, of z), omega (zarith, of z))

  pub down_first : pos 0 ≤ℤ x → pos 0 ≤ℤ shr_z x (2 ^ n)
  down_first h = by x h
    where
      by : (z : ℤ) → pos 0 ≤ℤ z → pos 0 ≤ℤ shr_z z (2 ^ n)
      by (pos m) g = omega zarith
      by (negsuc m) g = absurd (omega zarith)

-- ---- the scaled frame: the amount is 10 - 2 scalvad, which is 2 or more
abbrev pub scal : ℤ → ℕ
scal scalvad = 10 - 2 * up scalvad

module _ (l_acf : List ℤ) (scalvad : ℤ) (g : Incoming l_acf scalvad) where
  scal_is : sub (pos 10) (scalvad <<ₛ pos 1) ≡ pos (scal scalvad)
  scal_is =
      let d = scalvad *ℤ pos 2 in
      let t = times scalvad (pos 2) in
      let l = g.least in
      let m = g.most in
      let e : scalvad <<ₛ pos 1 ≡ d = left_exact w16 scalvad 1 (omega (zarith, of d)) in
      ap (sub (pos 10)) e ∙ sub_exact (pos 10) d (omega (zarith, minus (pos 10) d)) ∙ omega (zarith, minus (pos 10) d, sign scalvad)

  pub temp_is : (i : ℕ) → l_temp_of l_acf scalvad i ≡ shr_z (at l_acf i) (2 ^ scal scalvad)
  unfolding l_temp_of shift_right
  temp_is i = ap (shift_right w32 (at l_acf i)) scal_is

  pub temp_in : (i : ℕ) → Quarter (l_temp_of l_acf scalvad i)
  temp_in i = subst Quarter (sym (temp_is i)) (down_in (at l_acf i) (scal scalvad) (omega (zarith, sign scalvad, g.least, g.most)) (g.fits i))

  pub temp_first : pos 0 ≤ℤ l_temp_of l_acf scalvad 0
  temp_first = subst (λ (z : ℤ). pos 0 ≤ℤ z) (sym (temp_is 0)) (down_first (at l_acf 0) (scal scalvad) g.first)

-- ---- the sums of four: none is clipped
pub av0_first : (h f : List ℤ) (i : ℕ) → Four h f i → pos 0 ≤ℤ at h i → pos 0 ≤ℤ at h (i + 9) → pos 0 ≤ℤ at h (i + 18) → pos 0 ≤ℤ at f i → pos 0 ≤ℤ l_av0_of h f i
av0_first h f i q a b c d =
    let x = at h i +ℤ at f i in
    let y = at h (i + 9) +ℤ x in
    rw (av0_exact h f i q) (omega (zarith, plus (at h i) (at f i), plus (at h (i + 9)) x, plus (at h (i + 18)) y))

-- ---- a frame stored at a multiple of nine
module _ (h : List ℤ) (q : ℕ) (f : List ℤ) (room : q + 9 ≤ length h) (nines : q % 9 ≡ 0) (nine : length f ≡ 9) where
  pub stored_firsts : Firsts h → pos 0 ≤ℤ at f 0 → Firsts (stored_of h q f)
  stored_firsts old new =
      stored_each h q f room nine (λ (k : ℕ) (z : ℤ). k % 9 ≡ 0 → pos 0 ≤ℤ z) old
      (λ j l e. let z : j ≡ 0 = omega arith in subst (λ (n : ℕ). pos 0 ≤ℤ at f n) (sym z) new)

-- ---- the whole clause
pub record Averaged (r : Averages) : Type 0 where
  pub av0_size : length r.av0 ≡ 9
  pub av0_first : pos 0 ≤ℤ at r.av0 0
  pub av1_size : length r.av1 ≡ 9
  pub av1_first : pos 0 ≤ℤ at r.av1 0
  pub sacf_kept : Kept27 r.sacf
  pub ptsacf_kept : Pointer 18 r.ptsacf
  pub sav0_kept : Kept36 r.sav0
  pub ptsav0_kept : Pointer 27 r.ptsav0

module _ (l_acf : List ℤ) (scalvad : ℤ) (l_sacf : List ℤ) (pt_sacf : ℕ) (l_sav0 : List ℤ) (pt_sav0 : ℕ)
    (g : Incoming l_acf scalvad) (h : Kept27 l_sacf) (p : Pointer 18 pt_sacf) (k : Kept36 l_sav0) (q : Pointer 27 pt_sav0) where
  abbrev l_temp : List ℤ
  l_temp = row 9 (l_temp_of l_acf scalvad)

  abbrev l_av0 : List ℤ
  l_av0 = row 9 (l_av0_of l_sacf l_temp)

  abbrev l_av1 : List ℤ
  l_av1 = row 9 (l_av1_of l_sav0 pt_sav0)

  temp_at : (i : ℕ) → i < 9 → at l_temp i ≡ l_temp_of l_acf scalvad i
  temp_at i l = row_at 9 (l_temp_of l_acf scalvad) i (pos 0) l

  frame_in : (i : ℕ) → i < 9 → Quarter (at l_temp i)
  frame_in i l = subst Quarter (sym (temp_at i l)) (temp_in l_acf scalvad g i)

  four : (i : ℕ) → i < 9 → Four l_sacf l_temp i
  four i l = record { first = h.each i; second = h.each (i + 9); third = h.each (i + 18); new = frame_in i l }

  frame_first : pos 0 ≤ℤ at l_temp 0
  frame_first = subst (λ (z : ℤ). pos 0 ≤ℤ z) (sym (temp_at 0 (omega arith))) (temp_first l_acf scalvad g)

  sum_first : pos 0 ≤ℤ at l_av0 0
  sum_first =
      subst (λ (z : ℤ). pos 0 ≤ℤ z) (sym (row_at 9 (l_av0_of l_sacf l_temp) 0 (pos 0) (omega arith)))
      (av0_first l_sacf l_temp 0 (four 0 (omega arith)) (h.firsts 0 (omega arith)) (h.firsts 9 (omega arith)) (h.firsts 18 (omega arith)) frame_first)

  old_first : pos 0 ≤ℤ at l_av1 0
  unfolding l_av1_of
  old_first =
      subst (λ (z : ℤ). pos 0 ≤ℤ z) (sym (row_at 9 (l_av1_of l_sav0 pt_sav0) 0 (pos 0) (omega arith))) (k.firsts (pt_sav0 + 0) (omega (arith, q.nines)))

  pub average_keeps : Averaged (average_of l_acf scalvad l_sacf pt_sacf l_sav0 pt_sav0)
  average_keeps =
      let r27 : pt_sacf + 9 ≤ length l_sacf = omega (arith, p.within, h.size) in
      let r36 : pt_sav0 + 9 ≤ length l_sav0 = omega (arith, q.within, k.size) in
      let n27 = length_row 9 (l_temp_of l_acf scalvad) in
      let n36 = length_row 9 (l_av0_of l_sacf l_temp) in
      subst Averaged (sym (average_inside l_acf scalvad l_sacf pt_sacf l_sav0 pt_sav0 p.within q.within))
      (record {
        av0_size = n36;
        av0_first = sum_first;
        av1_size = length_row 9 (l_av1_of l_sav0 pt_sav0);
        av1_first = old_first;
        sacf_kept = record {
          size = stored_length l_sacf pt_sacf l_temp r27 n27 ∙ h.size;
          each = stored_each l_sacf pt_sacf l_temp r27 n27 (λ (i : ℕ) (z : ℤ). Quarter z) h.each frame_in;
          firsts = stored_firsts l_sacf pt_sacf l_temp r27 p.nines n27 h.firsts frame_first;
        };
        ptsacf_kept = next_pointer 18 pt_sacf (omega arith) p;
        sav0_kept = record {
          size = stored_length l_sav0 pt_sav0 l_av0 r36 n36 ∙ k.size;
          firsts = stored_firsts l_sav0 pt_sav0 l_av0 r36 q.nines n36 k.firsts sum_first;
        };
        ptsav0_kept = next_pointer 27 pt_sav0 (omega arith) q;
      })

  -- each average is the exact sum of the new frame and the three before it
  pub average_exact : (i : ℕ) → i < 9 → at (average_of l_acf scalvad l_sacf pt_sacf l_sav0 pt_sav0).av0 i
      ≡ at l_sacf (i + 18) +ℤ (at l_sacf (i + 9) +ℤ (at l_sacf i +ℤ l_temp_of l_acf scalvad i))
  average_exact i l =
      ap (λ (r : Averages). at r.av0 i) (average_inside l_acf scalvad l_sacf pt_sacf l_sav0 pt_sav0 p.within q.within)
      ∙ row_at 9 (l_av0_of l_sacf l_temp) i (pos 0) l
      ∙ av0_exact l_sacf l_temp i (four i l)
      ∙ ap (λ (z : ℤ). at l_sacf (i + 18) +ℤ (at l_sacf (i + 9) +ℤ (at l_sacf i +ℤ z))) (temp_at i l)
