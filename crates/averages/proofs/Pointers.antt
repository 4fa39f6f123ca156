-- The pointers into the histories: a pointer is at most the last, and it moves from one multiple of nine to another. So in a valid state the clause
-- reads and stores where they stand. Assumes nothing.
use mathlib.Core.Path.{◌≡◌}
use mathlib.Core.List.{List}
use Prim.Native.Nat.{ℕ, ◌+◌, ◌%◌, ◌≤◌}
use native.Mathlib.Omega.{arith}
use lib.Dec.{eqb}
use borrow.Author.Tests.{le-leb, eqb-false}
use lib.IntN.{ℤ}
use Rattle.rows.specs.Rows.{row}
use Rattle.rows.proofs.Choice.{by_yes, by_test}
use Rattle.averages.specs.declared.Averages.{Averages}
use Rattle.averages.specs.Averages.{LAST_SACF, LAST_SAV0, inside, l_temp_of, l_av0_of, stored_of, l_av1_of, next_of, average_of}

pub inside_is : (last pt : ℕ) → pt ≤ last → inside last pt ≡ pt
unfolding inside
inside_is last pt h = by_yes pt 0 (le-leb pt last h)

-- a pointer names a frame of a history whose last frame is at `last`
pub record Pointer (last pt : ℕ) : Type 0 where
  pub within : pt ≤ last
  pub nines : pt % 9 ≡ 0

pub next_pointer : (last pt : ℕ) → last % 9 ≡ 0 → Pointer last pt → Pointer last (next_of last pt)
unfolding next_of
next_pointer last pt h f =
    by_test (Pointer last) (eqb pt last) 0 (pt + 9) (λ t. record { within = omega arith; nines = omega arith })
    (λ t. let n = eqb-false pt last t in record { within = omega (arith, f.within, f.nines); nines = omega (arith, f.nines) })

-- the whole clause, where both pointers are inside already, from L_temp, which it stores
abbrev pub averages_by : List ℤ → List ℤ → ℕ → List ℤ → ℕ → Averages
averages_by l_temp l_sacf pt_sacf l_sav0 pt_sav0 =
    let l_av0 = row 9 (l_av0_of l_sacf l_temp) in
    record {
      av0 = l_av0;
      av1 = row 9 (l_av1_of l_sav0 pt_sav0);
      sacf = stored_of l_sacf pt_sacf l_temp;
      ptsacf = next_of LAST_SACF pt_sacf;
      sav0 = stored_of l_sav0 pt_sav0 l_av0;
      ptsav0 = next_of LAST_SAV0 pt_sav0;
    }

pub average_inside : (l_acf : List ℤ) (scalvad : ℤ) (l_sacf : List ℤ) (pt_sacf : ℕ) (l_sav0 : List ℤ) (pt_sav0 : ℕ) → pt_sacf ≤ LAST_SACF → pt_sav0 ≤ LAST_SAV0
    → average_of l_acf scalvad l_sacf pt_sacf l_sav0 pt_sav0 ≡ averages_by (row 9 (l_temp_of l_acf scalvad)) l_sacf pt_sacf l_sav0 pt_sav0
unfolding average_of
average_inside l_acf scalvad l_sacf pt_sacf l_sav0 pt_sav0 p q = rw (inside_is LAST_SACF pt_sacf p, inside_is LAST_SAV0 pt_sav0 q)
