-- Clause 6.2, ACF averaging, line by line. `l_sacf` is the history of three frames, `l_sav0` that of four averages; a pointer names the
-- nine entries that are the oldest. The clause stores in the loop that sums; at a multiple of nine, as a valid state's pointers are, a store
-- touches only the column that was just read, so here the sums are of the history as it was. Assumes nothing.
use Rattle.std.specs.Prelude.{List, ◌++◌, ℕ, ◌+◌, leb, eqb, ℤ, pos, take, drop}
use Rattle.numbers.specs.Sum.{at}
use Rattle.operations.specs.Operations.{sub, l_add, ◌>>◌, ◌<<ₛ◌}
use Rattle.rows.specs.Choice.{IF◌THEN◌ELSE◌}
use Rattle.rows.specs.Rows.{row}
use Rattle.averages.specs.declared.Averages.{Averages}

-- the pointers of the last frame of each history
abbrev pub LAST_SACF : ℕ
LAST_SACF = 18

abbrev pub LAST_SAV0 : ℕ
LAST_SAV0 = 27

-- a pointer past the last frame, which no valid state has, counts as 0, so that every answer is defined
unfoldable pub inside : ℕ → ℕ → ℕ
inside last pt = IF leb pt last THEN pt ELSE 0

-- `scal = sub( 10, (scalvad << 1) ); L_temp = L_ACF[i] >> scal`
unfoldable pub l_temp_of : List ℤ → ℤ → ℕ → ℤ
l_temp_of l_acf scalvad i = at l_acf i >> sub (pos 10) (scalvad <<ₛ pos 1)

-- `L_av0[i] = L_add( L_sacf[i], L_temp ); L_av0[i] = L_add( L_sacf[i+9], L_av0[i] ); L_av0[i] = L_add( L_sacf[i+18], L_av0[i] )`
unfoldable pub l_av0_of : List ℤ → List ℤ → ℕ → ℤ
l_av0_of l_sacf l_temp i = l_add (at l_sacf (i + 18)) (l_add (at l_sacf (i + 9)) (l_add (at l_sacf i) (at l_temp i)))

-- `FOR i = 0 to 8: history[ pt + i ] = frame[i]`
unfoldable pub stored_of : List ℤ → ℕ → List ℤ → List ℤ
stored_of history pt frame = take pt history ++ frame ++ drop (pt + 9) history

-- `L_av1[i] = L_sav0[ pt_sav0 + i ]`
unfoldable pub l_av1_of : List ℤ → ℕ → ℕ → ℤ
l_av1_of l_sav0 pt i = at l_sav0 (pt + i)

-- `IF ( pt == last ) THEN pt = 0; ELSE pt = add( pt, 9 )`
unfoldable pub next_of : ℕ → ℕ → ℕ
next_of last pt = IF eqb pt last THEN 0 ELSE pt + 9

-- the whole clause
unfoldable pub average_of : List ℤ → ℤ → List ℤ → ℕ → List ℤ → ℕ → Averages
average_of l_acf scalvad l_sacf pt_sacf l_sav0 pt_sav0 =
    let p = inside LAST_SACF pt_sacf in
    let q = inside LAST_SAV0 pt_sav0 in
    let l_temp = row 9 (l_temp_of l_acf scalvad) in
    let l_av0 = row 9 (l_av0_of l_sacf l_temp) in
    record {
      av0 = l_av0;
      av1 = row 9 (l_av1_of l_sav0 q);
      sacf = stored_of l_sacf p l_temp;
      ptsacf = next_of LAST_SACF p;
      sav0 = stored_of l_sav0 q l_av0;
      ptsav0 = next_of LAST_SAV0 q;
    }
