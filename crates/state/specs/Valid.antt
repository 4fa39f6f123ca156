-- When a state is valid (document 01, 'One frame'): as a test that computes, in the paper's order, and as a record of named facts.
-- `proofs/Facts.antt` shows that the two agree. Then the state after a reset. Assumes nothing.
use Rattle.std.specs.Prelude.{◌≡◌, Bool, false, ◌&&◌, List, [], ◌∷◌, ℕ, suc, ◌+◌, ◌*◌, ◌%◌, ◌≤◌, leb, eqb, ℤ, nat_abs, pos, neg_ℤ, length, ◌≤ℤ◌}
use Rattle.std.specs.Int.Signed.{le_z}
use Rattle.numbers.specs.Sum.{at, total}
use Rattle.rows.specs.Choice.{within}
use Rattle.rows.specs.Rows.{row, all}
use Rattle.pairs.specs.declared.Pair.{Pair}
use Rattle.pairs.specs.Pairs.{pair}
use Rattle.lags.specs.Lags.{lag_ok}
use Rattle.state.specs.declared.State.{State}

-- "pointers are 0, 9, 18 (and 27 for the second)"
unfoldable pub pointer_ok : ℕ → ℕ → Bool
pointer_ok last pt = leb pt last && eqb (pt % 9) 0

-- "L_sacf entries are -536870912..536870911, and those at 0, 9, 18 not negative"
unfoldable pub sacf_within : List ℤ → Bool
sacf_within l = all (within (neg_ℤ (pos 536870912)) (pos 536870911)) l

unfoldable pub sacf_ok : List ℤ → Bool
sacf_ok l = le_z (pos 0) (at l 0) && (le_z (pos 0) (at l 9) && (le_z (pos 0) (at l 18) && sacf_within l))

-- "L_sav0 entries at 0, 9, 18, 27 are not negative, the others any"
unfoldable pub sav0_ok : List ℤ → Bool
sav0_ok l = le_z (pos 0) (at l 0) && (le_z (pos 0) (at l 9) && (le_z (pos 0) (at l 18) && le_z (pos 0) (at l 27)))

-- "rvad[0] is 16384..32767; the magnitudes of rvad[1..8] sum to at most 4·rvad[0] + 11"
unfoldable pub weight_of : List ℤ → ℕ
weight_of r = total 8 (λ k. nat_abs (at r (suc k)))

unfoldable pub rvad_ok : List ℤ → Bool
rvad_ok r = within (pos 16384) (pos 32767) (at r 0) && leb (weight_of r) (4 * nat_abs (at r 0) + 11)

-- "threshold mantissa 16384..32767 and exponent -32..64"
unfoldable pub thvad_ok : Pair → Bool
thvad_ok t = within (pos 16384) (pos 32767) t.m && within (neg_ℤ (pos 32)) (pos 64) t.e

-- "adaptcount 0..9; burstcount 0..3; hangcount -1..5; lag counts 0..4; last lag 40..120"
unfoldable pub counts_ok : State → Bool
counts_ok s =
    within (pos 0) (pos 9) s.adaptcount
    && (within (pos 0) (pos 3) s.burstcount
    && (within (neg_ℤ (pos 1)) (pos 5) s.hangcount
    && (within (pos 0) (pos 4) s.oldlagcount && (within (pos 0) (pos 4) s.veryoldlagcount && lag_ok s.oldlag))))

unfoldable pub valid_of : State → Bool
valid_of s =
    pointer_ok 18 s.ptsacf
    && (pointer_ok 27 s.ptsav0
    && (sacf_ok s.sacf
    && (sav0_ok s.sav0 && (rvad_ok s.rvad && (within (pos 2) (pos 9) s.normrvad && (thvad_ok s.thvad && counts_ok s))))))

-- ---- the same as facts, by name
pub record Between (lo hi z : ℤ) : Type 0 where
  pub from : lo ≤ℤ z
  pub to : z ≤ℤ hi

pub record Valid (s : State) : Type 0 where
  pub ptsacf_last : s.ptsacf ≤ 18
  pub ptsacf_nines : s.ptsacf % 9 ≡ 0
  pub ptsav0_last : s.ptsav0 ≤ 27
  pub ptsav0_nines : s.ptsav0 % 9 ≡ 0
  pub sacf_first : (pos 0 ≤ℤ at s.sacf 0) × (pos 0 ≤ℤ at s.sacf 9) × (pos 0 ≤ℤ at s.sacf 18)
  pub sacf_each : (k : ℕ) → Between (neg_ℤ (pos 536870912)) (pos 536870911) (at s.sacf k)
  pub sav0_first : (pos 0 ≤ℤ at s.sav0 0) × (pos 0 ≤ℤ at s.sav0 9) × (pos 0 ≤ℤ at s.sav0 18) × (pos 0 ≤ℤ at s.sav0 27)
  pub rvad_first : Between (pos 16384) (pos 32767) (at s.rvad 0)
  pub rvad_weight : weight_of s.rvad ≤ 4 * nat_abs (at s.rvad 0) + 11
  pub normrvad : Between (pos 2) (pos 9) s.normrvad
  pub mantissa : Between (pos 16384) (pos 32767) s.thvad.m
  pub exponent : Between (neg_ℤ (pos 32)) (pos 64) s.thvad.e
  pub adaptcount : Between (pos 0) (pos 9) s.adaptcount
  pub burstcount : Between (pos 0) (pos 3) s.burstcount
  pub hangcount : Between (neg_ℤ (pos 1)) (pos 5) s.hangcount
  pub oldlagcount : Between (pos 0) (pos 4) s.oldlagcount
  pub veryoldlagcount : Between (pos 0) (pos 4) s.veryoldlagcount
  pub oldlag : (40 ≤ s.oldlag) × (s.oldlag ≤ 120)

-- what the type State says by itself: how many entries its arrays have
pub record Shaped (s : State) : Type 0 where
  pub rvad : length s.rvad ≡ 9
  pub sacf : length s.sacf ≡ 27
  pub sav0 : length s.sav0 ≡ 36

-- ---- reset (document 01; clause 6, table 3.1)
unfoldable pub reset_of : State
reset_of =
    record {
      rvad = pos 24576 ∷ neg_ℤ (pos 16384) ∷ pos 4096 ∷ pos 0 ∷ pos 0 ∷ pos 0 ∷ pos 0 ∷ pos 0 ∷ pos 0 ∷ [];
      normrvad = pos 7;
      sacf = row 27 (λ i. pos 0);
      ptsacf = 0;
      sav0 = row 36 (λ i. pos 0);
      ptsav0 = 0;
      lastdm = pos 0;
      thvad = pair (pos 20) (pos 31250);
      adaptcount = pos 0;
      burstcount = pos 0;
      hangcount = neg_ℤ (pos 1);
      oldlagcount = pos 0;
      veryoldlagcount = pos 0;
      oldlag = 40;
      tone = false;
    }
