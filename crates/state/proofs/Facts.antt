-- A state passes the test of validity exactly when the facts of validity hold of it; and a state after a reset is valid. Assumes nothing.
use mathlib.Core.Path.{◌≡◌, refl, sym, subst}
use mathlib.Core.Bool.{Bool, true, ◌&&◌}
use mathlib.Core.List.{List}
use Prim.Native.Nat.{ℕ, ◌+◌, ◌*◌, ◌%◌, ◌≤◌}
use lib.Dec.{leb, eqb, ltb}
use borrow.Author.Tests.{leb-true, le-leb, eqb-true, eq-eqb, ltb-true, ltb-false}
use lib.IntN.{ℤ, nat_abs, pos, negsuc}
use lib.ListN.{length, get_or-eq_default}
use lib.Signed.{le_z, ◌≤ℤ◌}
use Rattle.numbers.specs.Sum.{at, total}
use Rattle.numbers.proofs.Parts.{zarith}
use Rattle.rows.specs.Choice.{within}
use Rattle.rows.specs.Rows.{row, all}
use Rattle.rows.proofs.Choice.{and_left, and_right, both, either, within_ends}
use Rattle.rows.proofs.All.{all_at, all_each}
use Rattle.pairs.specs.declared.Pair.{Pair}
use Rattle.lags.specs.Lags.{lag_ok}
use Rattle.lags.proofs.Range.{lag, lag_back}
use Rattle.state.specs.declared.State.{State}
use Rattle.state.specs.Valid.{pointer_ok, sacf_within, sacf_ok, sav0_ok, weight_of, rvad_ok, thvad_ok, counts_ok, valid_of, Between, Valid, Shaped, reset_of}

-- ---- one test and one fact
pub le_fact : (a b : ℤ) → le_z a b ≡ true → a ≤ℤ b
le_fact a b t = omega zarith

pub le_back : (a b : ℤ) → a ≤ℤ b → le_z a b ≡ true
le_back a b h = omega zarith

pub between : (lo hi z : ℤ) → within lo hi z ≡ true → Between lo hi z
between lo hi z t = let e = within_ends lo hi z t in record { from = e.0; to = e.1 }

pub between_back : (lo hi z : ℤ) → Between lo hi z → within lo hi z ≡ true
unfolding within
between_back lo hi z h = both (le_back lo z h.from) (le_back z hi h.to)

-- ---- a history: past the end stands 0, which is in every range that holds 0
each : (l : List ℤ) → sacf_within l ≡ true → (k : ℕ) → Between (negsuc 536870911) (pos 536870911) (at l k)
unfolding sacf_within
each l t k =
    either (Between (negsuc 536870911) (pos 536870911) (at l k)) (ltb k (length l))
    (λ h. between (negsuc 536870911) (pos 536870911) (at l k) (all_at (within (negsuc 536870911) (pos 536870911)) l k (pos 0) t (ltb-true k (length l) h)))
    (λ h. subst (Between (negsuc 536870911) (pos 536870911)) (sym (get_or-eq_default l (pos 0) (ltb-false k (length l) h))) (record { from = omega zarith; to = omega zarith }))

each_back : (l : List ℤ) → ((k : ℕ) → Between (negsuc 536870911) (pos 536870911) (at l k)) → sacf_within l ≡ true
unfolding sacf_within
each_back l h = all_each (within (negsuc 536870911) (pos 536870911)) l (pos 0) (λ k i. between_back (negsuc 536870911) (pos 536870911) (at l k) (h k))

-- ---- part by part
two : (a b : Bool) → a && b ≡ true → (a ≡ true) × (b ≡ true)
two a b t = (and_left a b t, and_right a b t)

pointer : (last pt : ℕ) → pointer_ok last pt ≡ true → (pt ≤ last) × (pt % 9 ≡ 0)
unfolding pointer_ok
pointer last pt t =
    let h = two (leb pt last) (eqb (pt % 9) 0) t in
    (leb-true pt last h.0, eqb-true (pt % 9) 0 h.1)

pointer_back : (last pt : ℕ) → pt ≤ last → pt % 9 ≡ 0 → pointer_ok last pt ≡ true
unfolding pointer_ok
pointer_back last pt h k = both (le-leb pt last h) (eq-eqb (pt % 9) 0 k)

module _ (l : List ℤ) where
  abbrev Zero : ℕ → Bool
  Zero k = le_z (pos 0) (at l k)

  sacf : sacf_ok l ≡ true → ((pos 0 ≤ℤ at l 0) × (pos 0 ≤ℤ at l 9) × (pos 0 ≤ℤ at l 18)) × (sacf_within l ≡ true)
  unfolding sacf_ok
  sacf t =
      let a = two (Zero 0) (Zero 9 && (Zero 18 && sacf_within l)) t in
      let b = two (Zero 9) (Zero 18 && sacf_within l) a.1 in
      let c = two (Zero 18) (sacf_within l) b.1 in
      ((le_fact (pos 0) (at l 0) a.0, le_fact (pos 0) (at l 9) b.0, le_fact (pos 0) (at l 18) c.0), c.1)

  sacf_back : (pos 0 ≤ℤ at l 0) × (pos 0 ≤ℤ at l 9) × (pos 0 ≤ℤ at l 18) → sacf_within l ≡ true → sacf_ok l ≡ true
  unfolding sacf_ok
  sacf_back h k = both (le_back (pos 0) (at l 0) h.0) (both (le_back (pos 0) (at l 9) h.1) (both (le_back (pos 0) (at l 18) h.2) k))

  sav0 : sav0_ok l ≡ true → (pos 0 ≤ℤ at l 0) × (pos 0 ≤ℤ at l 9) × (pos 0 ≤ℤ at l 18) × (pos 0 ≤ℤ at l 27)
  unfolding sav0_ok
  sav0 t =
      let a = two (Zero 0) (Zero 9 && (Zero 18 && Zero 27)) t in
      let b = two (Zero 9) (Zero 18 && Zero 27) a.1 in
      let c = two (Zero 18) (Zero 27) b.1 in
      (le_fact (pos 0) (at l 0) a.0, le_fact (pos 0) (at l 9) b.0, le_fact (pos 0) (at l 18) c.0, le_fact (pos 0) (at l 27) c.1)

  sav0_back : (pos 0 ≤ℤ at l 0) × (pos 0 ≤ℤ at l 9) × (pos 0 ≤ℤ at l 18) × (pos 0 ≤ℤ at l 27) → sav0_ok l ≡ true
  unfolding sav0_ok
  sav0_back h =
      both (le_back (pos 0) (at l 0) h.0) (both (le_back (pos 0) (at l 9) h.1) (both (le_back (pos 0) (at l 18) h.2) (le_back (pos 0) (at l 27) h.3)))

  rvad : rvad_ok l ≡ true → Between (pos 16384) (pos 32767) (at l 0) × (weight_of l ≤ 4 * nat_abs (at l 0) + 11)
  unfolding rvad_ok
  rvad t =
      let a = two (within (pos 16384) (pos 32767) (at l 0)) (leb (weight_of l) (4 * nat_abs (at l 0) + 11)) t in
      (between (pos 16384) (pos 32767) (at l 0) a.0, leb-true (weight_of l) (4 * nat_abs (at l 0) + 11) a.1)

  rvad_back : Between (pos 16384) (pos 32767) (at l 0) → weight_of l ≤ 4 * nat_abs (at l 0) + 11 → rvad_ok l ≡ true
  unfolding rvad_ok
  rvad_back h k = both (between_back (pos 16384) (pos 32767) (at l 0) h) (le-leb (weight_of l) (4 * nat_abs (at l 0) + 11) k)

thvad : (p : Pair) → thvad_ok p ≡ true → Between (pos 16384) (pos 32767) p.m × Between (negsuc 31) (pos 64) p.e
unfolding thvad_ok
thvad p t =
    let a = two (within (pos 16384) (pos 32767) p.m) (within (negsuc 31) (pos 64) p.e) t in
    (between (pos 16384) (pos 32767) p.m a.0, between (negsuc 31) (pos 64) p.e a.1)

thvad_back : (p : Pair) → Between (pos 16384) (pos 32767) p.m → Between (negsuc 31) (pos 64) p.e → thvad_ok p ≡ true
unfolding thvad_ok
thvad_back p h k = both (between_back (pos 16384) (pos 32767) p.m h) (between_back (negsuc 31) (pos 64) p.e k)

-- ---- the whole
pub valid : (s : State) → valid_of s ≡ true → Valid s
unfolding valid_of counts_ok
valid s t =
    let c₁ = within (pos 0) (pos 9) s.adaptcount in
    let c₂ = within (pos 0) (pos 3) s.burstcount in
    let c₃ = within (negsuc 0) (pos 5) s.hangcount in
    let c₄ = within (pos 0) (pos 4) s.oldlagcount in
    let c₅ = within (pos 0) (pos 4) s.veryoldlagcount in
    let c₆ = lag_ok s.oldlag in
    let counts = c₁ && (c₂ && (c₃ && (c₄ && (c₅ && c₆)))) in
    let p₃ = sacf_ok s.sacf in
    let p₄ = sav0_ok s.sav0 in
    let p₅ = rvad_ok s.rvad in
    let p₆ = within (pos 2) (pos 9) s.normrvad in
    let p₇ = thvad_ok s.thvad in
    let a₁ = two (pointer_ok 18 s.ptsacf) (pointer_ok 27 s.ptsav0 && (p₃ && (p₄ && (p₅ && (p₆ && (p₇ && counts)))))) t in
    let a₂ = two (pointer_ok 27 s.ptsav0) (p₃ && (p₄ && (p₅ && (p₆ && (p₇ && counts))))) a₁.1 in
    let a₃ = two p₃ (p₄ && (p₅ && (p₆ && (p₇ && counts)))) a₂.1 in
    let a₄ = two p₄ (p₅ && (p₆ && (p₇ && counts))) a₃.1 in
    let a₅ = two p₅ (p₆ && (p₇ && counts)) a₄.1 in
    let a₆ = two p₆ (p₇ && counts) a₅.1 in
    let a₇ = two p₇ counts a₆.1 in
    let b₁ = two c₁ (c₂ && (c₃ && (c₄ && (c₅ && c₆)))) a₇.1 in
    let b₂ = two c₂ (c₃ && (c₄ && (c₅ && c₆))) b₁.1 in
    let b₃ = two c₃ (c₄ && (c₅ && c₆)) b₂.1 in
    let b₄ = two c₄ (c₅ && c₆) b₃.1 in
    let b₅ = two c₅ c₆ b₄.1 in
    record {
      ptsacf_last = (pointer 18 s.ptsacf a₁.0).0;
      ptsacf_nines = (pointer 18 s.ptsacf a₁.0).1;
      ptsav0_last = (pointer 27 s.ptsav0 a₂.0).0;
      ptsav0_nines = (pointer 27 s.ptsav0 a₂.0).1;
      sacf_first = (sacf s.sacf a₃.0).0;
      sacf_each = each s.sacf (sacf s.sacf a₃.0).1;
      sav0_first = sav0 s.sav0 a₄.0;
      rvad_first = (rvad s.rvad a₅.0).0;
      rvad_weight = (rvad s.rvad a₅.0).1;
      normrvad = between (pos 2) (pos 9) s.normrvad a₆.0;
      mantissa = (thvad s.thvad a₇.0).0;
      exponent = (thvad s.thvad a₇.0).1;
      adaptcount = between (pos 0) (pos 9) s.adaptcount b₁.0;
      burstcount = between (pos 0) (pos 3) s.burstcount b₂.0;
      hangcount = between (negsuc 0) (pos 5) s.hangcount b₃.0;
      oldlagcount = between (pos 0) (pos 4) s.oldlagcount b₄.0;
      veryoldlagcount = between (pos 0) (pos 4) s.veryoldlagcount b₅.0;
      oldlag = lag s.oldlag b₅.1;
    }

pub valid_back : (s : State) → Valid s → valid_of s ≡ true
unfolding valid_of counts_ok
valid_back s v =
    both (pointer_back 18 s.ptsacf v.ptsacf_last v.ptsacf_nines)
    (both (pointer_back 27 s.ptsav0 v.ptsav0_last v.ptsav0_nines)
    (both (sacf_back s.sacf v.sacf_first (each_back s.sacf v.sacf_each))
    (both (sav0_back s.sav0 v.sav0_first)
    (both (rvad_back s.rvad v.rvad_first v.rvad_weight)
    (both (between_back (pos 2) (pos 9) s.normrvad v.normrvad)
    (both (thvad_back s.thvad v.mantissa v.exponent)
    (both (between_back (pos 0) (pos 9) s.adaptcount v.adaptcount)
    (both (between_back (pos 0) (pos 3) s.burstcount v.burstcount)
    (both (between_back (negsuc 0) (pos 5) s.hangcount v.hangcount)
    (both (between_back (pos 0) (pos 4) s.oldlagcount v.oldlagcount)
    (both (between_back (pos 0) (pos 4) s.veryoldlagcount v.veryoldlagcount) (lag_back s.oldlag v.oldlag))))))))))))

pub reset_valid : valid_of reset_of ≡ true
unfolding valid_of counts_ok pointer_ok sacf_ok sacf_within sav0_ok rvad_ok weight_of thvad_ok lag_ok within reset_of row all total
reset_valid = refl

pub reset_shaped : Shaped reset_of
unfolding reset_of row
reset_shaped = record { rvad = refl; sacf = refl; sav0 = refl }
