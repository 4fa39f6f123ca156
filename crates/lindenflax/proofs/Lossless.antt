-- A run and the state in it say the same: a state that goes into a run comes back as it was, and so does a run whose numbers fit that goes into a
-- state. Then the fields that make the state in a run, and the stores that make the run of a state. Assumes nothing.
use mathlib.Core.Path.{◌≡◌, refl, sym, subst, ◌∙◌}
use mathlib.Core.Bool.{Bool, true, false, not}
use mathlib.Core.List.{List, [], ◌∷◌, ◌++◌}
use Prim.Native.Nat.{ℕ}
use lib.Dec.{T}
use lib.IntN.{ℤ, nat_abs, pos}
use lib.ListN.{length}
use lib.Signed.{lt_z}
use Rattle.numbers.specs.Sum.{at}
use Rattle.numbers.proofs.Parts.{zarith, of, sign}
use Rattle.rows.specs.Choice.{IF◌THEN◌ELSE◌, eqZ}
use Rattle.rows.specs.Rows.{row}
use Rattle.rows.proofs.Choice.{by_yes, by_no, either, eqZ_yes, eqZ_is}
use Rattle.pairs.specs.Pairs.{pair}
use Rattle.state.specs.declared.State.{State}
use Rattle.state.specs.Valid.{Between, Shaped}
use Rattle.lindenflax.specs.Run.{bit_of, flag_of, part, run_of, state_of, narrow_of}
use Rattle.lindenflax.proofs.Parted.{stored, spread, sacf_within, sav0_within, lag_within, flag_within}

-- ---- a flag comes back, and a number that is 0 or 1
flag_back : (b : Bool) → flag_of (bit_of b) ≡ b
unfolding bit_of flag_of IF◌THEN◌ELSE◌ eqZ
flag_back true = refl
flag_back false = refl

bit_back : (z : ℤ) → Between (pos 0) (pos 1) z → bit_of (flag_of z) ≡ z
unfolding bit_of flag_of
bit_back z b =
    either (bit_of (eqZ z (pos 1)) ≡ z) (eqZ z (pos 1)) (λ t. by_yes _ _ t ∙ sym (eqZ_is z (pos 1) t))
    (λ t.
    let no : z ≡ pos 1 → ⊥ = λ e. absurd (subst (λ (x : Bool). T (not x)) (sym t ∙ eqZ_yes e) tt) in
    let zero : z ≡ pos 0 = either (z ≡ pos 0) (lt_z z (pos 1)) (λ u. omega (zarith, b.from)) (λ u. absurd (no (omega (zarith, b.to)))) in
    by_no _ _ t ∙ sym zero)

-- ---- a state comes back
module _ (s : State) (shape : Shaped s) where
  filter_back : part 0 9 (run_of s) ≡ s.rvad
  unfolding part run_of row
  filter_back = rw (spread s.rvad 9 shape.rvad)

  frames_back : part 10 27 (run_of s) ≡ s.sacf
  unfolding part run_of row
  frames_back = rw (spread s.rvad 9 shape.rvad, spread s.sacf 27 shape.sacf)

  sums_back : part 38 36 (run_of s) ≡ s.sav0
  unfolding part run_of row
  sums_back = rw (spread s.rvad 9 shape.rvad, spread s.sacf 27 shape.sacf, spread s.sav0 36 shape.sav0)

  norm_back : at (run_of s) 9 ≡ s.normrvad
  unfolding run_of row
  norm_back = rw (spread s.rvad 9 shape.rvad)

  pub sacf_pointer_back : at (run_of s) 37 ≡ pos s.ptsacf
  unfolding run_of row
  sacf_pointer_back = rw (spread s.rvad 9 shape.rvad, spread s.sacf 27 shape.sacf)

  pub sav0_pointer_back : at (run_of s) 74 ≡ pos s.ptsav0
  unfolding run_of row
  sav0_pointer_back = rw (spread s.rvad 9 shape.rvad, spread s.sacf 27 shape.sacf, spread s.sav0 36 shape.sav0)

  lastdm_back : at (run_of s) 75 ≡ s.lastdm
  unfolding run_of row
  lastdm_back = rw (spread s.rvad 9 shape.rvad, spread s.sacf 27 shape.sacf, spread s.sav0 36 shape.sav0)

  exponent_back : at (run_of s) 76 ≡ s.thvad.e
  unfolding run_of row
  exponent_back = rw (spread s.rvad 9 shape.rvad, spread s.sacf 27 shape.sacf, spread s.sav0 36 shape.sav0)

  mantissa_back : at (run_of s) 77 ≡ s.thvad.m
  unfolding run_of row
  mantissa_back = rw (spread s.rvad 9 shape.rvad, spread s.sacf 27 shape.sacf, spread s.sav0 36 shape.sav0)

  adaptcount_back : at (run_of s) 78 ≡ s.adaptcount
  unfolding run_of row
  adaptcount_back = rw (spread s.rvad 9 shape.rvad, spread s.sacf 27 shape.sacf, spread s.sav0 36 shape.sav0)

  burstcount_back : at (run_of s) 79 ≡ s.burstcount
  unfolding run_of row
  burstcount_back = rw (spread s.rvad 9 shape.rvad, spread s.sacf 27 shape.sacf, spread s.sav0 36 shape.sav0)

  hangcount_back : at (run_of s) 80 ≡ s.hangcount
  unfolding run_of row
  hangcount_back = rw (spread s.rvad 9 shape.rvad, spread s.sacf 27 shape.sacf, spread s.sav0 36 shape.sav0)

  oldlagcount_back : at (run_of s) 81 ≡ s.oldlagcount
  unfolding run_of row
  oldlagcount_back = rw (spread s.rvad 9 shape.rvad, spread s.sacf 27 shape.sacf, spread s.sav0 36 shape.sav0)

  veryoldlagcount_back : at (run_of s) 82 ≡ s.veryoldlagcount
  unfolding run_of row
  veryoldlagcount_back = rw (spread s.rvad 9 shape.rvad, spread s.sacf 27 shape.sacf, spread s.sav0 36 shape.sav0)

  pub oldlag_back : at (run_of s) 83 ≡ pos s.oldlag
  unfolding run_of row
  oldlag_back = rw (spread s.rvad 9 shape.rvad, spread s.sacf 27 shape.sacf, spread s.sav0 36 shape.sav0)

  pub tone_back : at (run_of s) 84 ≡ bit_of s.tone
  unfolding run_of row
  tone_back = rw (spread s.rvad 9 shape.rvad, spread s.sacf 27 shape.sacf, spread s.sav0 36 shape.sav0)

  pub state_run : state_of (run_of s) ≡ s
  unfolding state_of
  state_run =
      rw (
        filter_back,
        norm_back,
        frames_back,
        sacf_pointer_back,
        sums_back,
        sav0_pointer_back,
        lastdm_back,
        exponent_back,
        mantissa_back,
        adaptcount_back,
        burstcount_back,
        hangcount_back,
        oldlagcount_back,
        veryoldlagcount_back,
        oldlag_back,
        tone_back,
        flag_back s.tone,
      )

-- a state whose fields are the numbers of a run, each from its place, is the state in it
pub from_places : (l : List ℤ) {r h g : List ℤ} {n d e m a b c o v : ℤ} {p q k : ℕ} {f : Bool}
    → r ≡ part 0 9 l → n ≡ at l 9 → h ≡ part 10 27 l → p ≡ nat_abs (at l 37) → g ≡ part 38 36 l → q ≡ nat_abs (at l 74) → d ≡ at l 75 → e ≡ at l 76
    → m ≡ at l 77 → a ≡ at l 78 → b ≡ at l 79 → c ≡ at l 80 → o ≡ at l 81 → v ≡ at l 82 → k ≡ nat_abs (at l 83) → f ≡ flag_of (at l 84)
    → ◌≡◌ {A = State} (record { rvad = r; normrvad = n; sacf = h; ptsacf = p; sav0 = g; ptsav0 = q; lastdm = d; thvad = pair e m; adaptcount = a; burstcount = b; hangcount = c; oldlagcount = o; veryoldlagcount = v; oldlag = k; tone = f }) (state_of l)
unfolding state_of
from_places l e0 e1 e2 e3 e4 e5 e6 e7 e8 e9 e10 e11 e12 e13 e14 e15 = rw (e0, e1, e2, e3, e4, e5, e6, e7, e8, e9, e10, e11, e12, e13, e14, e15)

-- ---- a run comes back
joined : (l : List ℤ) → length l ≡ 85 → part 0 9 l ++ ((at l 9 ∷ []) ++ (part 10 27 l ++ ((at l 37 ∷ []) ++ (part 38 36 l ++ (at l 74 ∷ at l 75 ∷ at l 76 ∷ at l 77 ∷ at l 78 ∷ at l 79 ∷ at l 80 ∷ at l 81 ∷ at l 82 ∷ at l 83 ∷ at l 84 ∷ []))))) ≡ l
unfolding part row
joined l h = rw (spread l 85 h)

-- a number that is not negative is its magnitude
magnitude_is : (hi z : ℤ) → Between (pos 0) hi z → pos (nat_abs z) ≡ z
magnitude_is hi z b = omega (zarith, of z, sign z, b.from)

pub run_state : (l : List ℤ) → length l ≡ 85 → narrow_of l ≡ true → run_of (state_of l) ≡ l
unfolding run_of state_of
run_state l h t =
    rw (
      magnitude_is (pos 27) (at l 37) (sacf_within l h t),
      magnitude_is (pos 27) (at l 74) (sav0_within l h t),
      magnitude_is (pos 65535) (at l 83) (lag_within l h t),
      bit_back (at l 84) (flag_within l h t),
    )
    (joined l h)

-- ---- the stores that make a run: those of the fields, each part at its place, into a run of 85 numbers
pub packs : (z : List ℤ) (s : State) → length z ≡ 85 → Shaped s → {a b c r t u g : List ℤ} {n p q d e m h i j k l v f : ℤ}
    → g ≡ s.rvad → n ≡ s.normrvad → p ≡ pos s.ptsacf → q ≡ pos s.ptsav0 → d ≡ s.lastdm → e ≡ s.thvad.e → m ≡ s.thvad.m → h ≡ s.adaptcount → i ≡ s.burstcount → j ≡ s.hangcount → k ≡ s.oldlagcount → l ≡ s.veryoldlagcount → v ≡ pos s.oldlag → f ≡ bit_of s.tone
    → a ≡ stored z 0 g 9 → b ≡ stored a 9 (n ∷ []) 1 → c ≡ stored b 10 s.sacf 27 → r ≡ stored c 37 (p ∷ []) 1 → t ≡ stored r 38 s.sav0 36
    → u ≡ stored t 74 (q ∷ d ∷ e ∷ m ∷ h ∷ i ∷ j ∷ k ∷ l ∷ v ∷ f ∷ []) 11
    → u ≡ run_of s
unfolding run_of row
packs z s y shape e0 e1 e2 e3 e4 e5 e6 e7 e8 e9 e10 e11 e12 e13 f0 f1 f2 f3 f4 f5 =
    rw (
      f5,
      f4,
      f3,
      f2,
      f1,
      f0,
      e0,
      e1,
      e2,
      e3,
      e4,
      e5,
      e6,
      e7,
      e8,
      e9,
      e10,
      e11,
      e12,
      e13,
      spread z 85 y,
      spread s.rvad 9 shape.rvad,
      spread s.sacf 27 shape.sacf,
      spread s.sav0 36 shape.sav0,
    )
