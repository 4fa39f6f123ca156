-- The reasons that are answered fit, and no others do: over the tests that they are made of. Assumes nothing.
use mathlib.Core.Path.{◌≡◌, refl, sym, ap, subst, ◌∙◌}
use mathlib.Core.Bool.{Bool, true, false, not}
use mathlib.Core.List.{List}
use Prim.Native.Nat.{ℕ, ◌<◌}
use native.Mathlib.Omega.{arith}
use borrow.Author.Tests.{ltb-true, ltb-false}
use lib.Dec.{T, eqb, ltb}
use lib.IntN.{ℤ, pos}
use lib.ListN.{length}
use lib.Signed.{le_z, ◌≤ℤ◌}
use Rattle.numbers.proofs.Parts.{zarith}
use Rattle.rows.specs.Choice.{IF◌THEN◌ELSE◌}
use Rattle.rows.proofs.Choice.{either}
use Rattle.pairs.specs.Pairs.{greater_of}
use Rattle.lags.specs.Lags.{ptch_of}
use Rattle.hangover.specs.Bursts.{by_place, Latest}
use Rattle.hangover.proofs.Bursts.{latest_only}
use Rattle.threshold.specs.declared.Way.{Way}
use Rattle.threshold.specs.Threshold.{PTH}
use Rattle.threshold.specs.Ways.{risen_of, way_taken}
use Rattle.state.specs.declared.State.{State}
use Rattle.detector.specs.Answer.{Answer}
use Rattle.why.specs.declared.Flag.{Flag}
use Rattle.why.specs.Explain.{flag_reason, threshold_reason}
use Rattle.why.specs.Fits.{Case, flag_case, way_case, Fits, FlagHolds, WayHolds}

-- ---- of reasons that hold, and so are known by their number, only one fits
module _ {R : Type 0} (case_of : R → Case) (Holds : R → Type 0) (named : ℕ → R) (known : (r : R) → Holds r → r ≡ named (case_of r).number) where
  pub fits_only : {r q : R} → Fits case_of Holds r → Fits case_of Holds q → r ≡ q
  fits_only {r} {q} f g =
      let n = (case_of r).number in
      let m = (case_of q).number in
      let e : n ≡ m =
      either (n ≡ m) (ltb n m)
      (λ t. absurd (g.first r (ltb-true n m t) f.holds))
      (λ t. either (n ≡ m) (ltb m n) (λ u. absurd (f.first q (ltb-true m n u) g.holds)) (λ u. omega (arith, ltb-false n m t, ltb-false m n u))) in
      known r f.holds ∙ (ap named e ∙ sym (known q g.holds))

differ : {b : Bool} → b ≡ true → b ≡ false → ⊥
differ p q = subst T (sym p ∙ q) tt

-- ---- the flag, with l the latest frame that completed a burst
module _ (raws : List Bool) (a : Answer) (l : ℕ) (latest : Latest 3 (by_place raws) (length raws) l) where
  abbrev flag_named : ℕ → Flag
  flag_named n = IF eqb n 1 THEN Flag.Energy ELSE IF eqb n 2 THEN Flag.Hangover l ELSE Flag.Quiet

  flag_known : (r : Flag) → FlagHolds raws a r → r ≡ flag_named (flag_case r).number
  unfolding FlagHolds flag_case IF◌THEN◌ELSE◌
  flag_known Flag.Energy h = refl
  flag_known (Flag.Hangover n) h = ap (λ (k : ℕ). Flag.Hangover k) (latest_only 3 (by_place raws) h.2 latest)
  flag_known Flag.Quiet h = refl

  -- no reason with a lower number holds
  below_energy : (q : Flag) → (flag_case q).number < 1 → FlagHolds raws a q → ⊥
  unfolding flag_case
  below_energy Flag.Energy h = absurd (omega arith)
  below_energy (Flag.Hangover n) h = absurd (omega arith)
  below_energy Flag.Quiet h = absurd (omega arith)

  below_hangover : a.vvad ≡ false → (q : Flag) → (flag_case q).number < 2 → FlagHolds raws a q → ⊥
  unfolding flag_case FlagHolds
  below_hangover v Flag.Energy h k = differ k v
  below_hangover v (Flag.Hangover n) h k = absurd (omega arith)
  below_hangover v Flag.Quiet h k = absurd (omega arith)

  below_quiet : a.vvad ≡ false → a.vad ≡ false → (q : Flag) → (flag_case q).number < 3 → FlagHolds raws a q → ⊥
  unfolding flag_case FlagHolds
  below_quiet v w Flag.Energy h k = differ k v
  below_quiet v w (Flag.Hangover n) h k = differ k.0 w
  below_quiet v w Flag.Quiet h k = absurd (omega arith)

  pub flag_fits : (a.vvad ≡ false → a.vad ≡ true → 0 < l) → Fits flag_case (FlagHolds raws a) (flag_reason a.vvad a.vad l)
  unfolding flag_reason flag_case FlagHolds IF◌THEN◌ELSE◌
  flag_fits some = go a.vvad a.vad refl refl
    where
      go : (v w : Bool) → a.vvad ≡ v → a.vad ≡ w → Fits flag_case (FlagHolds raws a) (IF v THEN Flag.Energy ELSE IF w THEN Flag.Hangover l ELSE Flag.Quiet)
      go true w p q = record { holds = p; first = below_energy }
      go false true p q = record { holds = (q, some p q, latest); first = below_hangover p }
      go false false p q = record { holds = q; first = below_quiet p q }

  pub flag_only : {r q : Flag} → Fits flag_case (FlagHolds raws a) r → Fits flag_case (FlagHolds raws a) q → r ≡ q
  flag_only = fits_only flag_case (FlagHolds raws a) flag_named flag_known

-- ---- the threshold
module _ (tone : Bool) (s : State) (a : Answer) where
  abbrev count : ℤ
  count = risen_of s.adaptcount

  abbrev way_named : ℕ → Way
  way_named n =
      IF eqb n 1 THEN Way.Floor ELSE IF eqb n 2 THEN Way.Periodic ELSE IF eqb n 3 THEN Way.Unsteady ELSE IF eqb n 4 THEN Way.Tone ELSE
      IF eqb n 5 THEN Way.Waiting count ELSE Way.Adapted

  way_known : (r : Way) → WayHolds tone s a r → r ≡ way_named (way_case r).number
  unfolding WayHolds way_case IF◌THEN◌ELSE◌
  way_known Way.Floor h = refl
  way_known Way.Periodic h = refl
  way_known Way.Unsteady h = refl
  way_known Way.Tone h = refl
  way_known (Way.Waiting k) h = ap (λ (z : ℤ). Way.Waiting z) (sym h.0)
  way_known Way.Adapted h = refl

  -- no reason with a number below n holds, if none of the tests before n does
  below : (n : ℕ) → (1 < n → greater_of PTH a.acf0 ≡ false) → (2 < n → ptch_of s.oldlagcount s.veryoldlagcount ≡ false) → (3 < n → a.stat ≡ true)
      → (4 < n → tone ≡ false) → (5 < n → le_z count (pos 8) ≡ false) → n < 7 → (q : Way) → (way_case q).number < n → WayHolds tone s a q → ⊥
  unfolding way_case WayHolds
  below n low periodic unsteady toned waiting top Way.Floor h k = differ k (low h)
  below n low periodic unsteady toned waiting top Way.Periodic h k = differ k (periodic h)
  below n low periodic unsteady toned waiting top Way.Unsteady h k = differ (unsteady h) k
  below n low periodic unsteady toned waiting top Way.Tone h k = differ k (toned h)
  below n low periodic unsteady toned waiting top (Way.Waiting z) h k =
      let w = waiting h in
      let e = k.1 in
      few (subst (λ (x : ℤ). x ≤ℤ pos 8) (sym k.0) e) w
    where
      few : count ≤ℤ pos 8 → le_z count (pos 8) ≡ false → ⊥
      few p q = omega zarith
  below n low periodic unsteady toned waiting top Way.Adapted h k = absurd (omega arith)

  pub way_fits : Fits way_case (WayHolds tone s a) (threshold_reason tone s a.acf0 a.stat)
  unfolding threshold_reason way_taken way_case WayHolds IF◌THEN◌ELSE◌
  way_fits = go (greater_of PTH a.acf0) (ptch_of s.oldlagcount s.veryoldlagcount) a.stat tone (le_z count (pos 8)) refl refl refl refl refl
    where
      go : (low p st to few : Bool) → greater_of PTH a.acf0 ≡ low → ptch_of s.oldlagcount s.veryoldlagcount ≡ p → a.stat ≡ st → tone ≡ to → le_z count (pos 8) ≡ few
          → Fits way_case (WayHolds tone s a) (IF low THEN Way.Floor ELSE IF p THEN Way.Periodic ELSE IF not st THEN Way.Unsteady ELSE IF to THEN Way.Tone ELSE IF few THEN Way.Waiting count ELSE Way.Adapted)
      go true p st to few e₁ e₂ e₃ e₄ e₅ = record { holds = e₁; first = below 1 (λ h. absurd (omega arith)) (λ h. absurd (omega arith)) (λ h. absurd (omega arith)) (λ h. absurd (omega arith)) (λ h. absurd (omega arith)) (omega arith) }
      go false true st to few e₁ e₂ e₃ e₄ e₅ = record { holds = e₂; first = below 2 (λ h. e₁) (λ h. absurd (omega arith)) (λ h. absurd (omega arith)) (λ h. absurd (omega arith)) (λ h. absurd (omega arith)) (omega arith) }
      go false false false to few e₁ e₂ e₃ e₄ e₅ = record { holds = e₃; first = below 3 (λ h. e₁) (λ h. e₂) (λ h. absurd (omega arith)) (λ h. absurd (omega arith)) (λ h. absurd (omega arith)) (omega arith) }
      go false false true true few e₁ e₂ e₃ e₄ e₅ = record { holds = e₄; first = below 4 (λ h. e₁) (λ h. e₂) (λ h. e₃) (λ h. absurd (omega arith)) (λ h. absurd (omega arith)) (omega arith) }
      go false false true false true e₁ e₂ e₃ e₄ e₅ = record { holds = (refl, omega zarith); first = below 5 (λ h. e₁) (λ h. e₂) (λ h. e₃) (λ h. e₄) (λ h. absurd (omega arith)) (omega arith) }
      go false false true false false e₁ e₂ e₃ e₄ e₅ = record { holds = omega zarith; first = below 6 (λ h. e₁) (λ h. e₂) (λ h. e₃) (λ h. e₄) (λ h. e₅) (omega arith) }

  pub way_only : {r q : Way} → Fits way_case (WayHolds tone s a) r → Fits way_case (WayHolds tone s a) q → r ≡ q
  way_only = fits_only way_case (WayHolds tone s a) way_named way_known
