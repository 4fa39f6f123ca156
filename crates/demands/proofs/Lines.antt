-- What reading and writing a line answer and leave meets the demands of specs/Demands.antt on lines; and a caller of `lines::read` and of
-- `lines::write` has them. Assumes nothing.
use mathlib.Core.Path.{◌≡◌, refl, sym, ap, ◌∙◌, subst}
use mathlib.Core.Bool.{Bool, true, false, ◌&&◌}
use mathlib.Core.List.{List, []}
use mathlib.Core.Logic.{◌↔◌}
use Prim.Native.Nat.{ℕ, zero, suc}
use native.Mathlib.Omega.{arith}
use lib.Dec.{eqb}
use borrow.Author.Tests.{eq-eqb, eqb-false}
use lib.IntN.{ℤ, pos}
use lib.ListN.{length, replicate}
use Rattle.rows.specs.Choice.{IF◌THEN◌ELSE◌, within}
use Rattle.rows.specs.Rows.{all}
use Rattle.rows.proofs.Choice.{by_test, by_yes}
use Rattle.lags.specs.Lags.{lag_ok}
use Rattle.frames.specs.Frame.{lengths_ok, scale_ok, acf_ok, lags_ok, frame_refusal_of}
use Rattle.detector.proofs.Keeps.{Numbers}
use Rattle.lines.specs.declared.Frame.{Frame}
use Rattle.lines.specs.Line.{frame_of, formed_of}
use Rattle.lines.specs.Answers.{ranges_of, refused_of, accepted_of, checked_of, decoded_of, heading_of, read_of, acf_after, lags_after, write_of, line_after, Decoded, Heading}
use Rattle.lines.specs.Worked.{line, frame, decodes}
use Rattle.lines.proofs.Answers.{read_sized, read_kept, write_kept}
use Rattle.lines.proofs.RoundTrip.{lent_write_then_read, lent_read_then_write, left}
use Rattle.demands.specs.Demands.{ReadDemand1, WriteDemand1, ReadDemand2, WriteDemand2}
use Rattle.demands.proofs.Idle.{numbers}

-- ---- the table over its five tests. A frame to write is not tested for its form, which is the case `b` true
abbrev number : Bool → Bool → Bool → Bool → Bool → ℕ
number false b c d e = 1
number true false c d e = 6
number true true false d e = 2
number true true true false e = 3
number true true true true false = 4
number true true true true true = 0

-- what each number says of the tests
abbrev Row : ℕ → Bool → Bool → Bool → Bool → Bool → Type 0
Row zero a b c d e = (a ≡ true) × (b ≡ true) × (c ≡ true) × (d ≡ true) × (e ≡ true)
Row (suc zero) a b c d e = a ≡ false
Row (suc (suc zero)) a b c d e = (a ≡ true) × (b ≡ true) × (c ≡ false)
Row (suc (suc (suc zero))) a b c d e = (a ≡ true) × (b ≡ true) × (c ≡ true) × (d ≡ false)
Row (suc (suc (suc (suc zero)))) a b c d e = (a ≡ true) × (b ≡ true) × (c ≡ true) × (d ≡ true) × (e ≡ false)
Row (suc (suc (suc (suc (suc n))))) a b c d e = (a ≡ true) × (b ≡ false)

holds : (a b c d e : Bool) → Row (number a b c d e) a b c d e
holds false b c d e = refl
holds true false c d e = (refl, refl)
holds true true false d e = (refl, refl, refl)
holds true true true false e = (refl, refl, refl, refl)
holds true true true true false = (refl, refl, refl, refl, refl)
holds true true true true true = (refl, refl, refl, refl, refl)

module _ (a b c d e : Bool) (n : ℕ) (is : n ≡ number a b c d e) where
  says : (k : ℕ) → n ≡ k → Row k a b c d e
  says k h = subst (λ (m : ℕ). Row m a b c d e) (sym is ∙ h) (holds a b c d e)

  row_0 : (n ≡ 0) ↔ ((a ≡ true) × (b ≡ true) × (c ≡ true) × (d ≡ true) × (e ≡ true))
  row_0 = (says 0, λ h. is ∙ rw (h.0, h.1, h.2, h.3, h.4))

  row_1 : (n ≡ 1) ↔ (a ≡ false)
  row_1 = (says 1, λ h. is ∙ rw h)

  row_2 : (n ≡ 2) ↔ ((a ≡ true) × (b ≡ true) × (c ≡ false))
  row_2 = (says 2, λ h. is ∙ rw (h.0, h.1, h.2))

  row_3 : (n ≡ 3) ↔ ((a ≡ true) × (b ≡ true) × (c ≡ true) × (d ≡ false))
  row_3 = (says 3, λ h. is ∙ rw (h.0, h.1, h.2, h.3))

  row_4 : (n ≡ 4) ↔ ((a ≡ true) × (b ≡ true) × (c ≡ true) × (d ≡ true) × (e ≡ false))
  row_4 = (says 4, λ h. is ∙ rw (h.0, h.1, h.2, h.3, h.4))

  row_6 : (n ≡ 6) ↔ ((a ≡ true) × (b ≡ false))
  row_6 = (says 6, λ h. is ∙ rw (h.0, h.1))

-- ---- a line to read
module _ (acf : List ℤ) (lags l : List ℕ) where
  abbrev f : Frame
  f = frame_of l

  read_number : (read_of acf lags l).refusal ≡ number (lengths_ok acf lags) (formed_of l) (scale_ok f.scale) (acf_ok f.acf) (lags_ok f.lags)
  unfolding read_of heading_of decoded_of checked_of accepted_of refused_of ranges_of frame_refusal_of IF◌THEN◌ELSE◌
  read_number = by (lengths_ok acf lags) (formed_of l) (scale_ok f.scale) (acf_ok f.acf) (lags_ok f.lags)
    where
      ranges : Bool → Bool → Bool → ℕ
      ranges c d e = IF c THEN IF d THEN IF e THEN 0 ELSE 4 ELSE 3 ELSE 2

      by : (a b c d e : Bool)
          → (IF a THEN heading_of (IF b THEN IF eqb (ranges c d e) 0 THEN accepted_of f ELSE refused_of (ranges c d e) ELSE refused_of 6) ELSE heading_of (refused_of 1)).refusal ≡ number a b c d e
      by false b c d e = refl
      by true false c d e = refl
      by true true false d e = refl
      by true true true false e = refl
      by true true true true false = refl
      by true true true true true = refl

  -- the scale is 0 of a refusal, and else the frame's
  abbrev Scaled : ℕ → ℤ → Type 0
  Scaled n z = ((n ≡ 0 → ⊥) → z ≡ pos 0) × (n ≡ 0 → z ≡ f.scale)

  read_scale : Scaled (read_of acf lags l).refusal (read_of acf lags l).scale
  unfolding read_of heading_of decoded_of checked_of accepted_of refused_of
  read_scale =
      let H : Heading → Type 0 = λ (h : Heading). Scaled h.refusal h.scale in
      let D : Decoded → Type 0 = λ (d : Decoded). Scaled d.refusal d.scale in
      by_test H (lengths_ok acf lags) _ _
      (λ s. by_test D (formed_of l) _ _
      (λ t. by_test D (eqb (ranges_of f) 0) _ _ (λ u. (λ h. absurd (h refl), λ h. refl)) (λ u. (λ h. refl, λ h. absurd (eqb-false (ranges_of f) 0 u h))))
      (λ t. (λ h. refl, λ h. absurd (omega arith))))
      (λ s. (λ h. refl, λ h. absurd (omega arith)))

  pub read_demand_1 : ReadDemand1 acf lags l (read_of acf lags l) (acf_after acf lags l) (lags_after acf lags l)
  read_demand_1 =
      let a = lengths_ok acf lags in
      let b = formed_of l in
      let c = scale_ok f.scale in
      let d = acf_ok f.acf in
      let e = lags_ok f.lags in
      let n = (read_of acf lags l).refusal in
      record {
        number_1 = row_1 a b c d e n read_number;
        number_6 = row_6 a b c d e n read_number;
        number_2 = row_2 a b c d e n read_number;
        number_3 = row_3 a b c d e n read_number;
        number_4 = row_4 a b c d e n read_number;
        number_0 = row_0 a b c d e n read_number;
        no_scale = read_scale.0;
        as_lent = λ h. let k = (read_kept acf lags l (read_of acf lags l) refl h).1 in (sym k.0, sym k.1);
      }

  stored : (read_of acf lags l).refusal ≡ 0 → left acf lags l ≡ f
  unfolding acf_after lags_after
  stored e =
      let t = eq-eqb (read_of acf lags l).refusal 0 e in
      rw (by_yes f.acf acf t, by_yes f.lags lags t, read_scale.1 e)

  pub read_demand_2 : ReadDemand2 l (read_of acf lags l) (acf_after acf lags l) (lags_after acf lags l)
  read_demand_2 = record { frame = stored; same_bytes = λ e o h. subst (λ (x : Frame). (write_of x o ≡ 0) × (line_after x o ≡ l)) (stored e) (lent_read_then_write acf lags l o e h) }

-- ---- a frame to write
module _ (f : Frame) (l : List ℕ) where
  abbrev sized : Bool
  sized = lengths_ok f.acf f.lags && eqb (length l) 82

  write_number : write_of f l ≡ number sized true (scale_ok f.scale) (acf_ok f.acf) (lags_ok f.lags)
  unfolding write_of ranges_of frame_refusal_of IF◌THEN◌ELSE◌
  write_number = by sized (scale_ok f.scale) (acf_ok f.acf) (lags_ok f.lags)
    where
      by : (a c d e : Bool) → (IF a THEN IF c THEN IF d THEN IF e THEN 0 ELSE 4 ELSE 3 ELSE 2 ELSE 1) ≡ number a true c d e
      by false c d e = refl
      by true false d e = refl
      by true true false e = refl
      by true true true false = refl
      by true true true true = refl

  pub write_demand_1 : WriteDemand1 f l (write_of f l) (line_after f l)
  write_demand_1 =
      let c = scale_ok f.scale in
      let d = acf_ok f.acf in
      let e = lags_ok f.lags in
      let n = write_of f l in
      let r₂ = row_2 sized true c d e n write_number in
      let r₃ = row_3 sized true c d e n write_number in
      let r₄ = row_4 sized true c d e n write_number in
      let r₀ = row_0 sized true c d e n write_number in
      record {
        number_1 = row_1 sized true c d e n write_number;
        number_2 = (λ h. let x = r₂.0 h in (x.0, x.2), λ h. r₂.1 (h.0, refl, h.1));
        number_3 = (λ h. let x = r₃.0 h in (x.0, x.2, x.3), λ h. r₃.1 (h.0, refl, h.1, h.2));
        number_4 = (λ h. let x = r₄.0 h in (x.0, x.2, x.3, x.4), λ h. r₄.1 (h.0, refl, h.1, h.2, h.3));
        number_0 = (λ h. let x = r₀.0 h in (x.0, x.2, x.3, x.4), λ h. r₀.1 (h.0, refl, h.1, h.2, h.3));
        as_lent = λ h. sym (write_kept f l (write_of f l) refl h).1;
      }

  pub write_demand_2 : Numbers f.acf → WriteDemand2 f (write_of f l) (line_after f l)
  write_demand_2 fits = record { reads_back = λ e acf lags t. lent_write_then_read f l acf lags (λ i h. fits i) e t }

-- ---- what a caller has: what the functions ensure of the answer and of what the lent buffers hold afterwards
pub record Read (acf : List ℤ) (lags l : List ℕ) (r : Heading) (acf' : List ℤ) (lags' : List ℕ) : Type 0 where
  pub first : ReadDemand1 acf lags l r acf' lags'
  pub second : ReadDemand2 l r acf' lags'

pub read_caller : (acf : List ℤ) (lags l : List ℕ) (r : Heading) (acf' : List ℤ) (lags' : List ℕ)
    → r ≡ read_of acf lags l → acf' ≡ acf_after acf lags l → lags' ≡ lags_after acf lags l → Read acf lags l r acf' lags'
read_caller acf lags l r acf' lags' e p q = rw (e, p, q) (record { first = read_demand_1 acf lags l; second = read_demand_2 acf lags l })

pub record Written (f : Frame) (l : List ℕ) (n : ℕ) (l' : List ℕ) : Type 0 where
  pub first : WriteDemand1 f l n l'
  pub second : WriteDemand2 f n l'

-- `Numbers` is what the type of the lent numbers says by itself
pub write_caller : (f : Frame) (l : List ℕ) (n : ℕ) (l' : List ℕ) → n ≡ write_of f l → l' ≡ line_after f l → Numbers f.acf → Written f l n l'
write_caller f l n l' e p fits = rw (e, p) (record { first = write_demand_1 f l; second = write_demand_2 f l fits })

-- ---- lines that the demands speak of: document 01's is read and its frame is written, and no numbers and no bytes are refused
pub line_is_read : (read_of (replicate 9 (pos 0)) (replicate 4 0) line).refusal ≡ 0
unfolding lengths_ok heading_of
line_is_read = ap (λ (h : Heading). h.refusal) (read_sized (replicate 9 (pos 0)) (replicate 4 0) line refl) ∙ ap (λ (d : Decoded). d.refusal) decodes

pub frame_is_written : (write_of frame (replicate 82 0) ≡ 0) × Numbers frame.acf
unfolding frame write_of ranges_of lengths_ok frame_refusal_of scale_ok acf_ok lags_ok within lag_ok all IF◌THEN◌ELSE◌
frame_is_written = (refl, numbers 1 (omega arith))

pub none_is_refused : ((read_of [] [] line).refusal ≡ 1) × (write_of frame [] ≡ 1)
unfolding frame read_of heading_of refused_of write_of lengths_ok IF◌THEN◌ELSE◌
none_is_refused = (refl, refl)
