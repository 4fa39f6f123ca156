-- What is read of a frame: as many samples as are there, and no more than 160; then zeros. Assumes nothing.
use mathlib.Core.Path.{◌≡◌, refl, sym, ap, ap₂, ◌∙◌, subst}
use mathlib.Core.Bool.{true}
use mathlib.Core.List.{List, ◌∷◌, []}
use Prim.Native.Nat.{ℕ, zero, suc, ◌+◌, ◌*◌, ◌<◌, ◌≤◌, min}
use native.Mathlib.Omega.{arith}
use lib.Dec.{ltb, leb}
use borrow.Author.Tests.{ltb-true, ltb-false, leb-true, leb-false}
use lib.IntN.{ℤ, pos}
use lib.ListN.{length, get_or, take}
use lib.Seq.{take_all, take-append-le}
use mir.Syntax.{w16}
use mir.Val.{SFits}
use Rattle.numbers.specs.Sum.{at}
use Rattle.numbers.proofs.Parts.{zarith}
use Rattle.rows.specs.Rows.{row, first_of, all}
use Rattle.rows.proofs.Choice.{either}
use Rattle.rows.proofs.All.{all_at}
use Rattle.rows.proofs.Fill.{first_take, length_row, row_at, row_all}
use Rattle.samples.specs.Samples.{frame_samples, frame_bytes, samples_of, read_of}
use Rattle.samples.proofs.Pattern.{sample_fits}
use Rattle.samples.proofs.Bytes.{samples_count, samples_at, samples_past, samples_take}

-- ---- the front of a row
take_row {ℓ} : {A : Type ℓ} (m n : ℕ) (f : ℕ → A) → m ≤ n → take m (row n f) ≡ row m f
unfolding row
take_row zero zero f h = refl
take_row (suc m) zero f h = absurd (omega arith)
take_row m (suc n) f h =
    either (take m (row (suc n) f) ≡ row m f) (leb m n)
    (λ t. let k = leb-true m n t in take-append-le m (row n f) (f n ∷ []) (omega (arith, length_row n f)) ∙ take_row m n f k)
    (λ t.
    let e : m ≡ suc n = omega (arith, leb-false m n t) in
    take_all m (row (suc n) f) (omega (arith, length_row (suc n) f)) ∙ ap (λ (i : ℕ). row i f) (sym e))

-- the entries that there are
take_there : (n : ℕ) (s : List ℤ) → take (min n (length s)) (first_of n (pos 0) s) ≡ take n s
unfolding first_of
take_there n s =
    take_row (min n (length s)) n (λ i. get_or s i (pos 0)) (omega arith)
    ∙ (first_take (min n (length s)) s (pos 0) (omega arith)
    ∙ either (take (min n (length s)) s ≡ take n s) (leb n (length s))
    (λ t. let h = leb-true n (length s) t in let e : min n (length s) ≡ n = omega arith in ap (λ (i : ℕ). take i s) e)
    (λ t.
    let h = leb-false n (length s) t in
    let e : min n (length s) ≡ length s = omega arith in
    take_all (min n (length s)) s (omega arith) ∙ sym (take_all n s (omega arith))))

module _ (l : List ℕ) where
  -- ---- the samples that are there
  pub read_is : take (read_of l).count (read_of l).sof ≡ take frame_samples (samples_of l)
  unfolding read_of
  read_is = take_there frame_samples (samples_of l)

  pub read_most : (read_of l).count ≤ frame_samples
  unfolding read_of
  read_most = omega arith

  -- of a whole frame all
  pub read_all : frame_bytes ≤ length l → ((read_of l).count ≡ frame_samples) × (take (read_of l).count (read_of l).sof ≡ samples_of (take frame_bytes l))
  unfolding read_of
  read_all h = let c = samples_count l in (omega arith, read_is ∙ sym (samples_take frame_samples l))

  -- ---- and zeros after them
  pub read_zeros : (k : ℕ) → (read_of l).count ≤ k → k < frame_samples → at (read_of l).sof k ≡ pos 0
  unfolding read_of first_of
  read_zeros k h n = let c = samples_count l in row_at frame_samples (at (samples_of l)) k (pos 0) n ∙ samples_past l k (omega arith)

  -- each fits 16 bits
  pub read_fits : all (λ b. ltb b 256) l ≡ true → (k : ℕ) → SFits w16 (at (read_of l).sof k)
  unfolding read_of first_of
  read_fits e = row_all (SFits w16) frame_samples (at (samples_of l)) none each
    where
      none : SFits w16 (pos 0)
      none = omega zarith

      byte : (i : ℕ) → i < length l → get_or l i 0 < 256
      byte i h = ltb-true (get_or l i 0) 256 (all_at (λ b. ltb b 256) l i 0 e h)

      each : (k : ℕ) → SFits w16 (at (samples_of l) k)
      each k =
          either (SFits w16 (at (samples_of l) k)) (ltb (2 * k + 1) (length l))
          (λ t.
          let h = ltb-true (2 * k + 1) (length l) t in
          subst (SFits w16) (sym (samples_at l k h)) (sample_fits _ _ (byte (2 * k) (omega arith)) (byte (2 * k + 1) h)))
          (λ t. subst (SFits w16) (sym (samples_past l k (ltb-false (2 * k + 1) (length l) t))) none)

  -- ---- as code makes it
  pub read_made : (n : ℕ) (s : List ℤ) → n ≡ min frame_samples (length (samples_of l)) → s ≡ first_of frame_samples (pos 0) (samples_of l) → record { count = n; sof = s } ≡ read_of l
  unfolding read_of
  read_made n s e f = ap₂ (λ (m : ℕ) (t : List ℤ). record { count = m; sof = t }) e f
