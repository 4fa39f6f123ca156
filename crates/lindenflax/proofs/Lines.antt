-- Each way out of reading a line through the interface: the number and what is left in each buffer. Assumes nothing.
use mathlib.Core.Path.{◌≡◌, sym, ap, ◌∙◌}
use mathlib.Core.List.{List, [], ◌∷◌}
use Prim.Native.Nat.{ℕ}
use borrow.Author.Tests.{eq-eqb, ne_eqb}
use lib.IntN.{ℤ}
use lib.ListN.{length, set}
use Rattle.rows.specs.Choice.{IF◌THEN◌ELSE◌}
use Rattle.rows.specs.Rows.{row}
use Rattle.lines.specs.Answers.{read_of, acf_after, lags_after, Heading}
use Rattle.lines.proofs.Answers.{read_kept}
use Rattle.lindenflax.specs.Lines.{read_number, read_acf, read_lags, read_scale}
use Rattle.lindenflax.proofs.Parted.{spread}

-- a store into a run of one number
single : (l : List ℤ) (z : ℤ) → length l ≡ 1 → set l 0 z ≡ z ∷ []
unfolding row
single l z h = rw (spread l 1 h)

module _ (line : List ℕ) (acf : List ℤ) (lags : List ℕ) (scale : List ℤ) where
  abbrev number : ℕ
  number = read_number line acf lags scale

  -- the number n is answered, and a, g and s are left
  abbrev Left : ℕ → List ℤ → List ℕ → List ℤ → Type 0
  Left n a g s = (n ≡ number) × ((a ≡ read_acf line acf lags scale) × ((g ≡ read_lags line acf lags scale) × (s ≡ read_scale line acf lags scale)))

  pub no_scale : (length scale ≡ 1 → ⊥) → number ≡ 1
  unfolding read_number IF◌THEN◌ELSE◌
  no_scale h = rw (ne_eqb (length scale) 1 h)

  pub one_scale : length scale ≡ 1 → number ≡ (read_of acf lags line).refusal
  unfolding read_number IF◌THEN◌ELSE◌
  one_scale h = rw (eq-eqb (length scale) 1 h)

  -- a number that is not 0 leaves what was lent
  pub kept : (n : ℕ) → number ≡ n → (n ≡ 0 → ⊥) → Left n acf lags scale
  unfolding read_acf read_lags read_scale IF◌THEN◌ELSE◌
  kept n e h = let t = ne_eqb number 0 (λ z. h (sym e ∙ z)) in (sym e, (rw t, (rw t, rw t)))

  -- and 0 leaves the frame
  pub stored : number ≡ 0 → Left 0 (acf_after acf lags line) (lags_after acf lags line) ((read_of acf lags line).scale ∷ [])
  unfolding read_acf read_lags read_scale IF◌THEN◌ELSE◌
  stored e = let t = eq-eqb number 0 e in (sym e, (rw t, (rw t, rw t)))

  -- ---- by what `lines::read` answered and left
  module _ (r : Heading) (a : List ℤ) (g : List ℕ) (p : r ≡ read_of acf lags line) (q : a ≡ acf_after acf lags line) (t : g ≡ lags_after acf lags line) (o : length scale ≡ 1) where
    same : number ≡ r.refusal
    same = one_scale o ∙ ap (λ (x : Heading). x.refusal) (sym p)

    pub refused_left : (r.refusal ≡ 0 → ⊥) → Left r.refusal a g scale
    refused_left h =
        let k = kept r.refusal same h in
        let l = read_kept acf lags line r (sym p) h in
        (k.0, (q ∙ (sym l.1.0 ∙ k.1.0), (t ∙ (sym l.1.1 ∙ k.1.1.0), k.1.1.1)))

    pub accepted_left : r.refusal ≡ 0 → Left 0 a g (set scale 0 r.scale)
    accepted_left h =
        let k = stored (same ∙ h) in
        (k.0, (q ∙ k.1.0, (t ∙ k.1.1.0, single scale r.scale o ∙ (ap (λ (x : Heading). x.scale ∷ []) p ∙ k.1.1.1))))
