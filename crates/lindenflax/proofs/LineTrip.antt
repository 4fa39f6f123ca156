-- Through the interface, a frame that is written to a line reads back as its numbers, its lags and its scale, and an accepted line written
-- again gives the same bytes. Assumes nothing.
use mathlib.Core.Path.{◌≡◌, sym, ap, ◌∙◌}
use mathlib.Core.List.{List, [], ◌∷◌}
use Prim.Native.Nat.{ℕ, ◌<◌}
use native.Mathlib.Omega.{arith}
use lib.Dec.{eqb}
use borrow.Author.Tests.{eqb-true, eqb-false}
use lib.IntN.{ℤ}
use lib.ListN.{length}
use mir.Syntax.{w32}
use mir.Val.{SFits}
use Rattle.numbers.specs.Sum.{at}
use Rattle.rows.proofs.Choice.{either}
use Rattle.lines.specs.declared.Frame.{Frame}
use Rattle.lines.specs.Answers.{write_of, line_after, Heading}
use Rattle.lines.proofs.Answers.{lengths_yes}
use Rattle.lines.proofs.RoundTrip.{left, lent_write_then_read, lent_read_then_write}
use Rattle.lindenflax.specs.Lines.{read_number, read_acf, read_lags, read_scale, framed, write_number, write_line}
use Rattle.lindenflax.proofs.Lines.{no_scale, one_scale, stored}

-- a frame of 32-bit numbers that is written, read into buffers of the right lengths
module _ (acf : List ℤ) (lags : List ℕ) (scale : ℤ) (o : List ℕ) where
  abbrev line : List ℕ
  line = write_line acf lags scale o

  pub written_reads_back : (a : List ℤ) (g : List ℕ) (s : List ℤ) → ((i : ℕ) → i < 9 → SFits w32 (at acf i)) → write_number acf lags scale o ≡ 0
      → length a ≡ 9 → length g ≡ 4 → length s ≡ 1
      → (read_number line a g s ≡ 0) × (read_acf line a g s ≡ acf) × (read_lags line a g s ≡ lags) × (read_scale line a g s ≡ scale ∷ [])
  unfolding write_number write_line
  written_reads_back a g s w e n m k =
      let t = lent_write_then_read (framed acf lags scale) o a g w e (lengths_yes a g n m) in
      let z = one_scale line a g s k ∙ ap (λ (h : Heading). h.refusal) t.0 in
      let b = (stored line a g s z).1 in
      (z, sym b.0 ∙ t.1, sym b.1.0 ∙ t.2, sym b.1.1 ∙ ap (λ (h : Heading). h.scale ∷ []) t.0)

-- a line that is accepted, and what it left written into any line of 82 bytes
module _ (line : List ℕ) (a : List ℤ) (g : List ℕ) (s : List ℤ) where
  -- the numbers, the lags and the scale that are left, as a frame
  abbrev frame : Frame
  frame = framed (read_acf line a g s) (read_lags line a g s) (at (read_scale line a g s) 0)

  one : read_number line a g s ≡ 0 → length s ≡ 1
  one e =
      either (length s ≡ 1) (eqb (length s) 1) (eqb-true (length s) 1)
      (λ t. absurd (let z = sym (no_scale line a g s (eqb-false (length s) 1 t)) ∙ e in omega arith))

  pub read_writes_back : (o : List ℕ) → read_number line a g s ≡ 0 → length o ≡ 82
      → let f = frame in (write_number f.acf f.lags f.scale o ≡ 0) × (write_line f.acf f.lags f.scale o ≡ line)
  unfolding write_number write_line
  read_writes_back o e n =
      let b = (stored line a g s e).1 in
      let p : frame ≡ left a g line = rw (sym b.0, sym b.1.0, sym b.1.1) in
      let w = lent_read_then_write a g line o (sym (one_scale line a g s (one e)) ∙ e) n in
      (ap (λ (f : Frame). write_of f o) p ∙ w.0, ap (λ (f : Frame). line_after f o) p ∙ w.1)
