-- One sample: its number by its pattern, its range, and that it has its two bytes and no others. Assumes nothing.
use mathlib.Core.Path.{◌≡◌, sym, ◌∙◌}
use Prim.Native.Nat.{ℕ, ◌+◌, ◌*◌, ◌^◌, ◌<◌, ◌≤◌}
use native.Mathlib.Omega.{arith}
use lib.Dec.{ltb}
use borrow.Author.Tests.{lt-ltb, le-ltb, ltb-true, ltb-false}
use lib.IntN.{pos, ◌-ℤ◌}
use mir.Syntax.{w16}
use mir.Val.{SFits, hbits, to_z}
use mir.Facts.{to_z_pos}
use Rattle.numbers.proofs.Parts.{zarith, minus, same}
use Rattle.rows.proofs.Choice.{by_yes, by_no, either}
use Rattle.samples.specs.Samples.{pattern_of, sample_of}

module _ (lo hi : ℕ) where
  pub sample_low : lo + 256 * hi < 32768 → sample_of lo hi ≡ pos (lo + 256 * hi)
  unfolding sample_of pattern_of
  sample_low h = by_yes _ _ (lt-ltb (lo + 256 * hi) 32768 h)

  pub sample_high : 32768 ≤ lo + 256 * hi → sample_of lo hi ≡ pos (lo + 256 * hi) -ℤ pos 65536
  unfolding sample_of pattern_of
  sample_high h = by_no _ _ (le-ltb (lo + 256 * hi) 32768 h)

  -- a sample fits 16 bits
  pub sample_fits : lo < 256 → hi < 256 → SFits w16 (sample_of lo hi)
  sample_fits a b =
      either (SFits w16 (sample_of lo hi)) (ltb (lo + 256 * hi) 32768)
      (λ t. rw (sample_low (ltb-true _ _ t)) (let h = ltb-true (lo + 256 * hi) 32768 t in omega zarith))
      (λ t. rw (sample_high (ltb-false _ _ t)) (let h = ltb-false (lo + 256 * hi) 32768 t in omega (zarith, minus (pos (lo + 256 * hi)) (pos 65536))))

-- a pattern read as signed
pub sample_signed : (lo hi : ℕ) → lo < 256 → hi < 256 → to_z w16 (lo + 256 * hi) ≡ sample_of lo hi
sample_signed lo hi a b =
    either (to_z w16 (lo + 256 * hi) ≡ sample_of lo hi) (ltb (lo + 256 * hi) 32768)
    (λ t. to_z_pos w16 (ltb-true _ _ t) ∙ sym (sample_low lo hi (ltb-true _ _ t)))
    (λ t.
    let h = ltb-false _ _ t in
    rw (le-ltb (lo + 256 * hi) (2 ^ hbits w16) h, sample_high lo hi h) (omega (zarith, minus (pos (lo + 256 * hi)) (pos 65536))))

-- ---- a sample has its two bytes and no others
module _ (lo hi mo ni : ℕ) (a : lo < 256) (b : hi < 256) (c : mo < 256) (d : ni < 256) where
  same_pattern : sample_of lo hi ≡ sample_of mo ni → lo + 256 * hi ≡ mo + 256 * ni
  same_pattern e =
      let p = lo + 256 * hi in
      let q = mo + 256 * ni in
      either (p ≡ q) (ltb p 32768)
      (λ t. either (p ≡ q) (ltb q 32768)
      (λ u. low (sym (sample_low lo hi (ltb-true p 32768 t)) ∙ e ∙ sample_low mo ni (ltb-true q 32768 u)))
      (λ u. absurd (mixed p q (ltb-true p 32768 t) (omega arith) (sym (sample_low lo hi (ltb-true p 32768 t)) ∙ e ∙ sample_high mo ni (ltb-false q 32768 u)))))
      (λ t. either (p ≡ q) (ltb q 32768)
      (λ u. absurd (mixed q p (ltb-true q 32768 u) (omega arith) (sym (sample_low mo ni (ltb-true q 32768 u)) ∙ sym e ∙ sample_high lo hi (ltb-false p 32768 t))))
      (λ u. high p q (sym (sample_high lo hi (ltb-false p 32768 t)) ∙ e ∙ sample_high mo ni (ltb-false q 32768 u))))
    where
      low : {p q : ℕ} → pos p ≡ pos q → p ≡ q
      low h = (same h).0

      high : (p q : ℕ) → pos p -ℤ pos 65536 ≡ pos q -ℤ pos 65536 → p ≡ q
      high p q h = omega (arith, same h, minus (pos p) (pos 65536), minus (pos q) (pos 65536))

      mixed : (p q : ℕ) → p < 32768 → q < 65536 → pos p ≡ pos q -ℤ pos 65536 → ⊥
      mixed p q h k f = omega (arith, same f, minus (pos q) (pos 65536))

  pub bytes_back : sample_of lo hi ≡ sample_of mo ni → (lo ≡ mo) × (hi ≡ ni)
  bytes_back e = let h = same_pattern e in (omega arith, omega arith)
