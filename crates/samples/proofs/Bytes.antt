-- The samples of some bytes: how many they are, and which bytes make each. Assumes nothing.
use mathlib.Core.Path.{◌≡◌, refl, ap, ap₂, ◌∙◌}
use mathlib.Core.List.{List, [], ◌∷◌}
use Prim.Native.Nat.{ℕ, zero, suc, ◌+◌, ◌*◌, ◌<◌, ◌≤◌}
use native.Mathlib.Omega.{arith}
use lib.IntN.{ℤ, pos}
use lib.ListN.{length, get_or, take, drop, get_or-eq_default}
use Rattle.std.proofs.Common.{drop-drop, get_or-drop, get_or-take}
use Rattle.std.specs.Simd.{first_chunks}
use Rattle.samples.specs.Samples.{sample_of, samples_of}

-- two bytes a sample, and at most one byte more
pub samples_count : (l : List ℕ) → (2 * length (samples_of l) ≤ length l) × (length l ≤ 2 * length (samples_of l) + 1)
unfolding samples_of
samples_count [] = (omega arith, omega arith)
samples_count (lo ∷ []) = (omega arith, omega arith)
samples_count (lo ∷ hi ∷ l) = let h = samples_count l in (omega arith, omega arith)

pub samples_at : (l : List ℕ) (k : ℕ) → 2 * k + 1 < length l → get_or (samples_of l) k (pos 0) ≡ sample_of (get_or l (2 * k) 0) (get_or l (2 * k + 1) 0)
unfolding samples_of
samples_at [] k h = absurd (omega arith)
samples_at (lo ∷ []) k h = absurd (omega arith)
samples_at (lo ∷ hi ∷ l) zero h = refl
samples_at (lo ∷ hi ∷ l) (suc k) h =
    let a : suc (suc (2 * k)) ≡ 2 * suc k = omega arith in
    let b : suc (suc (2 * k + 1)) ≡ 2 * suc k + 1 = omega arith in
    samples_at l k (omega arith) ∙ ap₂ (λ (i j : ℕ). sample_of (get_or (lo ∷ hi ∷ l) i 0) (get_or (lo ∷ hi ∷ l) j 0)) a b

pub samples_past : (l : List ℕ) (k : ℕ) → length l ≤ 2 * k + 1 → get_or (samples_of l) k (pos 0) ≡ pos 0
samples_past l k h = let c = samples_count l in get_or-eq_default (samples_of l) (pos 0) (omega arith)

-- the samples of the first bytes are the first samples
pub samples_take : (n : ℕ) (l : List ℕ) → samples_of (take (2 * n) l) ≡ take n (samples_of l)
unfolding samples_of
samples_take zero l = refl
samples_take (suc n) [] = let a : 2 * suc n ≡ suc (suc (2 * n)) = omega arith in ap (λ (i : ℕ). samples_of (take i [])) a
samples_take (suc n) (lo ∷ []) = let a : 2 * suc n ≡ suc (suc (2 * n)) = omega arith in ap (λ (i : ℕ). samples_of (take i (lo ∷ []))) a
samples_take (suc n) (lo ∷ hi ∷ l) =
    let a : 2 * suc n ≡ suc (suc (2 * n)) = omega arith in
    ap (λ (i : ℕ). samples_of (take i (lo ∷ hi ∷ l))) a ∙ ap (λ (s : List ℤ). sample_of lo hi ∷ s) (samples_take n l)

-- ---- the bytes in pairs
pair_at : (n k : ℕ) (l : List ℕ) → k < n → get_or (first_chunks 2 n l) k [] ≡ take 2 (drop (2 * k) l)
pair_at zero k l h = absurd (omega arith)
pair_at (suc n) zero l h = refl
pair_at (suc n) (suc k) l h =
    let a : 2 + 2 * k ≡ 2 * suc k = omega arith in
    pair_at n k (drop 2 l) (omega arith) ∙ ap (take 2) (drop-drop (2 * k) 2 l ∙ ap (λ (i : ℕ). drop i l) a)

-- a byte of the pair k of the first m pairs
pub byte_at : (m n k i : ℕ) (l : List ℕ) → k < m → k < n → i < 2 → get_or (get_or (take m (first_chunks 2 n l)) k []) i 0 ≡ get_or l (2 * k + i) 0
byte_at m n k i l h g f =
    ap (λ (p : List ℕ). get_or p i 0) (get_or-take m (first_chunks 2 n l) k [] h ∙ pair_at n k l g) ∙ (get_or-take 2 (drop (2 * k) l) i 0 f ∙ get_or-drop (2 * k) l i 0)
