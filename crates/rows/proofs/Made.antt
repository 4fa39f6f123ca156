-- Rows that the library makes by a call at each entry of another row (`map`), or at each index (`from_fn`). A lemma takes what one call says,
-- of a function that a call leaves as it was. Assumes nothing.
use Prim.Native.Nat.{ℕ, zero, suc, ◌+◌, ◌<◌}
use mathlib.Core.Path.{◌≡◌, refl, sym, ap₂, subst, ◌∙◌}
use mathlib.Core.List.{List, [], ◌∷◌, ◌++◌}
use native.Mathlib.Nat.{zero-add, add-zero}
use native.Mathlib.Numerals.{add-one}
use native.Mathlib.Omega.{arith}
use lib.IntN.{ℤ, pos}
use lib.ListN.{length, take, get_or}
use lib.Seq.{take-suc}
use mir.Syntax.{Width}
use mir.Val.{SFits, Val}
use denote.Array.{each}
use denote.Param.Members.{Mut, Called}
use denote.Shadow.{shadow}
use denote.Signed.{SInt}
use Rattle.std.specs.Array.{MapsFrom, IsMapOf, IsFromFnResultFrom, IsFromFnResult}
use Rattle.rows.specs.Rows.{row}
use Rattle.rows.proofs.Fill.{fill_none, fill_all, fill_rest}

-- ---- a row whose entries are f's
pub row_by : {A : Type 0} (l : List A) (f : ℕ → A) (n : ℕ) (z : A) → length l ≡ n → ((k : ℕ) → k < n → get_or l k z ≡ f k) → l ≡ row n f
row_by l f n z h e = fill_rest l l f n 0 z h (omega arith) (fill_none l f) refl (λ k u v. e k v)

-- ---- each entry of an array of signed numbers fits its width: the array is well formed
pub fits_at : (w : Width) (xs : List ℤ) (us : List Val) → shadow (each ℤ (SInt w).own_val xs us) → (k : ℕ) (z : ℤ) → k < length xs → SFits w (get_or xs k z)
fits_at w [] us s k z h = absurd (omega arith)
fits_at w (x ∷ xs) [] s k z h = absurd s
fits_at w (x ∷ xs) (u ∷ us) s zero z h = record { sfits = s.0.1 }
fits_at w (x ∷ xs) (u ∷ us) s (suc k) z h = fits_at w xs us s.1 k z (omega arith)

-- ---- a call at each entry
module _ {F A B : Type 0} (g : Mut F (A × Unit {0}) B) (f : F) (xs : List A) (ys : List B) (n : ℕ) (d : A) (e : B) (h : ℕ → B)
    (one : (i : ℕ) → i < n → (y : B) (q : F) → Called g f (get_or xs i d, tt) y q → (y ≡ h i) × (q ≡ f)) where
  maps_at : (i m : ℕ) (p : F) → p ≡ f → i + m ≡ n → MapsFrom g p xs ys i m → (k : ℕ) → k < m → get_or ys (i + k) e ≡ h (i + k)
  maps_at i zero p s t r k u = absurd (omega arith)
  maps_at i (suc m) p s t r zero u =
      let c = subst (λ (w : F). Called g w (get_or xs i d, tt) r.2 r.0) s (subst (λ (x : A). Called g p (x, tt) r.2 r.0) (sym (r.3.1 d)) r.5) in
      rw (add-zero i) (r.4.1 e ∙ (one i (omega arith) r.2 r.0 c).0)
  maps_at i (suc m) p s t r (suc k) u =
      let c = subst (λ (w : F). Called g w (get_or xs i d, tt) r.2 r.0) s (subst (λ (x : A). Called g p (x, tt) r.2 r.0) (sym (r.3.1 d)) r.5) in
      let j : i + 1 + k ≡ i + suc k = omega arith in
      subst (λ (a : ℕ). get_or ys a e ≡ h a) j (maps_at (i + 1) m r.0 (one i (omega arith) r.2 r.0 c).1 (omega (arith, t)) r.6 k (omega arith))

  pub mapped : IsMapOf g f xs ys n → ys ≡ row n h
  mapped r = row_by ys h n e r.long (λ k u. subst (λ (a : ℕ). get_or ys a e ≡ h a) (zero-add k) (maps_at 0 n f refl (zero-add n) r.each k u))

-- the same of an array of signed numbers, each of which fits its width
pub mapped_fits : {F B : Type 0} (w : Width) (g : Mut F (ℤ × Unit {0}) B) (f : F) (xs : List ℤ) (us : List Val) (ys : List B) (n : ℕ) (e : B) (h : ℕ → B)
    → shadow (each ℤ (SInt w).own_val xs us) → length xs ≡ n
    → ((i : ℕ) → i < n → SFits w (get_or xs i (pos 0)) → (y : B) (q : F) → Called g f (get_or xs i (pos 0), tt) y q → (y ≡ h i) × (q ≡ f))
    → IsMapOf g f xs ys n → ys ≡ row n h
mapped_fits w g f xs us ys n e h a l one = mapped g f xs ys n (pos 0) e h (λ i u. one i u (fits_at w xs us a i (pos 0) (omega (arith, l))))

-- ---- a call at each index
module _ {F B : Type 0} (g : Mut F (ℕ × Unit {0}) B) (h : ℕ → B) (f : F) (n : ℕ)
    (says : (i : ℕ) (y : B) (q : F) → i < n → Called g f (i, tt) y q → (y ≡ h i) × (q ≡ f)) where
  made_from : (m i : ℕ) (ys : List B) → i + m ≡ n → length ys ≡ n → take i ys ≡ row i h → IsFromFnResultFrom g f ys i m → ys ≡ row n h
  unfolding row
  made_from zero i ys e l p r = fill_all ys h n i l (omega arith) p
  made_from (suc m) i ys e l p r =
      let s = says i r.1 r.0 (omega arith) r.3 in
      let t : take (suc i) ys ≡ row (suc i) h = take-suc ys i r.1 (omega arith) ∙ ap₂ (λ (a : List B) (v : B). a ++ (v ∷ [])) p (r.2.0 ∙ s.0) in
      made_from m (i + 1) ys (omega arith) l (rw add-one t) (subst (λ (q : F). IsFromFnResultFrom g q ys (i + 1) m) s.1 r.4)

  pub made : (ys : List B) → IsFromFnResult g f ys n → ys ≡ row n h
  made ys r = made_from n 0 ys (omega arith) r.long (fill_none ys h) r.each
