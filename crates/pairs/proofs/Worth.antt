-- The comparison of pairs is that of their worths, for pairs with a normalised mantissa and an exponent from -32 on, and for the silent pair.
-- Assumes nothing.
use mathlib.Core.Path.{◌≡◌, refl, sym, ap, ◌∙◌, subst}
use mathlib.Core.Bool.{true, false}
use mathlib.Core.Logic.{◌↔◌, ◌⊎◌, ⊎_elim}
use Prim.Native.Nat.{ℕ, suc, ◌*◌, ◌^◌, ◌<◌, ◌≤◌}
use native.Mathlib.Nat.{zero-mul, mul-le-mul, mul-le-mul_right, mul-lt-mul_of_pos_right, pow-suc}
use native.Mathlib.Omega.{arith}
use lib.Dec.{T}
use lib.IntN.{ℤ, nat_abs, pos, negsuc, ◌+ℤ◌}
use lib.Pow.{pow_mono, pow_pos}
use lib.Signed.{lt_z, ◌≤ℤ◌}
use Rattle.numbers.proofs.Parts.{zarith, of, sign, plus}
use Rattle.rows.proofs.Choice.{either}
use Rattle.pairs.specs.declared.Pair.{Pair}
use Rattle.pairs.specs.Pairs.{greater_of, silent, worth_of}
use Rattle.pairs.proofs.Order.{above, below, level}
use Rattle.pairs.proofs.Range.{Mantissa, Ranged}

pub record Normalised (p : Pair) : Type 0 where
  pub e_low : negsuc 31 ≤ℤ p.e
  pub mantissa : Mantissa p.m

pub normalised : (hi : ℤ) {p : Pair} → Ranged (negsuc 31) hi p → Normalised p
normalised hi r = record { e_low = r.e_low; mantissa = r.mantissa }

-- ---- over natural numbers: the larger exponent decides
pow_lt : (d e k n : ℕ) → k < 2 ^ 15 → 2 ^ 14 ≤ n → d < e → k * 2 ^ d < n * 2 ^ e
pow_lt d e k n hk hn h =
    omega (arith, pow_pos d, mul-le-mul_right (2 ^ d) hk, mul-le-mul {n₁ = 2 ^ 14} {m₁ = 2 ^ suc d} {n₂ = n} {m₂ = 2 ^ e} hn (pow_mono h), pow-suc 2 d, ap (λ (x : ℕ). 2 ^ 14 * x) (pow-suc 2 d))

contrary : {X : Type 0} → true ≡ false → X
contrary e = absurd (subst T e tt)

-- ---- the parts of a normalised pair
module _ (p : Pair) (P : Normalised p) where
  m_in : (2 ^ 14 ≤ nat_abs p.m) × (nat_abs p.m < 2 ^ 15)
  m_in = let m = P.mantissa in (omega (zarith, m.low, of p.m), omega (zarith, m.low, m.high, of p.m, sign p.m))

module _ (a b : Pair) (A : Normalised a) (B : Normalised b) where
  by_e : lt_z b.e a.e ≡ true → worth_of b < worth_of a
  unfolding worth_of
  by_e t =
      let x = a.e +ℤ pos 32 in
      let y = b.e +ℤ pos 32 in
      pow_lt (nat_abs y) (nat_abs x) (nat_abs b.m) (nat_abs a.m) (m_in b B).1 (m_in a A).0
      (omega (zarith, A.e_low, B.e_low, plus a.e (pos 32), plus b.e (pos 32), of x, of y, sign x, sign y))

  by_m : a.e ≡ b.e → lt_z b.m a.m ≡ true → worth_of b < worth_of a
  unfolding worth_of
  by_m e t =
      subst (λ (z : ℤ). nat_abs b.m * 2 ^ nat_abs (z +ℤ pos 32) < nat_abs a.m * 2 ^ nat_abs (a.e +ℤ pos 32)) e
      (mul-lt-mul_of_pos_right (omega (zarith, B.mantissa.low, of a.m, of b.m, sign b.m)) (pow_pos (nat_abs (a.e +ℤ pos 32))))

  not_m : a.e ≡ b.e → lt_z b.m a.m ≡ false → worth_of a ≤ worth_of b
  unfolding worth_of
  not_m e t =
      subst (λ (z : ℤ). nat_abs a.m * 2 ^ nat_abs (a.e +ℤ pos 32) ≤ nat_abs b.m * 2 ^ nat_abs (z +ℤ pos 32)) e
      (mul-le-mul_right (2 ^ nat_abs (a.e +ℤ pos 32)) (omega (zarith, A.mantissa.low, of a.m, of b.m, sign a.m)))

module _ (a b : Pair) (A : Normalised a) (B : Normalised b) where
  pub greater_worth : (greater_of a b ≡ true) ↔ (worth_of b < worth_of a)
  greater_worth = (to, from)
    where
      to : greater_of a b ≡ true → worth_of b < worth_of a
      to g =
          either (worth_of b < worth_of a) (lt_z b.e a.e) (by_e a b A B)
          (λ s. either (worth_of b < worth_of a) (lt_z a.e b.e) (λ t. contrary (sym (below a b t ∙ g)))
          (λ t. by_m a b A B (omega zarith) (level a b s t ∙ g)))

      from : worth_of b < worth_of a → greater_of a b ≡ true
      from w =
          either (greater_of a b ≡ true) (lt_z b.e a.e) (λ s. sym (above a b s))
          (λ s. either (greater_of a b ≡ true) (lt_z a.e b.e) (λ t. absurd (omega (arith, by_e b a B A t)))
          (λ t. either (greater_of a b ≡ true) (lt_z b.m a.m) (λ u. sym (level a b s t) ∙ u) (λ u. absurd (omega (arith, not_m a b A B (omega zarith) u)))))

-- ---- the silent pair is worth nothing, and less than any other
module _ (p : Pair) (P : Normalised p) where
  some : 0 < worth_of p
  unfolding worth_of
  some = omega (arith, m_in p P, mul-le-mul {n₁ = 1} {m₁ = 1} {n₂ = nat_abs p.m} {m₂ = 2 ^ nat_abs (p.e +ℤ pos 32)} (omega (arith, m_in p P)) (pow_pos (nat_abs (p.e +ℤ pos 32))))

  under : lt_z (negsuc 32767) p.e ≡ true
  under = omega (zarith, P.e_low)

nothing : worth_of silent ≡ 0
unfolding worth_of
nothing = zero-mul (2 ^ 32736)

pub silent_least : (p : Pair) → Normalised p → (greater_of p silent ≡ true) ↔ (worth_of silent < worth_of p)
silent_least p P = (λ g. omega (arith, nothing, some p P), λ w. sym (above p silent (under p P)))

pub silent_below : (p : Pair) → Normalised p → (greater_of silent p ≡ true) ↔ (worth_of p < worth_of silent)
silent_below p P = (λ g. contrary (sym (below silent p (under p P) ∙ g)), λ w. absurd (omega (arith, nothing, some p P)))

-- ---- both kinds
abbrev pub Valued : Pair → Type 0
Valued p = Normalised p ⊎ (p ≡ silent)

neither : (greater_of silent silent ≡ true) ↔ (worth_of silent < worth_of silent)
neither = (λ g. contrary (sym (level silent silent refl refl ∙ g)), λ w. absurd (omega arith))

pub worth_order : (a b : Pair) → Valued a → Valued b → (greater_of a b ≡ true) ↔ (worth_of b < worth_of a)
worth_order a b va vb =
    ⊎_elim
    (λ A. ⊎_elim (λ B. greater_worth a b A B) (λ e. subst (λ (x : Pair). (greater_of a x ≡ true) ↔ (worth_of x < worth_of a)) (sym e) (silent_least a A)) vb)
    (λ d. subst (λ (x : Pair). (greater_of x b ≡ true) ↔ (worth_of b < worth_of x)) (sym d)
    (⊎_elim (λ B. silent_below b B) (λ e. subst (λ (x : Pair). (greater_of silent x ≡ true) ↔ (worth_of x < worth_of silent)) (sym e) neither) vb))
    va
