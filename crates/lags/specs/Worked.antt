-- Document 01's lag pairs, counted and not, as one table that the checker computes. Assumes nothing.
use Rattle.std.specs.Prelude.{◌≡◌, refl, Bool, true, false, List, [], ◌∷◌, map, ℕ}
use Rattle.lags.specs.Lags.{smallag_of, counted_of}

pub record Beside : Type 0 where
  pub lag : ℕ
  pub oldlag : ℕ
  pub counted : Bool

infix 4 ◌/◌counts◌
abbrev pub ◌/◌counts◌ : ℕ → ℕ → Bool → Beside
a / b counts t = record { lag = a; oldlag = b; counted = t }

unfoldable pub stated : List Beside
stated =
    (40 / 40 counts true)
    ∷ (41 / 40 counts true)
    ∷ (79 / 40 counts true)
    ∷ (119 / 60 counts true)
    ∷ (42 / 40 counts false)
    ∷ (78 / 40 counts false)
    ∷ (120 / 61 counts false)
    ∷ []

pub table : map (λ (p : Beside). counted_of p.oldlag p.lag) stated ≡ map (λ (p : Beside). p.counted) stated
unfolding stated counted_of smallag_of
table = refl
