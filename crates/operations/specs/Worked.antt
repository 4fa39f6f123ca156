-- Sums done by hand, as one table that the checker computes: a row is what the definitions make of a sum, and what the paper says it is.
-- A row's sides are lists of numbers, so that a pair or a run of flags is a row too: the table of all of document 01's starred sums
-- takes these rows over. Assumes nothing.
use Rattle.std.specs.Prelude.{◌≡◌, refl, List, [], ◌∷◌, ◌++◌, map, ℤ, pos, neg_ℤ}
use Rattle.std.specs.Int.Count.{count_leading_zeros}
use Rattle.numbers.specs.Floor.{residue}
use Rattle.numbers.specs.Clamp.{clamp}
use Rattle.numbers.specs.Wrap.{wrap}
use Rattle.operations.specs.Operations.{add, sub, l_add, l_sub, mult, mult_r, l_mult, abs, shift_left, shift_right, ◌<<◌, ◌>>◌, norm, over, div}

pub record Row : Type 0 where
  pub computed : List ℤ
  pub stated : List ℤ

-- each row's two sides are the same
abbrev pub Holds : List Row → Type 0
Holds rows = map (λ (r : Row). r.computed) rows ≡ map (λ (r : Row). r.stated) rows

infix 4 ◌is◌
abbrev pub ◌is◌ : ℤ → ℤ → Row
x is y = record { computed = x ∷ []; stated = y ∷ [] }

-- ---- document 01, 'Arithmetic' and 'Sums done by hand'
unfoldable pub stated : List Row
stated =
    (neg_ℤ (pos 4) << pos 30 is pos 0)
    ∷ (neg_ℤ (pos 3) << pos 30 is pos 1073741824)
    ∷ (l_mult (neg_ℤ (pos 32768)) (neg_ℤ (pos 32768)) is pos 2147483647)
    ∷ (mult_r (neg_ℤ (pos 32768)) (neg_ℤ (pos 32768)) is pos 32767)
    ∷ (abs (neg_ℤ (pos 32768)) is pos 32767)
    ∷ (div (pos 0) (pos 0) is pos 0)
    ∷ (div (pos 0) (pos 5) is pos 0)
    ∷ (div (pos 5) (pos 5) is pos 32767)
    ∷ (div (pos 1) (pos 3) is pos 10922)
    ∷ (norm (pos 0) is pos 0)
    ∷ (norm (pos 1) is pos 30)
    ∷ (norm (pos 2147483647) is pos 0)
    ∷ []

-- ---- GSM 06.10's own, and the ends of the ranges
unfoldable pub ends : List Row
ends =
    (add (pos 32767) (pos 1) is pos 32767)
    ∷ (sub (neg_ℤ (pos 32768)) (pos 1) is neg_ℤ (pos 32768))
    ∷ (l_add (pos 2147483647) (pos 1) is pos 2147483647)
    ∷ (l_sub (neg_ℤ (pos 2147483648)) (pos 1) is neg_ℤ (pos 2147483648))
    ∷ (l_sub (pos 0) (neg_ℤ (pos 2147483648)) is pos 2147483647)
    ∷ (mult (neg_ℤ (pos 32768)) (neg_ℤ (pos 32768)) is pos 32767)
    ∷ (mult (neg_ℤ (pos 1)) (pos 1) is neg_ℤ (pos 1))
    ∷ (mult_r (neg_ℤ (pos 1)) (pos 1) is pos 0)
    ∷ (neg_ℤ (pos 1) >> pos 1 is neg_ℤ (pos 1))
    ∷ []

-- ---- what docs/DECISIONS.md decides
unfoldable pub decided : List Row
decided =
    (pos 1 << pos 31 is neg_ℤ (pos 2147483648))
    ∷ (pos 1 << pos 32 is pos 0)
    ∷ (pos 1 >> pos 40 is pos 0)
    ∷ (neg_ℤ (pos 1) >> pos 40 is neg_ℤ (pos 1))
    ∷ (pos 12 << neg_ℤ (pos 2) is pos 3)
    ∷ (norm (neg_ℤ (pos 1)) is pos 30)
    ∷ (norm (neg_ℤ (pos 1073741824)) is pos 0)
    ∷ (norm (neg_ℤ (pos 2147483648)) is pos 0)
    ∷ (div (pos 5) (pos 3) is pos 32767)
    ∷ (div (pos 5) (pos 0) is pos 32767)
    ∷ (div (neg_ℤ (pos 5)) (pos 0) is neg_ℤ (pos 32768))
    ∷ (div (neg_ℤ (pos 1)) (pos 3) is neg_ℤ (pos 10923))
    ∷ (div (pos 1) (neg_ℤ (pos 3)) is neg_ℤ (pos 10923))
    ∷ []

pub table : Holds (stated ++ ends ++ decided)
unfolding stated ends decided add sub l_add l_sub mult mult_r l_mult abs shift_left shift_right norm over div count_leading_zeros residue clamp wrap
table = refl
