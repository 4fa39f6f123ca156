-- What `call` and `reset` share: the place of a channel's state, and what the test of the bank says.
-- Assumes nothing.
use mathlib.Core.Path.{◌≡◌, refl, sym, subst, ◌∙◌}
use mathlib.Core.Bool.{Bool, true, false, not, ◌&&◌}
use Prim.Native.Nat.{ℕ, ◌<◌, ◌≤◌, ◌^◌, ◌*◌}
use native.Mathlib.Omega.{arith}
use native.Mathlib.Nat.{lt_trans, lt_of_le_of_lt, le_of_lt, mul-le-mul_right}
use lib.Dec.{T as Holds, leb, ltb, ltb→lt, leb→le, lit<}
use mir.Facts.{and_yes}
use prog.Memory.{size}
use Rattle.state.proofs.State.TheLaws as T'
use Rattle.card.specs.Card.{in_bank}

-- looked at first: a definition that is wrong is refused by an instance that comes out otherwise

-- how many bytes a state takes
abbrev pub bytes : ℕ
bytes = size T'.mir

-- the bytes before element i fit, since all the elements' do
pub fits_in : (k i n : ℕ) → i < n → n * k < 2 ^ 63 → i * k < 2 ^ 64
fits_in k i n l m = lt_trans (lt_of_le_of_lt (mul-le-mul_right k (le_of_lt l)) m) (lit< tt)

-- what the test says
pub inside : (n i : ℕ) → Holds (in_bank n i) → i < n
unfolding in_bank
inside n i t = ltb→lt i n (and_yes (leb n 64) (ltb i n) (and_yes (leb 1 n) (leb n 64 && ltb i n) t).1).1

pub at_most : (n i : ℕ) → Holds (in_bank n i) → n ≤ 64
unfolding in_bank
at_most n i t = leb→le n 64 (and_yes (leb n 64) (ltb i n) (and_yes (leb 1 n) (leb n 64 && ltb i n) t).1).0

-- the same where the test's answer is r
module _ (n i : ℕ) {r : Bool} (e : r ≡ in_bank n i) (y : r ≡ true) where
  tested : Holds (in_bank n i)
  tested = subst Holds (sym (sym e ∙ y)) tt

  pub below : i < n
  below = inside n i tested

  pub below_64 : i < 64
  below_64 = let l = below in let m = at_most n i tested in omega arith

pub holds : (t : Bool) → Holds t → t ≡ true
holds true _ = refl
holds false z = absurd z

pub fails : (t : Bool) → Holds (not t) → t ≡ false
fails true z = absurd z
fails false _ = refl
