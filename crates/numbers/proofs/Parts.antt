-- Signed numbers for `omega`. A number z of ℤ is `up z` less `down z`, two numbers of ℕ of which one is 0. Each operation and each
-- order of ℤ has one linear statement about these parts here, so that `omega (zarith, ..)` proves what is linear over ℤ: name one
-- fact (`plus a b`, `minus a b`, `times a b`, `of z`) for each operation and each magnitude that the statement speaks of.
-- Assumes nothing.
use mathlib.Core.Path.{◌≡◌, refl, ap, subst}
use mathlib.Core.Bool.{Bool, true, false, not, cond}
use Prim.Native.Nat.{ℕ, zero, suc, ◌+◌, ◌-◌, ◌*◌, ◌^◌, ◌<◌, ◌≤◌, max, min}
use native.Mathlib.Omega.{arith}
use lib.Dec.{T, ltb, le→leb, lt→ltb}
use borrow.Author.Tests.{ltb-true, ltb-false, leb-true, leb-false}
use lib.IntN.{ℤ, nat_abs, pos, negsuc, neg_ℤ, sub_ℕ, ◌+ℤ◌, ◌-ℤ◌, ◌*ℤ◌}
use lib.Signed.{mag, lt_z, le_z, non_neg, ◌≤ℤ◌, ◌<ℤ◌}
use mir.Syntax.{Width}
use mir.Val.{SFits, hbits}

abbrev pub up : ℤ → ℕ
up (pos k) = k
up (negsuc k) = 0

abbrev pub down : ℤ → ℕ
down (pos k) = 0
down (negsuc k) = suc k

-- ---- the operations

sub_by : (a b : ℕ) (t : Bool) → ltb a b ≡ t → up (cond t (negsuc (b - suc a)) (pos (a - b))) + b ≡ down (cond t (negsuc (b - suc a)) (pos (a - b))) + a
sub_by a b true e = omega (arith, ltb-true a b e)
sub_by a b false e = omega (arith, ltb-false a b e)

sub_both : (a b : ℕ) → up (sub_ℕ a b) + b ≡ down (sub_ℕ a b) + a
sub_both a b = sub_by a b (ltb a b) refl

pub neg : (a : ℤ) → (up (neg_ℤ a) ≡ down a) × (down (neg_ℤ a) ≡ up a)
neg (pos zero) = (refl, refl)
neg (pos (suc a)) = (refl, refl)
neg (negsuc a) = (refl, refl)

pub plus : (a b : ℤ) → up (a +ℤ b) + down a + down b ≡ down (a +ℤ b) + up a + up b
plus (pos a) (pos b) = omega arith
plus (pos a) (negsuc b) = omega (arith, sub_both a (suc b))
plus (negsuc a) (pos b) = omega (arith, sub_both b (suc a))
plus (negsuc a) (negsuc b) = omega arith

pub minus : (a b : ℤ) → up (a -ℤ b) + down a + up b ≡ down (a -ℤ b) + up a + down b
minus a b = omega (arith, plus a (neg_ℤ b), neg b)

pub times : (a b : ℤ) → (up (a *ℤ b) ≡ up a * up b + down a * down b) × (down (a *ℤ b) ≡ up a * down b + down a * up b)
times (pos a) (pos b) = (omega arith, omega arith)
times (pos a) (negsuc b) = (omega (arith, neg (pos (a * suc b))), omega (arith, neg (pos (a * suc b))))
times (negsuc a) (pos b) = (omega (arith, neg (pos (suc a * b))), omega (arith, neg (pos (suc a * b))))
times (negsuc a) (negsuc b) = (omega arith, omega arith)

-- ---- into ℕ: what a test, an order or a range says of the parts

is_true : (t : Bool) → T t → t ≡ true
is_true true h = refl
is_true false h = absurd h

pub lt_yes : (a b : ℤ) → lt_z a b ≡ true → up a + down b < up b + down a
lt_yes (pos a) (pos b) e = omega (arith, ltb-true a b e)
lt_yes (pos a) (negsuc b) e = absurd (subst (λ (t : Bool). T (not t)) e tt)
lt_yes (negsuc a) (pos b) e = omega arith
lt_yes (negsuc a) (negsuc b) e = omega (arith, ltb-true b a e)

pub lt_no : (a b : ℤ) → lt_z a b ≡ false → up b + down a ≤ up a + down b
lt_no (pos a) (pos b) e = omega (arith, ltb-false a b e)
lt_no (pos a) (negsuc b) e = omega arith
lt_no (negsuc a) (pos b) e = absurd (subst T e tt)
lt_no (negsuc a) (negsuc b) e = omega (arith, ltb-false b a e)

pub le_yes : (a b : ℤ) → le_z a b ≡ true → up a + down b ≤ up b + down a
le_yes (pos a) (pos b) e = omega (arith, leb-true a b e)
le_yes (pos a) (negsuc b) e = absurd (subst (λ (t : Bool). T (not t)) e tt)
le_yes (negsuc a) (pos b) e = omega arith
le_yes (negsuc a) (negsuc b) e = omega (arith, leb-true b a e)

pub le_no : (a b : ℤ) → le_z a b ≡ false → up b + down a < up a + down b
le_no (pos a) (pos b) e = omega (arith, leb-false a b e)
le_no (pos a) (negsuc b) e = omega arith
le_no (negsuc a) (pos b) e = absurd (subst T e tt)
le_no (negsuc a) (negsuc b) e = omega (arith, leb-false b a e)

pub le_rec : {a b : ℤ} → a ≤ℤ b → up a + down b ≤ up b + down a
le_rec {a} {b} h = le_yes a b (is_true (le_z a b) h.le)

pub lt_rec : {a b : ℤ} → a <ℤ b → up a + down b < up b + down a
lt_rec {a} {b} h = lt_yes a b (is_true (lt_z a b) h.lt)

-- the magnitude, and `mag`, by which a range is stated
pub of : (z : ℤ) → (up z ≤ mag z) × (down z ≤ suc (mag z)) × (nat_abs z ≡ up z + down z)
of (pos a) = omega arith
of (negsuc a) = omega arith

-- one of the parts is 0: for a number whose sign matters. It costs `omega` a case split, and six are its limit
pub sign : (z : ℤ) → min (up z) (down z) ≡ 0
sign (pos a) = omega arith
sign (negsuc a) = omega arith

-- the same number has the same parts
pub same : {a b : ℤ} → a ≡ b → (up a ≡ up b) × (down a ≡ down b)
same e = (ap up e, ap down e)

-- ---- out of ℕ: a statement over ℤ from a linear one of the parts

-- (up z < down z + 2 ^ hbits w and down z ≤ up z + 2 ^ hbits w, as one statement, which costs `omega` one case split)
pub in_range : (w : Width) (z : ℤ) → max (suc (up z) + up z) (down z + down z) ≤ down z + up z + 2 ^ hbits w → SFits w z
in_range w (pos a) h = record { sfits = omega (arith, h) }
in_range w (negsuc a) h = record { sfits = omega (arith, h) }

le_test : (a b : ℤ) → up a + down b ≤ up b + down a → T (le_z a b)
le_test (pos a) (pos b) h = le→leb a b (omega arith)
le_test (pos a) (negsuc b) h = absurd (omega arith)
le_test (negsuc a) (pos b) h = tt
le_test (negsuc a) (negsuc b) h = le→leb b a (omega arith)

pub le : (a b : ℤ) → up a + down b ≤ up b + down a → a ≤ℤ b
le a b h = record { le = le_test a b h }

lt_test : (a b : ℤ) → up a + down b < up b + down a → T (lt_z a b)
lt_test (pos a) (pos b) h = lt→ltb a b (omega arith)
lt_test (pos a) (negsuc b) h = absurd (omega arith)
lt_test (negsuc a) (pos b) h = tt
lt_test (negsuc a) (negsuc b) h = lt→ltb b a (omega arith)

pub lt : (a b : ℤ) → up a + down b < up b + down a → a <ℤ b
lt a b h = record { lt = lt_test a b h }

pub non_negative : (z : ℤ) → down z ≤ up z → T (non_neg z)
non_negative (pos a) h = tt
non_negative (negsuc a) h = absurd (omega arith)

pub eq : (a b : ℤ) → up a + down b ≡ up b + down a → a ≡ b
eq (pos a) (pos b) e = ap pos (omega arith)
eq (pos a) (negsuc b) e = absurd (omega arith)
eq (negsuc a) (pos b) e = absurd (omega arith)
eq (negsuc a) (negsuc b) e = ap negsuc (omega arith)

-- ---- and a test's outcome
is_false : (t : Bool) → (t ≡ true → ⊥) → t ≡ false
is_false true h = absurd (h refl)
is_false false h = refl

pub lt_true : (a b : ℤ) → up a + down b < up b + down a → lt_z a b ≡ true
lt_true a b h = is_true (lt_z a b) (lt_test a b h)

pub lt_false : (a b : ℤ) → up b + down a ≤ up a + down b → lt_z a b ≡ false
lt_false a b h = is_false (lt_z a b) (λ e. omega (arith, lt_yes a b e))

pub le_true : (a b : ℤ) → up a + down b ≤ up b + down a → le_z a b ≡ true
le_true a b h = is_true (le_z a b) (le_test a b h)

pub le_false : (a b : ℤ) → up b + down a < up a + down b → le_z a b ≡ false
le_false a b h = is_false (le_z a b) (λ e. omega (arith, le_yes a b e))

pub ruleset zarith = (arith, lt_yes, lt_no, le_yes, le_no, le_rec, lt_rec, in_range, non_negative, le, lt, eq, lt_true, lt_false, le_true, le_false)
