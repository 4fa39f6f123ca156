-- The largest magnitude by the largest and the least number: a number that is not negative is its own magnitude, and of those that are negative
-- the least has the largest. Assumes nothing.
use mathlib.Core.Path.{◌≡◌, refl, ap, ◌∙◌}
use mathlib.Core.List.{List}
use Prim.Native.Nat.{ℕ, suc}
use native.Mathlib.Omega.{arith}
use lib.IntN.{ℤ, pos}
use lib.Signed.{lt_z, ◌≤ℤ◌}
use mir.Syntax.{w16}
use mir.Val.{SFits}
use Rattle.std.specs.Int.{int_max, int_min}
use Rattle.std.proofs.lemmas.Int.{ints}
use Rattle.numbers.specs.Clamp.{clamp}
use Rattle.numbers.specs.Sum.{at}
use Rattle.numbers.proofs.Parts.{zarith, of, sign}
use Rattle.operations.specs.Operations.{abs}
use Rattle.rows.specs.Choice.{IF◌THEN◌ELSE◌}
use Rattle.rows.proofs.Choice.{by_test, either}
use Rattle.tone.specs.Autocorrelation.{smax_of}

abbrev pub greater_of : ℤ → ℤ → ℤ
greater_of x y = IF lt_z x y THEN y ELSE x

abbrev pub lesser_of : ℤ → ℤ → ℤ
lesser_of x y = IF lt_z y x THEN y ELSE x

-- ---- as the library has them
pub max_is : (x y : ℤ) → int_max x y ≡ greater_of x y
max_is x y = by_test (λ (z : ℤ). int_max x y ≡ z) (lt_z x y) y x (λ t. grind (arith, ints)) (λ t. grind (arith, ints))

pub min_is : (x y : ℤ) → int_min x y ≡ lesser_of x y
min_is x y = by_test (λ (z : ℤ). int_min x y ≡ z) (lt_z y x) y x (λ t. grind (arith, ints)) (λ t. grind (arith, ints))

-- ---- the greater is the least number that is above both
left : (x y : ℤ) → x ≤ℤ greater_of x y
left x y = by_test (λ (z : ℤ). x ≤ℤ z) (lt_z x y) y x (λ t. omega zarith) (λ t. omega zarith)

right : (x y : ℤ) → y ≤ℤ greater_of x y
right x y = by_test (λ (z : ℤ). y ≤ℤ z) (lt_z x y) y x (λ t. omega zarith) (λ t. omega zarith)

least : (x y z : ℤ) → x ≤ℤ z → y ≤ℤ z → greater_of x y ≤ℤ z
least x y z h k = by_test (λ (u : ℤ). u ≤ℤ z) (lt_z x y) y x (λ t. k) (λ t. h)

lesser_left : (x y : ℤ) → lesser_of x y ≤ℤ x
lesser_left x y = by_test (λ (z : ℤ). z ≤ℤ x) (lt_z y x) y x (λ t. omega zarith) (λ t. omega zarith)

lesser_right : (x y : ℤ) → lesser_of x y ≤ℤ y
lesser_right x y = by_test (λ (z : ℤ). z ≤ℤ y) (lt_z y x) y x (λ t. omega zarith) (λ t. omega zarith)

-- ---- magnitudes
above : (x : ℤ) → SFits w16 x → x ≤ℤ abs x
unfolding abs clamp
above x f = omega (zarith, f.sfits, of x)

own : (x : ℤ) → pos 0 ≤ℤ x → abs x ≤ℤ x
unfolding abs clamp
own x h = omega (zarith, h, of x, sign x)

falls : (x y : ℤ) → y ≤ℤ x → x ≤ℤ pos 0 → abs x ≤ℤ abs y
unfolding abs clamp
falls x y h l = omega (zarith, h, l, of x, of y, sign x, sign y)

-- one number more
module _ (high low x : ℤ) (f : SFits w16 x) (some : pos 0 ≤ℤ high) (none : low ≤ℤ pos 0) where
  abbrev ends : ℤ
  ends = greater_of (greater_of high x) (abs (lesser_of low x))

  abbrev both : ℤ
  both = greater_of (greater_of high (abs low)) (abs x)

  up_to : ends ≤ℤ both
  up_to =
      let h : high ≤ℤ both = omega (zarith, left high (abs low), left (greater_of high (abs low)) (abs x)) in
      let l : abs low ≤ℤ both = omega (zarith, right high (abs low), left (greater_of high (abs low)) (abs x)) in
      let m : abs x ≤ℤ both = right (greater_of high (abs low)) (abs x) in
      let n : x ≤ℤ both = omega (zarith, m, above x f) in
      least (greater_of high x) (abs (lesser_of low x)) both (least high x both h n) (by_test (λ (z : ℤ). abs z ≤ℤ both) (lt_z x low) x low (λ t. m) (λ t. l))

  down_to : both ≤ℤ ends
  down_to =
      let h : high ≤ℤ ends = omega (zarith, left high x, left (greater_of high x) (abs (lesser_of low x))) in
      let n : x ≤ℤ ends = omega (zarith, right high x, left (greater_of high x) (abs (lesser_of low x))) in
      let u : abs (lesser_of low x) ≤ℤ ends = right (greater_of high x) (abs (lesser_of low x)) in
      let l : abs low ≤ℤ ends = omega (zarith, u, falls low (lesser_of low x) (lesser_left low x) none) in
      let m : abs x ≤ℤ ends =
      either (abs x ≤ℤ ends) (lt_z x (pos 0))
      (λ t. omega (zarith, u, falls x (lesser_of low x) (lesser_right low x) (omega zarith)))
      (λ t. omega (zarith, n, own x (omega zarith))) in
      least (greater_of high (abs low)) (abs x) ends (least high (abs low) ends h l) m

  step : ends ≡ both
  step = omega (zarith, up_to, down_to)

-- what the largest and the least number of the first n, and of 0, say of the largest magnitude
pub record Ends (l : List ℤ) (n : ℕ) (high low : ℤ) : Type 0 where
  pub high_some : pos 0 ≤ℤ high
  pub low_none : low ≤ℤ pos 0
  pub largest : greater_of high (abs low) ≡ smax_of n l

pub start : (l : List ℤ) → Ends l 0 (pos 0) (pos 0)
unfolding smax_of abs clamp IF◌THEN◌ELSE◌
start l = record { high_some = omega zarith; low_none = omega zarith; largest = refl }

pub more : (l : List ℤ) (n : ℕ) (high low : ℤ) → SFits w16 (at l n) → Ends l n high low → Ends l (suc n) (greater_of high (at l n)) (lesser_of low (at l n))
unfolding smax_of
more l n high low f e =
    let x = at l n in
    record {
      high_some = by_test (λ (z : ℤ). pos 0 ≤ℤ z) (lt_z high x) x high (λ t. omega (zarith, e.high_some)) (λ t. e.high_some);
      low_none = by_test (λ (z : ℤ). z ≤ℤ pos 0) (lt_z x low) x low (λ t. omega (zarith, e.low_none)) (λ t. e.low_none);
      largest = step high low x f e.high_some e.low_none ∙ ap (λ (z : ℤ). greater_of z (abs x)) e.largest;
    }
