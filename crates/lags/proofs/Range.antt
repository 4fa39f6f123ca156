-- What a lag in range is, and that no more lags count than there are. Assumes nothing.
use mathlib.Core.Path.{◌≡◌}
use mathlib.Core.Bool.{true}
use mathlib.Core.List.{List, [], ◌∷◌}
use Prim.Native.Nat.{ℕ, ◌≤◌}
use native.Mathlib.Omega.{arith}
use lib.Dec.{leb}
use borrow.Author.Tests.{leb-true, le-leb}
use lib.ListN.{length}
use Rattle.rows.proofs.Choice.{by_test, and_left, and_right, both}
use Rattle.lags.specs.Lags.{lag_ok, counted_of, once_of, lagcount_of}

pub lag : (n : ℕ) → lag_ok n ≡ true → (40 ≤ n) × (n ≤ 120)
unfolding lag_ok
lag n t = (leb-true 40 n (and_left (leb 40 n) (leb n 120) t), leb-true n 120 (and_right (leb 40 n) (leb n 120) t))

pub lag_back : (n : ℕ) → (40 ≤ n) × (n ≤ 120) → lag_ok n ≡ true
unfolding lag_ok
lag_back n h = both (le-leb 40 n h.0) (le-leb n 120 h.1)

pub once_le : (a b : ℕ) → once_of a b ≤ 1
unfolding once_of
once_le a b = by_test (λ (n : ℕ). n ≤ 1) (counted_of a b) 1 0 (λ t. omega arith) (λ t. omega arith)

pub lagcount_le : (a : ℕ) (l : List ℕ) → lagcount_of a l ≤ length l
unfolding lagcount_of
lagcount_le a [] = omega arith
lagcount_le a (b ∷ l) = omega (arith, once_le a b, lagcount_le b l)
