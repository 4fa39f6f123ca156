-- `rows::exact` gives the exact sum of products: after k turns it is the sum of the first k, of which each is at most 2 ^ 27. Assumes nothing.
use borrow.Author.Rules.{rules}
use mathlib.Core.Path.{◌≡◌, refl, sym, ap, ap₂, ◌∙◌, subst}
use mathlib.Core.Bool.{true}
use mathlib.Core.List.{List}
use Prim.Native.Nat.{ℕ, ◌+◌, ◌^◌, ◌<◌, ◌≤◌}
use native.Mathlib.Numerals.{add-one}
use native.Mathlib.Omega.{arith}
use lib.Dec.{ltb}
use borrow.Author.Tests.{ltb-true, ltb-false}
use lib.IntN.{ℤ, nat_abs, pos, ◌+ℤ◌, ◌*ℤ◌}
use lib.ListN.{length, get_or}
use mir.Syntax.{w16, w32}
use mir.Val.{SFits, to_z, of_z}
use mir.Facts.{to_z-of_z}
use Rattle.std.proofs.lemmas.List.{length_push}
use Rattle.std.proofs.lemmas.Slice.Zip.{zip_turn, zip_end}
use Rattle.numbers.specs.Sum.{sum, at}
use Rattle.numbers.proofs.Magnitude.{abs-*-le, abs_fits, fits_abs}
use Rattle.numbers.proofs.Sum.{sum_le}
use Rattle.numbers.proofs.Read.{back, zreads}
use Rattle.rows.specs.Rows.{all, product_sum, thirteen}
use Rattle.rows.proofs.Choice.{either}
use Rattle.rows.proofs.Plain.{narrow_at, total_same}
use Rattle.rows.proofs.exact.Invariants.{Short}
use Rattle.rows.proofs.exact.Goals as goal
use Rattle.rows.proofs.exact.Goals.{After-product-s}

short_more : (a : List ℤ) (k : ℕ) → Short a k → nat_abs (at a k) ≤ 2 ^ 15 → Short a (k + 1)
short_more a k h x i l =
    either (nat_abs (at a i) ≤ 2 ^ 15) (ltb i k)
    (λ t. h i (ltb-true i k t))
    (λ t. let e : k ≡ i = omega (arith, ltb-false i k t) in subst (λ (j : ℕ). nat_abs (at a j) ≤ 2 ^ 15) e x)

-- nine of the products are within 32 bits
within : (a b : List ℤ) (n : ℕ) → n ≤ 9 → all thirteen b ≡ true → Short a n → SFits w32 (sum n (λ k. at a k *ℤ at b k))
within a b n l e h =
    abs_fits w32 _
    (omega (arith, sum_le n (λ k. at a k *ℤ at b k) (λ k. 2 ^ 27) (λ k u. abs-*-le (at a k) (at b k) (2 ^ 15) 4096 (h k u) (narrow_at b e k)), total_same n (2 ^ 27)))

-- a turn: one term more, and what the reading of x tells
turned : (a b : List ℤ) (n : ℕ) (s x y z : ℤ) → s ≡ sum n (λ i. at a i *ℤ at b i) → x ≡ at a n → y ≡ at b n → z ≡ x *ℤ y → s +ℤ z ≡ sum (n + 1) (λ i. at a i *ℤ at b i)
unfolding sum
turned a b n s x y z h p q r = rw add-one (ap₂ ◌+ℤ◌ h (r ∙ ap₂ ◌*ℤ◌ p q))

module _ (c : After-product-s) where
  abbrev a : List ℤ
  a = c.args.a.now

  abbrev b : List ℤ
  b = c.args.b.now

  abbrev k : ℕ
  k = length c.loop-x.yielded

  turn : (k < length a) × (k < length b) × ((d : ℤ) → c.in-Some.x.now ≡ get_or a k d) × ((d : ℤ) → c.in-Some.y.now ≡ get_or b k d)
  turn = zip_turn a b c.loop-x.yielded _ c.loop-x.x-iterator c.next.new.self _ (search rules) (search rules) c.loop-x.yielded_by (c.in-Some.x, c.in-Some.y) c.in-Some.is c.next.ensures.steps

  one_more : to_z w32 c.loop-x.s-bits +ℤ c.product-s.result ≡ sum (k + 1) (λ i. at a i *ℤ at b i)
  one_more =
      let fx : SFits w16 c.in-Some.x.now = search rules in
      let fy : SFits w16 c.in-Some.y.now = search rules in
      turned a b k _ c.in-Some.x.now c.in-Some.y.now _ c.loop-x.invariant.0 (turn.2 (pos 0)) (turn.3 (pos 0)) (simp zreads at c.product-s.ensures)

  short : Short a (k + 1)
  short =
      let fx : SFits w16 c.in-Some.x.now = search rules in
      short_more a k c.loop-x.invariant.1 (subst (λ (z : ℤ). nat_abs z ≤ 2 ^ 15) (turn.2 (pos 0)) (fits_abs w16 _ fx))

  product_is : to_z w32 (of_z w32 c.product-s.result) ≡ c.product-s.result
  product_is = back w32 c.product-s.type_inv

  fits : SFits w32 (to_z w32 c.loop-x.s-bits +ℤ c.product-s.result)
  fits = rw one_more (within a b (k + 1) (omega (arith, turn.1, c.requires.0)) c.requires.1 short)

pub loop-x-init : goal.loop-x-init
unfolding sum
loop-x-init c = (refl, λ i l. absurd (omega arith))

pub overflow_add-s : goal.overflow_add-s
overflow_add-s c = rw (product_is c) (fits c)

pub loop-x-preserved : goal.loop-x-preserved
loop-x-preserved c =
    let n = length_push c.loop-x.yielded (c.in-Some.x, c.in-Some.y) in
    (rw (product_is c) (to_z-of_z (fits c) ∙ one_more c ∙ sym (ap (λ (m : ℕ). sum m (λ i. at (a c) i *ℤ at (b c) i)) n)), subst (Short (a c)) (sym n) (short c))

pub returns : goal.returns
unfolding product_sum
returns c =
    let a = c.args.a.now in
    let b = c.args.b.now in
    let e = zip_end a b c.loop-x.yielded _ c.loop-x.x-iterator c.next.new.self _ (search rules) (search rules) c.loop-x.yielded_by c.in-None.is c.next.ensures.steps in
    record { value = c.loop-x.invariant.0 ∙ ap (λ (n : ℕ). sum n (λ i. at a i *ℤ at b i)) e; by_index = subst (Short a) e c.loop-x.invariant.1 }
