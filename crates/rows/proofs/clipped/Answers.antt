-- `rows::clipped` gives the running sum: after k turns it is the sum of the first k terms. Assumes nothing.
use borrow.Author.Rules.{rules}
use mathlib.Core.Path.{◌≡◌, refl, sym, ap, ap₂, ◌∙◌}
use Prim.Native.Nat.{ℕ, ◌+◌}
use native.Mathlib.Numerals.{add-one}
use lib.IntN.{ℤ, pos}
use lib.ListN.{length}
use mir.Syntax.{w16, w32}
use mir.Val.{SFits, to_z}
use Rattle.std.proofs.lemmas.List.{length_push}
use Rattle.std.proofs.lemmas.Slice.Zip.{zip_turn, zip_end}
use Rattle.numbers.specs.Sum.{at}
use Rattle.numbers.proofs.Read.{back, ranged, zreads}
use Rattle.operations.specs.Operations.{l_add, l_mult}
use Rattle.rows.specs.Rows.{l_sum, l_products}
use Rattle.rows.proofs.clipped.Goals as goal

pub loop-x-init : goal.loop-x-init
unfolding l_sum
loop-x-init c = refl

pub loop-x-preserved : goal.loop-x-preserved
unfolding l_sum
loop-x-preserved c =
    let a = c.args.a.now in
    let b = c.args.b.now in
    let k = length c.loop-x.yielded in
    let x = c.in-Some.x.now in
    let y = c.in-Some.y.now in
    let term : ℕ → ℤ = λ i. l_mult (at a i) (at b i) in
    let t = zip_turn a b c.loop-x.yielded _ c.loop-x.x-iterator c.next.new.self _ (search rules) (search rules) c.loop-x.yielded_by (c.in-Some.x, c.in-Some.y) c.in-Some.is c.next.ensures.steps in
    let fx : SFits w16 x = search rules in
    let fy : SFits w16 y = search rules in
    let fl = ranged w32 c.l_mult.result c.l_mult.type_inv in
    let d : c.l_mult.result ≡ l_mult x y = simp zreads at c.l_mult.ensures in
    let e : c.l_add-s.result ≡ l_add (to_z w32 c.loop-x.s-bits) c.l_mult.result = simp zreads at c.l_add-s.ensures in
    let more : l_add (l_sum k term) (term k) ≡ l_sum (k + 1) term = rw add-one in
    back w32 c.l_add-s.type_inv
    ∙ e
    ∙ ap₂ l_add c.loop-x.invariant (d ∙ ap₂ l_mult (t.2 (pos 0)) (t.3 (pos 0)))
    ∙ more
    ∙ sym (ap (λ (n : ℕ). l_sum n term) (length_push c.loop-x.yielded (c.in-Some.x, c.in-Some.y)))

pub returns : goal.returns
unfolding l_products
returns c =
    let a = c.args.a.now in
    let b = c.args.b.now in
    let e = zip_end a b c.loop-x.yielded _ c.loop-x.x-iterator c.next.new.self _ (search rules) (search rules) c.loop-x.yielded_by c.in-None.is c.next.ensures.steps in
    c.loop-x.invariant ∙ ap (λ (n : ℕ). l_sum n (λ i. l_mult (at a i) (at b i))) e
