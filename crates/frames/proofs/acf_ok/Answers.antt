-- `frames::acf_ok` tests the sign of the first number, and each magnitude against it. Assumes nothing.
use mathlib.Core.Path.{◌≡◌, refl, sym, ◌∙◌}
use mathlib.Core.Bool.{true, false}
use lib.Dec.{leb}
use lib.IntN.{ℤ, nat_abs, pos, negsuc}
use lib.Signed.{le_z}
use Rattle.std.proofs.Common.{rules, tests}
use Rattle.std.proofs.lemmas.Bool.{false≢true}
use Rattle.std.specs.List.{list_all}
use Rattle.std.proofs.lemmas.Iterator.{YieldsList-from_slice}
use Rattle.std.proofs.lemmas.Iterator.Search.{all_from_yields_List}
use Rattle.numbers.specs.Sum.{at}
use Rattle.numbers.proofs.Read.{zreads}
use Rattle.frames.specs.Frame.{acf_ok}
use Rattle.frames.proofs.All.{all_is, all_same}
use Rattle.frames.proofs.acf_ok.Goals as goal

-- a magnitude is compared with that of a first number which is not negative
same_test : (z x : ℤ) → le_z (pos 0) z ≡ true → le_z (pos (nat_abs x)) z ≡ leb (nat_abs x) (nat_abs z)
same_test (pos n) x h = refl
same_test (negsuc n) x h = absurd (false≢true h)

pub returns-then-first-ge0 : goal.returns-then-first-ge0
unfolding acf_ok
returns-then-first-ge0 c =
    let xs = c.args.acf in
    let f = c.first-1.given in
    let top : le_z (pos 0) (at xs 0) ≡ true = simp zreads at c.if-first-ge0.true in
    let small = λ (x : ℤ). leb (nat_abs x) (nat_abs (at xs 0)) in
    let found : c.all.result ≡ list_all small xs = all_from_yields_List small _ _ _ c.all.ensures.ran (YieldsList-from_slice xs cc) (λ x b q k. search (rules, tests)) in
    found ∙ sym (all_is small xs) ∙ sym (all_same _ small xs (λ x. same_test (at xs 0) x top)) ∙ sym (rw top)

pub returns-else-first-ge0 : goal.returns-else-first-ge0
unfolding acf_ok
returns-else-first-ge0 c =
    let f = c.first-1.given in
    let low : le_z (pos 0) (at c.args.acf 0) ≡ false = simp zreads at c.if-first-ge0.false in
    simp (zreads, low)
