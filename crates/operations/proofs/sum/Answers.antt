-- `operations::sum` gives the clamped sum, which is exact in 64 bits. Assumes nothing.
use mathlib.Core.Path.{◌≡◌, ap₂, ◌∙◌}
use lib.IntN.{ℤ, ◌+ℤ◌}
use mir.Syntax.{w32, w64}
use Rattle.numbers.specs.Clamp.{clamp}
use Rattle.numbers.proofs.Read.{ranged, zreads}
use Rattle.operations.proofs.Wide.{sum_fits}
use Rattle.operations.proofs.sum.Goals as goal

pub returns : goal.returns
returns g c =
    let x = c.exact.result in
    let y = c.exact-2.result in
    let fx = ranged w32 x c.exact.type_inv in
    let fy = ranged w32 y c.exact-2.type_inv in
    let f = sum_fits w32 w64 tt fx fy in
    let e : g.W.Word.value c.nearest.result ≡ clamp g.W.Word.width (x +ℤ y) = simp (c.from.ensures, c.from-2.ensures, zreads) at c.nearest.ensures in
    e ∙ ap₂ (λ (a b : ℤ). clamp g.W.Word.width (a +ℤ b)) c.exact.ensures c.exact-2.ensures
