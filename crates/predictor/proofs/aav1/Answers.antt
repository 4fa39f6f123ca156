-- `predictor::aav1` gives the predictor in 13 bits: the entries from the ninth on of the row that holds the coefficients. Assumes nothing.
use Rattle.std.proofs.Common.{rules, of_calls}
use mathlib.Core.Path.{◌≡◌, ap, ◌∙◌}
use mathlib.Core.List.{List}
use Prim.Native.Nat.{◌+◌}
use lib.IntN.{ℤ, pos}
use mir.Facts.{to_z-of_z}
use Rattle.numbers.specs.Sum.{at}
use Rattle.rows.proofs.Made.{made}
use Rattle.predictor.specs.StepUp.{l_coef_of, aav1_of}
use Rattle.predictor.proofs.StepUp.{low_at}
use Rattle.predictor.proofs.aav1.Goals as goal

pub returns : goal.returns
unfolding aav1_of
returns c =
    made _ _ _ 9
    (λ i y q u k.
    let low = l_coef_of c.args.vpar 8 in
    let e : at c.coefficients-coef.result (8 + i) ≡ at low i = ap (λ (l : List ℤ). at l (8 + i)) c.coefficients-coef.ensures ∙ low_at low i in
    (search (rules, of_calls, to_z-of_z), search (rules, of_calls))) _ c.from_fn.ensures.items
