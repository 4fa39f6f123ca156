-- `lindenflax::filter` casts each number of the filter, which fits 16 bits, since the run is narrow. Assumes nothing.
use Rattle.std.proofs.Common.{rules, arith, ◌≡◌, ℕ, ◌+◌, ◌<◌, ◌≤◌, sym, ap, ◌∙◌}
use mathlib.Core.List.{List}
use lib.ListN.{length}
use lib.IntN.{ℤ, pos}
use mir.Syntax.{w16}
use mir.Val.{SFits}
use Rattle.numbers.specs.Sum.{at}
use Rattle.std.proofs.lemmas.List.{same_lists}
use Rattle.lindenflax.proofs.Parted.{part_length, part_at, filter_fits}
use Rattle.lindenflax.proofs.Turns.{each_turn}
use Rattle.lindenflax.proofs.filter.Goals as goal
use Rattle.lindenflax.proofs.filter.Goals.{After-part}

nine : (c : After-part) → length c.part.result ≡ 9
nine c = ap length c.part.ensures ∙ part_length 0 9 c.args.run.now (omega (arith, c.told-run))

fits : (c : After-part) (k : ℕ) → k < 9 → SFits w16 (at c.part.result k)
fits c k h =
    let l = c.args.run.now in
    let n : 0 + 9 ≤ length l = omega (arith, c.told-run) in
    rw (ap (λ (m : List ℤ). at m k) c.part.ensures ∙ part_at 0 9 l n k h) (filter_fits l c.told-run c.requires (0 + k) (omega arith))

pub map-requires : goal.map-requires
map-requires c = (
  omega arith,
  (
    omega arith,
    (
      omega arith,
      each_turn c.part.result (pos 0) (λ k q h. fits c k (omega (arith, nine c))),
    ),
  ),
)

pub returns : goal.returns
returns c =
    let p = (goal.at.returns c).After-part in
    let n : length c.map.result ≡ 9 = c.map.ensures.items.long in
    same_lists _ _ (n ∙ sym (nine p)) (λ k d h. let b : k < 9 = omega arith in let w = c.map.ensures.items.at k d d b in search rules)
    ∙ c.part.ensures
