-- `hangover::hangover` is the clause: the count of raw speech, and what it starts. Assumes nothing.
use mathlib.Core.Path.{◌≡◌, ap, ◌∙◌}
use lib.IntN.{ℤ}
use mir.Syntax.{w16}
use Rattle.numbers.proofs.Read.{ranged, zreads}
use Rattle.hangover.specs.Hangover.{burst_of, started_of, hangover_of}
use Rattle.hangover.proofs.hangover.Goals as goal

pub returns : goal.returns
unfolding hangover_of
returns c =
    let f = c.ranges.burstcount in
    let g = c.ranges.hangcount in
    let h = ranged w16 c.burst.result c.burst.type_inv in
    let b : c.burst.result ≡ burst_of c.args.vvad c.args.burstcount = simp zreads at c.burst.ensures in
    (simp zreads at c.started.ensures) ∙ ap (λ (z : ℤ). started_of c.args.vvad z c.args.hangcount) b
