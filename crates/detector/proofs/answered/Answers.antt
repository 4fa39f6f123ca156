-- `detector::answered` runs the clauses in their order: each call gives what its definition says of what the calls before it gave. Assumes nothing.
use borrow.Author.Rules.{rules}
use mathlib.Core.Path.{◌≡◌, ◌∙◌}
use mathlib.Core.Bool.{Bool}
use mathlib.Core.List.{List}
use Prim.Native.Nat.{ℕ}
use lib.IntN.{ℤ, pos}
use lib.ListN.{get_or}
use mir.Syntax.{w16, w32}
use mir.Val.{SFits}
use mir.Facts.{to_z-of_z}
use Rattle.numbers.proofs.Read.{back, zreads}
use Rattle.pairs.specs.Pairs.{greater_of}
use Rattle.energy.specs.declared.Energies.{Energies}
use Rattle.energy.specs.Energy.{energy_of}
use Rattle.lags.specs.Lags.{ptch_of, lagcount_of}
use Rattle.threshold.specs.Threshold.{adapt_of}
use Rattle.threshold.specs.declared.Kept.{Kept}
use Rattle.hangover.specs.declared.Hung.{Hung}
use Rattle.hangover.specs.Hangover.{hangover_of}
use Rattle.state.specs.declared.State.{State}
use Rattle.detector.specs.declared.Middle.{Middle}
use Rattle.detector.specs.Answer.{Answer}
use Rattle.detector.specs.Step.{spectral_of, accepted_of}
use Rattle.detector.proofs.answered.Goals as goal
use Rattle.detector.proofs.answered.Goals.{After-adapt-adaptcount, After-energy, After-hangover-vad, After-ptch-ptch, After-spectral-ptsacf, Start}

-- the answer, from what the clauses gave, one equation for each and for each number that is read back
assembled : (tone found : Bool) (l_acf : List ℤ) (lags : List ℕ) (scalvad : ℤ) (s : State) {e : Energies} {m : Middle} {p v : Bool} {k : Kept} {h : Hung} {n d a b r o w : ℤ}
    → e ≡ energy_of l_acf scalvad s.rvad s.normrvad
    → m ≡ spectral_of l_acf scalvad s
    → p ≡ ptch_of s.oldlagcount s.veryoldlagcount
    → k ≡ adapt_of e.acf0 e.pvad p m.stat tone m.rav1 m.normrav1 (record { thvad = s.thvad; adaptcount = s.adaptcount; rvad = s.rvad; normrvad = s.normrvad })
    → v ≡ greater_of e.pvad k.thvad
    → h ≡ hangover_of v s.burstcount s.hangcount
    → n ≡ k.normrvad → d ≡ m.lastdm → a ≡ k.adaptcount → b ≡ h.burstcount → r ≡ h.hangcount → o ≡ pos (lagcount_of s.oldlag lags) → w ≡ s.oldlagcount
    → ◌≡◌ {A = Answer} (record { refusal = 0; vad = h.vad; vvad = v; stat = m.stat; acf0 = e.acf0; pvad = e.pvad; next = record { rvad = k.rvad; normrvad = n; sacf = m.sacf; ptsacf = m.ptsacf; sav0 = m.sav0; ptsav0 = m.ptsav0; lastdm = d; thvad = k.thvad; adaptcount = a; burstcount = b; hangcount = r; oldlagcount = o; veryoldlagcount = w; oldlag = get_or lags 3 0; tone = found } }) (accepted_of tone found l_acf lags scalvad s)
unfolding accepted_of
assembled tone found l_acf lags scalvad s e₁ e₂ e₃ e₄ e₅ e₆ n₁ n₂ n₃ n₄ n₅ n₆ n₇ = rw (n₁, n₂, n₃, n₄, n₅, n₆, n₇, e₆, e₅, e₄, e₃, e₂, e₁)

old_was : (c : Start) → SFits w16 c.args.s.oldlagcount
old_was c = search rules

dm_fits : (c : After-spectral-ptsacf) → SFits w32 c.spectral-ptsacf.result.lastdm
dm_fits c = search rules

norm_fits : (c : After-adapt-adaptcount) → SFits w16 c.adapt-adaptcount.result.normrvad
norm_fits c = search rules

adapt_fits : (c : After-adapt-adaptcount) → SFits w16 c.adapt-adaptcount.result.adaptcount
adapt_fits c = search rules

burst_fits : (c : After-hangover-vad) → SFits w16 c.hangover-vad.result.burstcount
burst_fits c = search rules

hang_fits : (c : After-hangover-vad) → SFits w16 c.hangover-vad.result.hangcount
hang_fits c = search rules

energy_is : (c : After-energy) → c.energy.result ≡ energy_of c.args.acf c.args.scalvad c.args.s.rvad c.args.s.normrvad
energy_is c =
    let f = c.ranges.scalvad in
    let g : SFits w16 c.args.s.normrvad = search rules in
    simp zreads at c.energy.ensures

spectral_is : (c : After-spectral-ptsacf) → c.spectral-ptsacf.result ≡ spectral_of c.args.acf c.args.scalvad c.args.s
spectral_is c = let f = c.ranges.scalvad in simp zreads at c.spectral-ptsacf.ensures

ptch_is : (c : After-ptch-ptch) → c.ptch-ptch.result ≡ ptch_of c.args.s.oldlagcount c.args.s.veryoldlagcount
ptch_is c =
    let f : SFits w16 c.args.s.oldlagcount = search rules in
    let g : SFits w16 c.args.s.veryoldlagcount = search rules in
    simp zreads at c.ptch-ptch.ensures

abbrev was : State → Kept
was s = record { thvad = s.thvad; adaptcount = s.adaptcount; rvad = s.rvad; normrvad = s.normrvad }

adapt_is : (c : After-adapt-adaptcount) → c.adapt-adaptcount.result ≡ adapt_of c.energy.result.acf0 c.energy.result.pvad c.ptch-ptch.result c.spectral-ptsacf.result.stat c.args.tone c.spectral-ptsacf.result.rav1 c.spectral-ptsacf.result.normrav1 (was c.args.s)
adapt_is c =
    let f : SFits w16 c.spectral-ptsacf.result.normrav1 = search rules in
    let g : SFits w16 c.args.s.adaptcount = search rules in
    let h : SFits w16 c.args.s.normrvad = search rules in
    simp zreads at c.adapt-adaptcount.ensures

hangover_is : (c : After-hangover-vad) → c.hangover-vad.result ≡ hangover_of c.greater-vvad.result c.args.s.burstcount c.args.s.hangcount
hangover_is c =
    let f : SFits w16 c.args.s.burstcount = search rules in
    let g : SFits w16 c.args.s.hangcount = search rules in
    simp zreads at c.hangover-vad.ensures

pub returns : goal.returns
returns c =
    assembled c.args.tone c.args.found c.args.acf c.args.lags c.args.scalvad c.args.s
    (energy_is (goal.at.returns c).After-energy)
    (spectral_is (goal.at.returns c).After-spectral-ptsacf)
    (ptch_is (goal.at.returns c).After-ptch-ptch)
    (adapt_is (goal.at.returns c).After-adapt-adaptcount)
    c.greater-vvad.ensures
    (hangover_is (goal.at.returns c).After-hangover-vad)
    (to_z-of_z (norm_fits (goal.at.returns c).After-adapt-adaptcount))
    (to_z-of_z (dm_fits (goal.at.returns c).After-spectral-ptsacf))
    (to_z-of_z (adapt_fits (goal.at.returns c).After-adapt-adaptcount))
    (to_z-of_z (burst_fits (goal.at.returns c).After-hangover-vad))
    (to_z-of_z (hang_fits (goal.at.returns c).After-hangover-vad))
    (back w16 c.lagcount.type_inv ∙ c.lagcount.ensures)
    (to_z-of_z (old_was (goal.at.returns c).Start))
