-- `tone::judged` does 6.10.4 to 6.10.6. Assumes nothing.
use Rattle.std.proofs.Common.{rules}
use mir.Facts.{to_z-of_z}
use Rattle.rows.specs.Choice.{IF◌THEN◌ELSE◌}
use Rattle.tone.specs.Coefficients.{a1_of, a2_of}
use Rattle.tone.specs.Gain.{gain_of}
use Rattle.tone.specs.Tone.{judged_of}
use Rattle.tone.proofs.judged.Goals as goal

pub returns-then-pole : goal.returns-then-pole
unfolding judged_of gain_of a1_of a2_of IF◌THEN◌ELSE◌
returns-then-pole c = search (rules, to_z-of_z)

pub returns-else-pole : goal.returns-else-pole
unfolding judged_of a1_of a2_of IF◌THEN◌ELSE◌
returns-else-pole c = search (rules, to_z-of_z)
