-- The whole of clause 6.10: from the samples of a frame to the flag `tone`. Assumes nothing.
use Rattle.std.specs.Prelude.{Bool, false, List, eqb, ℤ, length}
use Rattle.rows.specs.Choice.{IF◌THEN◌ELSE◌}
use Rattle.tone.specs.Window.{sofh_of}
use Rattle.tone.specs.Autocorrelation.{dynamic_of}
use Rattle.tone.specs.Coefficients.{rc_of, a1_of, a2_of}
use Rattle.tone.specs.Pole.{pole_of}
use Rattle.tone.specs.Gain.{gain_of}

-- 6.10.4 to 6.10.6, of the reflection coefficients: a pole that does not pass ends the clause
unfoldable pub judged_of : List ℤ → Bool
judged_of rc = IF pole_of (a1_of rc) (a2_of rc) THEN gain_of rc ELSE false

-- 6.10, of 160 samples
unfoldable pub tone_of : List ℤ → Bool
tone_of sof = judged_of (rc_of (dynamic_of (sofh_of sof)))

-- the same of what is lent: what is not 160 samples is no tone
unfoldable pub flag_of : List ℤ → Bool
flag_of sof = IF eqb (length sof) 160 THEN tone_of sof ELSE false
