-- Clause 6.8, VAD hangover addition, line by line. Assumes nothing.
use Rattle.std.specs.Prelude.{Bool, true, ℤ, pos}
use Rattle.std.specs.Int.Signed.{le_z}
use Rattle.operations.specs.Operations.{add, sub}
use Rattle.rows.specs.Choice.{IF◌THEN◌ELSE◌}
use Rattle.hangover.specs.declared.Hung.{Hung}

-- the frames of raw speech in a row that start a hangover, and the frames that it lasts
abbrev pub BURSTCONST : ℤ
BURSTCONST = pos 3

abbrev pub HANGCONST : ℤ
HANGCONST = pos 5

-- `IF ( vvad == 1 ) THEN burstcount = add( burstcount, 1 ); ELSE burstcount = 0;`
unfoldable pub burst_of : Bool → ℤ → ℤ
burst_of vvad burstcount = IF vvad THEN add burstcount (pos 1) ELSE pos 0

-- `vad = vvad; IF ( hangcount >= 0 ) THEN vad = 1; hangcount = sub( hangcount, 1 )`
unfoldable pub run_down_of : Bool → ℤ → ℤ → Hung
run_down_of vvad burstcount hangcount =
    let on = le_z (pos 0) hangcount in
    record { vad = IF on THEN true ELSE vvad; burstcount = burstcount; hangcount = IF on THEN sub hangcount (pos 1) ELSE hangcount }

-- `IF ( burstcount >= 3 ) THEN hangcount = 5; burstcount = 3`, and on
unfoldable pub started_of : Bool → ℤ → ℤ → Hung
started_of vvad burstcount hangcount =
    IF le_z BURSTCONST burstcount THEN run_down_of vvad BURSTCONST HANGCONST ELSE run_down_of vvad burstcount hangcount

-- the whole clause
unfoldable pub hangover_of : Bool → ℤ → ℤ → Hung
hangover_of vvad burstcount hangcount = started_of vvad (burst_of vvad burstcount) hangcount
