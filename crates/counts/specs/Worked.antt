-- Counts that the checker computes. One line short of the most that are counted, one answer more is counted, and with the next one it is refusal 7 and the
-- totals stay; once refused, they stay whatever comes. Assumes nothing.
use Rattle.std.specs.Prelude.{◌≡◌, refl, true, false, [], ◌∷◌, ℕ}
use Rattle.rows.specs.Choice.{IF◌THEN◌ELSE◌}
use Rattle.counts.specs.declared.Reply.{Reply}
use Rattle.counts.specs.declared.Totals.{Totals}
use Rattle.counts.specs.declared.Counted.{Counted}
use Rattle.counts.specs.Counts.{is_accepted, is_speech, is_held, is_quiet, is_refused, how_many, totals_of, full_of, plus_of, count_of}

-- an answer of each kind
abbrev speech : Reply
speech = record { refusal = 0; vad = true; vvad = true }

abbrev held : Reply
held = record { refusal = 0; vad = true; vvad = false }

abbrev quiet : Reply
quiet = record { refusal = 0; vad = false; vvad = false }

abbrev refused : Reply
refused = record { refusal = 6; vad = false; vvad = false }

abbrev totals : ℕ → ℕ → ℕ → ℕ → ℕ → Totals
totals a b c d e = record { accepted = a; speech = b; held = c; quiet = d; refused = e }

pub kinds : totals_of (speech ∷ speech ∷ speech ∷ held ∷ held ∷ quiet ∷ refused ∷ []) ≡ totals 6 3 2 1 1
unfolding is_accepted is_speech is_held is_quiet is_refused how_many totals_of IF◌THEN◌ELSE◌
kinds = refl

-- one line short of the most
abbrev short : Counted
short = record { refusal = 0; totals = totals 4294967290 3 2 4294967285 4 }

pub last_counted : count_of short speech ≡ record { refusal = 0; totals = totals 4294967291 4 2 4294967285 4 }
unfolding is_accepted is_speech is_held is_quiet is_refused how_many totals_of full_of plus_of count_of IF◌THEN◌ELSE◌
last_counted = refl

pub one_more : count_of (count_of short speech) refused ≡ record { refusal = 7; totals = totals 4294967291 4 2 4294967285 4 }
unfolding is_accepted is_speech is_held is_quiet is_refused how_many totals_of full_of plus_of count_of IF◌THEN◌ELSE◌
one_more = refl

pub stays : count_of (count_of (count_of short speech) refused) held ≡ record { refusal = 7; totals = totals 4294967291 4 2 4294967285 4 }
unfolding is_accepted is_speech is_held is_quiet is_refused how_many totals_of full_of plus_of count_of IF◌THEN◌ELSE◌
stays = refl

-- totals that no trace gives: more quiet frames than lines
pub no_trace : count_of (record { refusal = 0; totals = totals 3 0 0 4294967295 0 }) quiet ≡ record { refusal = 7; totals = totals 3 0 0 4294967295 0 }
unfolding full_of count_of IF◌THEN◌ELSE◌
no_trace = refl
