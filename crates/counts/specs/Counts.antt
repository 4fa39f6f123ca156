-- Five counts of a list of answers to lines, each by a test of its own; and one answer more. They have eight digits each in a night's report, so no more
-- lines are counted than eight digits write. Assumes nothing.
use Rattle.std.specs.Prelude.{Bool, not, ◌&&◌, ◌||◌, List, [], ◌∷◌, ℕ, suc, ◌+◌, eqb, leb}
use Rattle.rows.specs.Choice.{IF◌THEN◌ELSE◌}
use Rattle.counts.specs.declared.Reply.{Reply}
use Rattle.counts.specs.declared.Totals.{Totals}
use Rattle.counts.specs.declared.Counted.{Counted}

-- ---- what the shift manager asks of the answer to a line

-- a frame that was accepted
unfoldable pub is_accepted : Reply → Bool
is_accepted r = eqb r.refusal 0

-- one with vvad
unfoldable pub is_speech : Reply → Bool
is_speech r = is_accepted r && r.vvad

-- one kept only by the hangover: vad and not vvad
unfoldable pub is_held : Reply → Bool
is_held r = is_accepted r && (r.vad && not r.vvad)

-- a quiet one: neither
unfoldable pub is_quiet : Reply → Bool
is_quiet r = is_accepted r && (not r.vad && not r.vvad)

-- a line that was refused
unfoldable pub is_refused : Reply → Bool
is_refused r = not (is_accepted r)

-- ---- how many there are

-- of how many answers a test holds
unfoldable pub how_many : (Reply → Bool) → List Reply → ℕ
how_many test [] = 0
how_many test (r ∷ rs) = IF test r THEN suc (how_many test rs) ELSE how_many test rs

unfoldable pub totals_of : List Reply → Totals
totals_of rs =
    record {
      accepted = how_many is_accepted rs;
      speech = how_many is_speech rs;
      held = how_many is_held rs;
      quiet = how_many is_quiet rs;
      refused = how_many is_refused rs;
    }

-- the most lines that are counted
abbrev pub limit : ℕ
limit = 4294967295

-- ---- one answer more, with the totals so far

-- whether no line more is counted: the lines so far, accepted and refused, are as many as can be, or, in totals that no trace gives, the three kinds
-- of frames are
unfoldable pub full_of : Totals → Bool
full_of t = leb limit (t.accepted + t.refused) || leb limit (t.speech + t.held + t.quiet)

-- the sum of two totals
unfoldable pub plus_of : Totals → Totals → Totals
plus_of t u =
    record {
      accepted = t.accepted + u.accepted;
      speech = t.speech + u.speech;
      held = t.held + u.held;
      quiet = t.quiet + u.quiet;
      refused = t.refused + u.refused;
    }

-- what was refused stays
unfoldable pub count_of : Counted → Reply → Counted
count_of c r =
    IF not (eqb c.refusal 0) THEN c
    ELSE IF full_of c.totals THEN record { refusal = 7; totals = c.totals }
    ELSE record { refusal = 0; totals = plus_of c.totals (totals_of (r ∷ [])) }
