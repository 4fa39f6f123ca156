-- Document 01's range of a lag, clause 6.5, periodicity detection, and clause 6.9, periodicity updating. Lags are numbers that are not negative. Assumes nothing.
use Rattle.std.specs.Prelude.{Bool, ◌&&◌, List, [], ◌∷◌, ℕ, ◌+◌, ◌-◌, ◌%◌, max, min, ltb, leb, ℤ, pos, ◌+ℤ◌}
use Rattle.std.specs.Int.Signed.{le_z}
use Rattle.rows.specs.Choice.{IF◌THEN◌ELSE◌}

-- not "a lag outside 40..120"
unfoldable pub lag_ok : ℕ → Bool
lag_ok lag = leb 40 lag && leb lag 120

-- 6.5: ptch holds exactly if oldlagcount + veryoldlagcount ≥ 4 (document 01; the clause's sum of two such counts never saturates)
unfoldable pub ptch_of : ℤ → ℤ → Bool
ptch_of oldlagcount veryoldlagcount = le_z (pos 4) (oldlagcount +ℤ veryoldlagcount)

-- document 01's reading of "smallag": the remainder of the larger lag by the smaller. The clause, which has no remainder, takes the
-- smaller off up to three times (`subtracted`); `Remainder` shows that for lags in 40..120 this is the same.
unfoldable pub smallag_of : ℕ → ℕ → ℕ
smallag_of oldlag lag = max oldlag lag % min oldlag lag

-- `IF ( smallag >= minlag ) THEN smallag = sub( smallag, minlag )`
abbrev pub taken : ℕ → ℕ → ℕ
taken minlag smallag = IF leb minlag smallag THEN smallag - minlag ELSE smallag

unfoldable pub subtracted : ℕ → ℕ → ℕ
subtracted oldlag lag = let minlag = min oldlag lag in taken minlag (taken minlag (taken minlag (max oldlag lag)))

-- the lesser of smallag and minlag - smallag is below 2
unfoldable pub counted_of : ℕ → ℕ → Bool
counted_of oldlag lag = ltb (min (smallag_of oldlag lag) (min oldlag lag - smallag_of oldlag lag)) 2

-- `IF ( smallag < 2 ) THEN lagcount = add( lagcount, 1 )`
unfoldable pub once_of : ℕ → ℕ → ℕ
once_of oldlag lag = IF counted_of oldlag lag THEN 1 ELSE 0

-- 6.9: the lags of the frame in order, each beside the one before it; before the first stands the last lag of the frame before
unfoldable pub lagcount_of : ℕ → List ℕ → ℕ
lagcount_of oldlag [] = 0
lagcount_of oldlag (lag ∷ lags) = once_of oldlag lag + lagcount_of lag lags
