-- The hangover as a sentence. `vad i` and `vvad i` are the flag and the raw flag of frame i of a run, where frames are counted from 0. `clause` in
-- `proofs/Sentence.antt` shows it of 6.8, frame after frame from reset; `rows` there, that document 01's rows follow from it. Assumes nothing.
use Rattle.std.specs.Prelude.{◌≡◌, Bool, true, List, [], ◌∷◌, map, ◌↔◌, ◌⊎◌, ℕ, ◌+◌, ◌<◌, ◌≤◌, eqb, length}
use Rattle.rows.specs.Rows.{row}
use Rattle.hangover.specs.Bursts.{by_place, Ended}

-- frame j is one of the T frames before frame i: i - T to i - 1, those that are in the run
unfoldable pub Before : ℕ → ℕ → ℕ → Type 0
Before T i j = (j < i) × (i ≤ j + T)

-- B consecutive raw speech frames ended at one of the T frames before frame i
unfoldable pub EndedBefore : ℕ → ℕ → (ℕ → Bool) → ℕ → Type 0
EndedBefore B T vvad i = (j : ℕ) × Before T i j × Ended B vvad j

-- of frame i: vad is 1 there exactly if vvad is 1 there, or three consecutive raw speech frames ended at one of the five frames before it
unfoldable pub Sentence : (ℕ → Bool) → (ℕ → Bool) → ℕ → Type 0
Sentence vad vvad i = (vad i ≡ true) ↔ ((vvad i ≡ true) ⊎ EndedBefore 3 5 vvad i)

-- ---- a row of raw flags gives a row of flags: of frames with these raw flags, if the sentence holds of each, the flags are these
unfoldable pub bits : List ℕ → List Bool
bits ns = map (eqb 1) ns

unfoldable pub Gives : List ℕ → List ℕ → Type 0
Gives raws flags = (vad : ℕ → Bool) → ((i : ℕ) → i < length raws → Sentence vad (by_place (bits raws)) i) → row (length raws) vad ≡ bits flags

-- document 01: 1 1 1 0 0 0 0 0 0 gives 1 eight times, then 0; 1 1 0 is too short a burst; a single 1 does not start the hangover anew
unfoldable pub Rows : Type 0
Rows =
    Gives (1 ∷ 1 ∷ 1 ∷ 0 ∷ 0 ∷ 0 ∷ 0 ∷ 0 ∷ 0 ∷ []) (1 ∷ 1 ∷ 1 ∷ 1 ∷ 1 ∷ 1 ∷ 1 ∷ 1 ∷ 0 ∷ [])
    × Gives (1 ∷ 1 ∷ 0 ∷ []) (1 ∷ 1 ∷ 0 ∷ [])
    × Gives (1 ∷ 1 ∷ 1 ∷ 0 ∷ 0 ∷ 0 ∷ 1 ∷ 0 ∷ 0 ∷ 0 ∷ []) (1 ∷ 1 ∷ 1 ∷ 1 ∷ 1 ∷ 1 ∷ 1 ∷ 1 ∷ 0 ∷ 0 ∷ [])
