-- Bursts of raw speech, over the raw flags alone: `raw i` is the raw decision of frame i, where frames are counted from 0. A burst is B frames of
-- raw speech in a row; clause 6.8 has 3. Assumes nothing.
use Rattle.std.specs.Prelude.{◌≡◌, Bool, true, false, List, ℕ, ◌+◌, ◌-◌, ◌<◌, ◌≤◌, get_or}

-- flags in the order of the frames, by a frame's place: false past the last
unfoldable pub by_place : List Bool → ℕ → Bool
by_place flags i = get_or flags i false

-- a burst ended at frame j: raw speech there and in the B - 1 frames before it, all of them in the run
pub record Ended (B : ℕ) (raw : ℕ → Bool) (j : ℕ) : Type 0 where
  pub inside : B ≤ j + 1
  pub each : (m : ℕ) → m < B → raw (j - m) ≡ true

-- of the first i frames, frame number n, counted from 1, is the latest at which a burst ended; 0 where none did
pub record Latest (B : ℕ) (raw : ℕ → Bool) (i n : ℕ) : Type 0 where
  pub among : n ≤ i
  pub ended : 0 < n → Ended B raw (n - 1)
  pub none_after : (j : ℕ) → n ≤ j → j < i → Ended B raw j → ⊥
