-- The samples of a frame as bytes: numbers of 16 bits in two's complement, two bytes each, the low byte first. Then what is read of the bytes
-- of one frame. Assumes nothing.
use Rattle.std.specs.Prelude.{List, [], ◌∷◌, ℕ, ◌+◌, ◌*◌, min, ltb, ℤ, pos, ◌-ℤ◌, length, take}
use Rattle.rows.specs.Choice.{IF◌THEN◌ELSE◌}
use Rattle.rows.specs.Rows.{first_of}
use Rattle.samples.specs.declared.Samples.{Samples}

-- a frame's samples, and its bytes
abbrev pub frame_samples : ℕ
frame_samples = 160

abbrev pub frame_bytes : ℕ
frame_bytes = 2 * frame_samples

-- two bytes as one pattern of 16 bits, and the number of -32768..32767 that it is
unfoldable pub pattern_of : ℕ → ℕ → ℕ
pattern_of lo hi = lo + 256 * hi

unfoldable pub sample_of : ℕ → ℕ → ℤ
sample_of lo hi = IF ltb (pattern_of lo hi) 32768 THEN pos (pattern_of lo hi) ELSE pos (pattern_of lo hi) -ℤ pos 65536

-- two bytes a sample, in order; a last odd byte is no sample
unfoldable pub samples_of : List ℕ → List ℤ
samples_of [] = []
samples_of (lo ∷ []) = []
samples_of (lo ∷ hi ∷ l) = sample_of lo hi ∷ samples_of l

-- the samples of a frame: the first 160 that its bytes hold
unfoldable pub sof_of : List ℕ → List ℤ
sof_of l = take frame_samples (samples_of l)

-- what is read of the bytes of one frame: how many samples are there, 160 at most, and the first 160, with zeros after the last
unfoldable pub read_of : List ℕ → Samples
read_of l = record { count = min frame_samples (length (samples_of l)); sof = first_of frame_samples (pos 0) (samples_of l) }
