-- Samples worked out, that the checker computes. Assumes nothing.
use Rattle.std.specs.Prelude.{◌≡◌, refl, [], ◌∷◌, pos, negsuc}
use Rattle.rows.specs.Choice.{IF◌THEN◌ELSE◌}
use Rattle.samples.specs.Samples.{pattern_of, sample_of, samples_of}

-- 00 80 is -32768, the least; FF 7F is 32767, the greatest
pub least : sample_of 0 128 ≡ negsuc 32767
unfolding sample_of pattern_of IF◌THEN◌ELSE◌
least = refl

pub greatest : sample_of 255 127 ≡ pos 32767
unfolding sample_of pattern_of IF◌THEN◌ELSE◌
greatest = refl

-- FF FF is -1, 00 00 is 0, 01 00 is 1, 00 01 is 256
pub minus_one : sample_of 255 255 ≡ negsuc 0
unfolding sample_of pattern_of IF◌THEN◌ELSE◌
minus_one = refl

pub none : sample_of 0 0 ≡ pos 0
unfolding sample_of pattern_of IF◌THEN◌ELSE◌
none = refl

pub one : sample_of 1 0 ≡ pos 1
unfolding sample_of pattern_of IF◌THEN◌ELSE◌
one = refl

pub low_first : sample_of 0 1 ≡ pos 256
unfolding sample_of pattern_of IF◌THEN◌ELSE◌
low_first = refl

-- in order, and the last odd byte is no sample: 01 00 FF FF 00 80 2A
pub in_order : samples_of (1 ∷ 0 ∷ 255 ∷ 255 ∷ 0 ∷ 128 ∷ 42 ∷ []) ≡ pos 1 ∷ negsuc 0 ∷ negsuc 32767 ∷ []
unfolding samples_of sample_of pattern_of IF◌THEN◌ELSE◌
in_order = refl
