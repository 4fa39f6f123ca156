-- A frame as it is lent, and what document 01 refuses of a frame by itself: 1, 8, and 2, 3, 4 in this order. The state comes in between: `refusal_of` in
-- `detector/specs/Refusal.antt` is the whole table. Assumes nothing.
use Rattle.std.specs.Prelude.{Bool, true, false, ◌&&◌, List, ℕ, eqb, ℤ, nat_abs, pos, length}
use Rattle.std.specs.Int.Signed.{le_z}
use Rattle.numbers.specs.Sum.{at}
use Rattle.rows.specs.Choice.{IF◌THEN◌ELSE◌, within}
use Rattle.rows.specs.Rows.{all}
use Rattle.lags.specs.Lags.{lag_ok}

-- a frame goes up, from the handset to the network, or down; one that goes down has its samples too, as the encoder hands them over
pub data Direction : Type 0 where
  up : Direction
  down : List ℤ → Direction

-- from whether it goes down, and its samples, which are looked at only then
unfoldable pub direction_of : Bool → List ℤ → Direction
direction_of false sof = up
direction_of true sof = down sof

-- a frame as it is lent: on the downlink with its samples. Frames of both directions may follow each other
pub record Frame : Type 0 where
  pub direction : Direction
  pub l_acf : List ℤ
  pub lags : List ℕ
  pub scalvad : ℤ

-- not "a lent buffer has the wrong length (9 numbers, 4 lags)"
unfoldable pub lengths_ok : List ℤ → List ℕ → Bool
lengths_ok l_acf lags = eqb (length l_acf) 9 && eqb (length lags) 4

-- not "a downlink frame with other than 160 samples" (request 5)
unfoldable pub samples_ok : Direction → Bool
samples_ok up = true
samples_ok (down sof) = eqb (length sof) 160

-- not "scalvad outside 0..4"
unfoldable pub scale_ok : ℤ → Bool
scale_ok scalvad = within (pos 0) (pos 4) scalvad

-- not "L_ACF[0] negative, or some true (unsaturated) magnitude of L_ACF[i] above L_ACF[0]"
unfoldable pub acf_ok : List ℤ → Bool
acf_ok l_acf = le_z (pos 0) (at l_acf 0) && all (λ x. le_z (pos (nat_abs x)) (at l_acf 0)) l_acf

-- not "a lag outside 40..120"
unfoldable pub lags_ok : List ℕ → Bool
lags_ok lags = all lag_ok lags

-- the frame by itself: 2, 3, 4
unfoldable pub frame_refusal_of : List ℤ → List ℕ → ℤ → ℕ
frame_refusal_of l_acf lags scalvad =
    IF scale_ok scalvad THEN
    IF acf_ok l_acf THEN
    IF lags_ok lags THEN 0
    ELSE 4
    ELSE 3
    ELSE 2
