-- Clause 6.10.1, windowing, line by line. `sof` are the 160 samples that the encoder hands over, offset compensated. Assumes nothing.
use Rattle.std.specs.Prelude.{List, [], ◌∷◌, ℕ, ◌-◌, ltb, ℤ, pos}
use Rattle.numbers.specs.Sum.{at}
use Rattle.operations.specs.Operations.{mult_r}
use Rattle.rows.specs.Choice.{IF◌THEN◌ELSE◌}
use Rattle.rows.specs.Rows.{row}

-- table 3.2, ten to a line
unfoldable pub hann : List ℤ
hann =
    pos 0 ∷ pos 12 ∷ pos 51 ∷ pos 114 ∷ pos 204 ∷ pos 318 ∷ pos 458 ∷ pos 622 ∷ pos 811 ∷ pos 1025 ∷
    pos 1262 ∷ pos 1523 ∷ pos 1807 ∷ pos 2114 ∷ pos 2444 ∷ pos 2795 ∷ pos 3167 ∷ pos 3560 ∷ pos 3972 ∷ pos 4405 ∷
    pos 4856 ∷ pos 5325 ∷ pos 5811 ∷ pos 6314 ∷ pos 6832 ∷ pos 7365 ∷ pos 7913 ∷ pos 8473 ∷ pos 9046 ∷ pos 9631 ∷
    pos 10226 ∷ pos 10831 ∷ pos 11444 ∷ pos 12065 ∷ pos 12693 ∷ pos 13326 ∷ pos 13964 ∷ pos 14607 ∷ pos 15251 ∷ pos 15898 ∷
    pos 16545 ∷ pos 17192 ∷ pos 17838 ∷ pos 18482 ∷ pos 19122 ∷ pos 19758 ∷ pos 20389 ∷ pos 21014 ∷ pos 21631 ∷ pos 22240 ∷
    pos 22840 ∷ pos 23430 ∷ pos 24009 ∷ pos 24575 ∷ pos 25130 ∷ pos 25670 ∷ pos 26196 ∷ pos 26707 ∷ pos 27201 ∷ pos 27679 ∷
    pos 28139 ∷ pos 28581 ∷ pos 29003 ∷ pos 29406 ∷ pos 29789 ∷ pos 30151 ∷ pos 30491 ∷ pos 30809 ∷ pos 31105 ∷ pos 31377 ∷
    pos 31626 ∷ pos 31852 ∷ pos 32053 ∷ pos 32230 ∷ pos 32382 ∷ pos 32509 ∷ pos 32611 ∷ pos 32688 ∷ pos 32739 ∷ pos 32764 ∷ []

-- what the sample k is multiplied by: the second half of the window is the first, mirrored
unfoldable pub window_of : ℕ → ℤ
window_of k = IF ltb k 80 THEN at hann k ELSE at hann (159 - k)

-- `FOR i = 0 to 79: sofh[i] = mult_r( sof[i], hann[i] ); sofh[159-i] = mult_r( sof[159-i], hann[i] )`
unfoldable pub sofh_of : List ℤ → List ℤ
sofh_of sof = row 160 (λ k. mult_r (at sof k) (window_of k))
