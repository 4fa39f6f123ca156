-- Frames with their flags, and rows at the edge of the two tests, which the checker computes. A frame is some periods of a wave, at 8000 samples
-- a second. Assumes nothing.
use Rattle.std.specs.Prelude.{◌≡◌, refl, Bool, true, false, List, [], ◌∷◌, ◌++◌, map, ℕ, zero, suc, ℤ, pos, neg_ℤ, set, drop}
use Rattle.std.specs.Int.Count.{count_leading_zeros}
use Rattle.numbers.specs.Floor.{residue}
use Rattle.numbers.specs.Clamp.{clamp}
use Rattle.numbers.specs.Sum.{at}
use Rattle.numbers.specs.Wrap.{wrap}
use Rattle.operations.specs.Operations.{add, sub, l_add, l_sub, mult, mult_r, l_mult, abs, shift_left, shift_right, norm, over, div}
use Rattle.rows.specs.Choice.{IF◌THEN◌ELSE◌, eqZ}
use Rattle.rows.specs.Rows.{row, l_sum}
use Rattle.predictor.specs.Schur.{k_of, leaves_of, coefficient_of, turned_of, inner_from, outer_from, schur_of, sacf_of, reflection_of}
use Rattle.tone.specs.Window.{hann, window_of, sofh_of}
use Rattle.tone.specs.Autocorrelation.{smax_of, scalauto_of, scaled_of, dynamic_of, l_acfh_of}
use Rattle.tone.specs.Coefficients.{rc_of, a1_of, a2_of}
use Rattle.tone.specs.Pole.{pole_of}
use Rattle.tone.specs.Gain.{prederr_of, gain_of}
use Rattle.tone.specs.Tone.{judged_of, tone_of, flag_of}

-- a test: what the definitions make of it, and what the paper says it is
pub record Row : Type 0 where
  pub computed : Bool
  pub stated : Bool

-- each row's two sides are the same
abbrev pub Holds : List Row → Type 0
Holds rows = map (λ (r : Row). r.computed) rows ≡ map (λ (r : Row). r.stated) rows

infix 4 ◌is◌
abbrev pub ◌is◌ : Bool → Bool → Row
x is y = record { computed = x; stated = y }

-- ---- frames
unfoldable pub periods : ℕ → List ℤ → List ℤ
periods zero l = []
periods (suc n) l = l ++ periods n l

unfoldable pub zeros : List ℤ
zeros = row 160 (λ k. pos 0)

-- one sample that is not 0
unfoldable pub single : List ℤ
single = set zeros 79 (pos 32767)

-- 1000 Hz
unfoldable pub thousand : List ℤ
thousand = periods 20 (pos 0 ∷ pos 7071 ∷ pos 10000 ∷ pos 7071 ∷ pos 0 ∷ neg_ℤ (pos 7071) ∷ neg_ℤ (pos 10000) ∷ neg_ℤ (pos 7071) ∷ [])

-- 3000 Hz, whose a[1] is positive
unfoldable pub three_thousand : List ℤ
three_thousand = periods 20 (pos 0 ∷ pos 7071 ∷ neg_ℤ (pos 10000) ∷ pos 7071 ∷ pos 0 ∷ neg_ℤ (pos 7071) ∷ pos 10000 ∷ neg_ℤ (pos 7071) ∷ [])

-- 400 Hz
unfoldable pub four_hundred : List ℤ
four_hundred =
    periods 8
    (pos 0 ∷ pos 10126 ∷ pos 19260 ∷ pos 26509 ∷ pos 31163 ∷ pos 32767 ∷ pos 31163 ∷ pos 26509 ∷ pos 19260 ∷ pos 10126 ∷
    pos 0 ∷ neg_ℤ (pos 10126) ∷ neg_ℤ (pos 19260) ∷ neg_ℤ (pos 26509) ∷ neg_ℤ (pos 31163) ∷ neg_ℤ (pos 32767) ∷ neg_ℤ (pos 31163) ∷ neg_ℤ (pos 26509) ∷ neg_ℤ (pos 19260) ∷ neg_ℤ (pos 10126) ∷ [])

-- 250 Hz
unfoldable pub two_fifty : List ℤ
two_fifty =
    periods 5
    (pos 0 ∷ pos 6393 ∷ pos 12539 ∷ pos 18204 ∷ pos 23170 ∷ pos 27245 ∷ pos 30273 ∷ pos 32137 ∷
    pos 32767 ∷ pos 32137 ∷ pos 30273 ∷ pos 27245 ∷ pos 23170 ∷ pos 18204 ∷ pos 12539 ∷ pos 6393 ∷
    pos 0 ∷ neg_ℤ (pos 6393) ∷ neg_ℤ (pos 12539) ∷ neg_ℤ (pos 18204) ∷ neg_ℤ (pos 23170) ∷ neg_ℤ (pos 27245) ∷ neg_ℤ (pos 30273) ∷ neg_ℤ (pos 32137) ∷
    neg_ℤ (pos 32767) ∷ neg_ℤ (pos 32137) ∷ neg_ℤ (pos 30273) ∷ neg_ℤ (pos 27245) ∷ neg_ℤ (pos 23170) ∷ neg_ℤ (pos 18204) ∷ neg_ℤ (pos 12539) ∷ neg_ℤ (pos 6393) ∷ [])

-- a square wave of 1000 Hz from one end of the range to the other
unfoldable pub full_scale : List ℤ
full_scale = periods 20 (pos 32767 ∷ pos 32767 ∷ pos 32767 ∷ pos 32767 ∷ neg_ℤ (pos 32768) ∷ neg_ℤ (pos 32768) ∷ neg_ℤ (pos 32768) ∷ neg_ℤ (pos 32768) ∷ [])

-- -32768 throughout
unfoldable pub lowest : List ℤ
lowest = row 160 (λ k. neg_ℤ (pos 32768))

-- other than 160 samples
unfoldable pub short : List ℤ
short = drop 1 thousand

unfoldable pub long : List ℤ
long = pos 0 ∷ thousand

pub flags : map flag_of (zeros ∷ single ∷ thousand ∷ three_thousand ∷ four_hundred ∷ two_fifty ∷ full_scale ∷ lowest ∷ short ∷ long ∷ [])
    ≡ (false ∷ false ∷ true ∷ true ∷ true ∷ false ∷ true ∷ false ∷ false ∷ false ∷ [])
unfolding periods zeros single thousand three_thousand four_hundred two_fifty full_scale lowest short long hann window_of sofh_of smax_of scalauto_of scaled_of dynamic_of l_acfh_of rc_of a1_of a2_of pole_of prederr_of gain_of judged_of tone_of flag_of IF◌THEN◌ELSE◌ eqZ row l_sum k_of leaves_of coefficient_of turned_of inner_from outer_from schur_of sacf_of reflection_of add sub l_add l_sub mult mult_r l_mult abs shift_left shift_right norm over div count_leading_zeros residue clamp wrap
flags = refl

-- ---- 6.10.2: 2048 is reached, from each end of the range
unfoldable pub scaled : List ℤ
scaled = dynamic_of (sofh_of full_scale)

pub reached : map (at scaled) (79 ∷ 80 ∷ []) ≡ (neg_ℤ (pos 2048) ∷ pos 2048 ∷ [])
unfolding scaled full_scale periods hann window_of sofh_of smax_of scalauto_of scaled_of dynamic_of IF◌THEN◌ELSE◌ eqZ row sub mult_r abs shift_left shift_right norm count_leading_zeros residue clamp wrap
reached = refl

-- ---- 250 Hz: its reflection coefficients, rc[1] to rc[4]. Its prediction gain passes, and its pole does not
unfoldable pub rc_250 : List ℤ
rc_250 = pos 0 ∷ neg_ℤ (pos 32129) ∷ pos 32629 ∷ pos 16384 ∷ neg_ℤ (pos 24576) ∷ pos 0 ∷ pos 0 ∷ pos 0 ∷ pos 0 ∷ []

pub coefficients : rc_of (dynamic_of (sofh_of two_fifty)) ≡ rc_250
unfolding rc_250 periods two_fifty hann window_of sofh_of smax_of scalauto_of scaled_of dynamic_of l_acfh_of rc_of IF◌THEN◌ELSE◌ eqZ row l_sum k_of leaves_of coefficient_of turned_of inner_from outer_from schur_of sacf_of reflection_of add sub l_add mult_r l_mult abs shift_left shift_right norm over div count_leading_zeros residue clamp wrap
coefficients = refl

unfoldable pub below : List Row
below =
    (gain_of rc_250 is true)
    ∷ (pole_of (a1_of rc_250) (a2_of rc_250) is false)
    ∷ []

-- ---- 6.10.5, for a[1] and a[2]: with 0 for L_num and just above, and where a[1] is negative on each side of 3189 and at it
unfoldable pub poles : List Row
poles =
    (pole_of (pos 0) (pos 0) is false)
    ∷ (pole_of (pos 4096) (pos 512) is false)
    ∷ (pole_of (pos 4096) (pos 513) is true)
    ∷ (pole_of (neg_ℤ (pos 4096)) (pos 513) is false)
    ∷ (pole_of (neg_ℤ (pos 4096)) (pos 561) is false)
    ∷ (pole_of (neg_ℤ (pos 4096)) (pos 562) is true)
    ∷ (pole_of (neg_ℤ (pos 1487)) (pos 74) is true)
    ∷ (pole_of (neg_ℤ (pos 1487)) (pos 73) is false)
    ∷ []

-- ---- 6.10.6, with the prediction errors 1464 and 1463
unfoldable pub at_1464 : List ℤ
at_1464 = pos 0 ∷ neg_ℤ (pos 30000) ∷ pos 27867 ∷ pos 0 ∷ pos 0 ∷ []

unfoldable pub at_1463 : List ℤ
at_1463 = pos 0 ∷ neg_ℤ (pos 30000) ∷ pos 27871 ∷ pos 0 ∷ pos 0 ∷ []

unfoldable pub gains : List Row
gains =
    (eqZ (prederr_of at_1464 4) (pos 1464) is true)
    ∷ (gain_of at_1464 is false)
    ∷ (judged_of at_1464 is false)
    ∷ (eqZ (prederr_of at_1463 4) (pos 1463) is true)
    ∷ (gain_of at_1463 is true)
    ∷ (judged_of at_1463 is true)
    ∷ []

pub table : Holds (below ++ poles ++ gains)
unfolding below poles gains rc_250 at_1464 at_1463 a1_of a2_of pole_of prederr_of gain_of judged_of IF◌THEN◌ELSE◌ eqZ add sub l_sub mult mult_r l_mult shift_left shift_right residue clamp wrap
table = refl
