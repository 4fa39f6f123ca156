-- A step from a valid state gives a valid state, whatever the frame and its direction are: a refused one hands the state back, and an accepted one runs clauses that
-- each keep their part. `Numbers` is what the type of the lent numbers says by itself, as `Shaped` is what the type State says. Assumes nothing.
use mathlib.Core.Path.{◌≡◌, refl, sym, ap, ◌∙◌, subst}
use mathlib.Core.Bool.{Bool, true, false}
use mathlib.Core.List.{List}
use mathlib.Core.Logic.{◌⊎◌, inl, inr}
use Prim.Native.Nat.{ℕ, zero, suc, ◌+◌, ◌*◌, ◌<◌, ◌≤◌}
use native.Mathlib.Omega.{arith}
use lib.Dec.{T, ltb, eqb}
use borrow.Author.Tests.{ltb-true, ltb-false, eqb-true, eqb-false}
use lib.IntN.{ℤ, nat_abs, pos, negsuc}
use lib.ListN.{length, get_or, replicate, get_or-eq_default}
use lib.Signed.{le_z, ◌≤ℤ◌}
use mir.Syntax.{w32}
use mir.Val.{SFits}
use Rattle.numbers.specs.Sum.{at}
use Rattle.numbers.proofs.Parts.{zarith, of, sign, le_yes}
use Rattle.rows.specs.Rows.{all}
use Rattle.rows.proofs.Choice.{and_left, and_right, either, eqZ_is, eqZ_yes}
use Rattle.rows.proofs.All.{all_at}
use Rattle.rows.specs.Choice.{eqZ}
use Rattle.pairs.specs.Pairs.{greater_of}
use Rattle.energy.specs.Energy.{energy_of}
use Rattle.energy.specs.declared.Energies.{Energies}
use Rattle.energy.proofs.Range.{Frame, Filter, energy_loud}
use Rattle.averages.specs.Averages.{LAST_SACF, LAST_SAV0, average_of}
use Rattle.averages.proofs.Pointers.{Pointer, next_pointer, average_inside}
use Rattle.averages.proofs.Kept.{Kept27, Kept36, kept27, kept36, Incoming, average_keeps}
use Rattle.predictor.proofs.Bounds.{predicted_whitening}
use Rattle.lags.proofs.Range.{lag, lagcount_le}
use Rattle.threshold.specs.declared.Kept.{Kept}
use Rattle.threshold.specs.Threshold.{adapt_of}
use Rattle.threshold.proofs.Range.{Sound, adapt_keeps, adapt_filter}
use Rattle.hangover.specs.Hangover.{hangover_of}
use Rattle.hangover.proofs.Kept.{Counts, hangover_keeps}
use Rattle.lags.specs.Lags.{lag_ok}
use Rattle.frames.specs.Frame.{Direction, samples_ok, scale_ok, acf_ok, lags_ok}
use Rattle.frames.proofs.Frame.{nine, four}
use Rattle.state.specs.declared.State.{State}
use Rattle.state.specs.Valid.{valid_of, weight_of, Between, Valid, Shaped}
use Rattle.state.proofs.Facts.{valid, valid_back, between, le_fact}
use Rattle.detector.specs.declared.Middle.{Middle}
use Rattle.detector.specs.Answer.{Answer}
use Rattle.detector.specs.Refusal.{refusal_of}
use Rattle.detector.specs.Step.{spectral_of, accepted_of, tone_read, tone_kept, answer_for}
use Rattle.detector.proofs.Table.{number_0, step_accepted, refused_answer}

-- the lent numbers are of 32 bits
abbrev pub Numbers : List ℤ → Type 0
Numbers l_acf = (k : ℕ) → SFits w32 (at l_acf k)

-- as zeros are
pub zeros_fit : (n k : ℕ) → SFits w32 (at (replicate n (pos 0)) k)
zeros_fit zero k = record { sfits = omega arith }
zeros_fit (suc n) zero = record { sfits = omega arith }
zeros_fit (suc n) (suc k) = zeros_fit n k

-- ---- what an accepted frame is
pub record Accepted (l_acf : List ℤ) (lags : List ℕ) (scalvad : ℤ) (s : State) : Type 0 where
  pub nine : length l_acf ≡ 9
  pub four : length lags ≡ 4
  pub state : Valid s
  pub scale : Between (pos 0) (pos 4) scalvad
  pub first : pos 0 ≤ℤ at l_acf 0
  pub largest : (k : ℕ) → nat_abs (at l_acf k) ≤ nat_abs (at l_acf 0)
  pub each_lag : (k : ℕ) → k < 4 → (40 ≤ get_or lags k 0) × (get_or lags k 0 ≤ 120)

module _ (l_acf : List ℤ) where
  acf_first : acf_ok l_acf ≡ true → pos 0 ≤ℤ at l_acf 0
  unfolding acf_ok
  acf_first t = le_fact (pos 0) (at l_acf 0) (and_left (le_z (pos 0) (at l_acf 0)) (all (λ x. le_z (pos (nat_abs x)) (at l_acf 0)) l_acf) t)

  acf_largest : acf_ok l_acf ≡ true → (k : ℕ) → nat_abs (at l_acf k) ≤ nat_abs (at l_acf 0)
  unfolding acf_ok
  acf_largest t k =
      let a = at l_acf 0 in
      let each : all (λ x. le_z (pos (nat_abs x)) a) l_acf ≡ true = and_right (le_z (pos 0) a) (all (λ x. le_z (pos (nat_abs x)) a) l_acf) t in
      either (nat_abs (at l_acf k) ≤ nat_abs a) (ltb k (length l_acf))
      (λ h. omega (arith, le_yes (pos (nat_abs (at l_acf k))) a (all_at (λ x. le_z (pos (nat_abs x)) a) l_acf k (pos 0) each (ltb-true k (length l_acf) h)), of a))
      (λ h. omega (arith, ap nat_abs (get_or-eq_default l_acf (pos 0) (ltb-false k (length l_acf) h))))

lags_in : (lags : List ℕ) → length lags ≡ 4 → lags_ok lags ≡ true → (k : ℕ) → k < 4 → (40 ≤ get_or lags k 0) × (get_or lags k 0 ≤ 120)
unfolding lags_ok
lags_in lags n t k h = lag (get_or lags k 0) (all_at lag_ok lags k 0 t (omega arith))

scale_in : (scalvad : ℤ) → scale_ok scalvad ≡ true → Between (pos 0) (pos 4) scalvad
unfolding scale_ok
scale_in scalvad t = between (pos 0) (pos 4) scalvad t

pub accepted : (samples : Bool) (l_acf : List ℤ) (lags : List ℕ) (scalvad : ℤ) (s : State) → refusal_of samples l_acf lags scalvad s ≡ 0 → Accepted l_acf lags scalvad s
accepted samples l_acf lags scalvad s e =
    let h = (number_0 samples l_acf lags scalvad s).0 e in
    record {
      nine = nine l_acf lags h.0;
      four = four l_acf lags h.0;
      state = valid s h.2;
      scale = scale_in scalvad h.3;
      first = acf_first l_acf h.4;
      largest = acf_largest l_acf h.4;
      each_lag = lags_in lags (four l_acf lags h.0) h.5;
    }

-- an accepted frame leaves pointers that name frames of their histories, also where its numbers are not known to be of 32 bits
pub next_pointers : (d : Direction) (l_acf : List ℤ) (lags : List ℕ) (scalvad : ℤ) (s : State) → refusal_of (samples_ok d) l_acf lags scalvad s ≡ 0
    → Pointer LAST_SACF (answer_for d l_acf lags scalvad s).next.ptsacf × Pointer LAST_SAV0 (answer_for d l_acf lags scalvad s).next.ptsav0
unfolding accepted_of spectral_of
next_pointers d l_acf lags scalvad s e =
    let v = (accepted (samples_ok d) l_acf lags scalvad s e).state in
    rw (step_accepted d l_acf lags scalvad s e, average_inside l_acf scalvad s.sacf s.ptsacf s.sav0 s.ptsav0 v.ptsacf_last v.ptsav0_last) (
      next_pointer LAST_SACF s.ptsacf refl (record { within = v.ptsacf_last; nines = v.ptsacf_nines }),
      next_pointer LAST_SAV0 s.ptsav0 refl (record { within = v.ptsav0_last; nines = v.ptsav0_nines }),
    )

-- ---- the filter, and what 6.2 to 6.4 leave behind
pub record Filtering (rvad : List ℤ) (normrvad : ℤ) : Type 0 where
  pub size : length rvad ≡ 9
  pub first : Between (pos 16384) (pos 32767) (at rvad 0)
  pub weight : weight_of rvad ≤ 4 * nat_abs (at rvad 0) + 11
  pub norm : Between (pos 2) (pos 9) normrvad

pub record Moving (m : Middle) : Type 0 where
  pub frames : Kept27 m.sacf
  pub frames_at : Pointer 18 m.ptsacf
  pub sums : Kept36 m.sav0
  pub sums_at : Pointer 27 m.ptsav0
  pub filter : Filtering m.rav1 m.normrav1

-- of a state that is valid
module _ (s : State) (shape : Shaped s) (v : Valid s) where
  pub filter_was : Filtering s.rvad s.normrvad
  filter_was = record { size = shape.rvad; first = v.rvad_first; weight = v.rvad_weight; norm = v.normrvad }

  pub frames_was : Kept27 s.sacf
  frames_was = kept27 s.sacf shape.sacf (λ k. ((v.sacf_each k).from, (v.sacf_each k).to)) v.sacf_first.0 v.sacf_first.1 v.sacf_first.2

  pub sums_was : Kept36 s.sav0
  sums_was = kept36 s.sav0 shape.sav0 v.sav0_first.0 v.sav0_first.1 v.sav0_first.2 v.sav0_first.3

  pub frames_at_was : Pointer 18 s.ptsacf
  frames_at_was = record { within = v.ptsacf_last; nines = v.ptsacf_nines }

  pub sums_at_was : Pointer 27 s.ptsav0
  sums_at_was = record { within = v.ptsav0_last; nines = v.ptsav0_nines }

  module _ (l_acf : List ℤ) (scalvad : ℤ) (i : Incoming l_acf scalvad) where
    pub spectral_keeps : Moving (spectral_of l_acf scalvad s)
    unfolding spectral_of weight_of
    spectral_keeps =
        let a = average_keeps l_acf scalvad s.sacf s.ptsacf s.sav0 s.ptsav0 i frames_was frames_at_was sums_was sums_at_was in
        let f = predicted_whitening (average_of l_acf scalvad s.sacf s.ptsacf s.sav0 s.ptsav0).av1 in
        record {
          frames = a.sacf_kept;
          frames_at = a.ptsacf_kept;
          sums = a.sav0_kept;
          sums_at = a.ptsav0_kept;
          filter =
              record {
                size = f.nine;
                first = record { from = f.lo; to = f.hi };
                weight = f.rest;
                norm = record { from = f.norm_lo; to = f.norm_hi };
              };
        }

-- a number that is not negative and not 0
above_zero : (z : ℤ) → pos 0 ≤ℤ z → eqZ z (pos 0) ≡ false → pos 1 ≤ℤ z
above_zero (pos zero) h t = absurd (subst T (sym (eqZ_yes {x = pos 0} {y = pos 0} refl) ∙ t) tt)
above_zero (pos (suc n)) h t = omega zarith
above_zero (negsuc n) h t = absurd (omega zarith)

-- ---- the step
module _ (l_acf : List ℤ) (lags : List ℕ) (scalvad : ℤ) (s : State) (fits : Numbers l_acf) (shape : Shaped s) where
  module _ (ok : Accepted l_acf lags scalvad s) where
    abbrev pub v : Valid s
    v = ok.state

    -- all zero, or a frame with energy
    pub kind : (at l_acf 0 ≡ pos 0) ⊎ Frame l_acf
    kind =
        let z = at l_acf 0 in
        either ((z ≡ pos 0) ⊎ Frame l_acf) (eqZ z (pos 0)) (λ t. inl (eqZ_is z (pos 0) t))
        (λ t. inr (record { some = above_zero z ok.first t; largest = ok.largest; fits = omega (zarith, of z, sign z, (fits 0).sfits, ok.first) }))

    pub filter_ok : Filter s.rvad
    unfolding weight_of
    filter_ok = record { low = v.rvad_first.from; high = v.rvad_first.to; rest = v.rvad_weight }

    pub incoming : Incoming l_acf scalvad
    incoming = record { fits = fits; first = ok.first; least = ok.scale.from; most = ok.scale.to }

    abbrev pub e : Energies
    e = energy_of l_acf scalvad s.rvad s.normrvad

    abbrev pub m : Middle
    m = spectral_of l_acf scalvad s

    abbrev pub was : Kept
    was = record { thvad = s.thvad; adaptcount = s.adaptcount; rvad = s.rvad; normrvad = s.normrvad }

    -- 6.6 to 6.8: what they leave is valid whatever ptch and tone are
    abbrev pub k : Bool → Bool → Kept
    k ptch tone = adapt_of e.acf0 e.pvad ptch m.stat tone m.rav1 m.normrav1 was

    abbrev pub vvad : Bool → Bool → Bool
    vvad ptch tone = greater_of e.pvad (k ptch tone).thvad

    pub moving : Moving m
    moving = spectral_keeps s shape v l_acf scalvad incoming

    pub sound : (ptch tone : Bool) → Sound (k ptch tone)
    sound ptch tone =
        adapt_keeps e.acf0 e.pvad ptch m.stat tone m.rav1 m.normrav1 was
        (record {
          thvad_in = record { e_low = v.exponent.from; e_high = v.exponent.to; mantissa = record { low = v.mantissa.from; high = v.mantissa.to } };
          count_low = v.adaptcount.from;
          count_high = v.adaptcount.to;
        })
        (energy_loud l_acf scalvad s.rvad s.normrvad kind ok.scale.from ok.scale.to filter_ok v.normrvad.from v.normrvad.to)

    filtering : (ptch tone : Bool) → Filtering (k ptch tone).rvad (k ptch tone).normrvad
    filtering ptch tone =
        adapt_filter e.acf0 e.pvad ptch m.stat tone m.rav1 m.normrav1 was Filtering (filter_was s shape v) moving.filter

    counts : (ptch tone : Bool) → let h = hangover_of (vvad ptch tone) s.burstcount s.hangcount in Counts h.burstcount h.hangcount
    counts ptch tone =
        hangover_keeps (vvad ptch tone) s.burstcount s.hangcount
        (record { burst_lo = v.burstcount.from; burst_hi = v.burstcount.to; hang_lo = v.hangcount.from; hang_hi = v.hangcount.to })

    accepted_valid : (tone found : Bool) → Valid (accepted_of tone found l_acf lags scalvad s).next
    unfolding accepted_of
    accepted_valid tone found =
        record {
          ptsacf_last = moving.frames_at.within;
          ptsacf_nines = moving.frames_at.nines;
          ptsav0_last = moving.sums_at.within;
          ptsav0_nines = moving.sums_at.nines;
          sacf_first = (moving.frames.firsts 0 refl, moving.frames.firsts 9 refl, moving.frames.firsts 18 refl);
          sacf_each = λ i. record { from = (moving.frames.each i).0; to = (moving.frames.each i).1 };
          sav0_first = (moving.sums.firsts 0 refl, moving.sums.firsts 9 refl, moving.sums.firsts 18 refl, moving.sums.firsts 27 refl);
          rvad_first = (filtering _ tone).first;
          rvad_weight = (filtering _ tone).weight;
          normrvad = (filtering _ tone).norm;
          mantissa = record { from = (sound _ tone).thvad_in.mantissa.low; to = (sound _ tone).thvad_in.mantissa.high };
          exponent = record { from = (sound _ tone).thvad_in.e_low; to = (sound _ tone).thvad_in.e_high };
          adaptcount = record { from = (sound _ tone).count_low; to = (sound _ tone).count_high };
          burstcount = record { from = (counts _ tone).burst_lo; to = (counts _ tone).burst_hi };
          hangcount = record { from = (counts _ tone).hang_lo; to = (counts _ tone).hang_hi };
          oldlagcount = record { from = omega zarith; to = omega (zarith, lagcount_le s.oldlag lags, ok.four) };
          veryoldlagcount = v.oldlagcount;
          oldlag = ok.each_lag 3 (omega arith);
        }

    accepted_shape : (tone found : Bool) → Shaped (accepted_of tone found l_acf lags scalvad s).next
    unfolding accepted_of
    accepted_shape tone found = record { rvad = (filtering _ tone).size; sacf = moving.frames.size; sav0 = moving.sums.size }

  abbrev Good : State → Type 0
  Good t = (valid_of t ≡ true) × Shaped t

  -- the next state is valid, and has the shape of a state
  pub step_keeps : (d : Direction) → valid_of s ≡ true → Good (answer_for d l_acf lags scalvad s).next
  step_keeps d t =
      let number = refusal_of (samples_ok d) l_acf lags scalvad s in
      either (Good (answer_for d l_acf lags scalvad s).next) (eqb number 0)
      (λ h.
      let n : number ≡ 0 = eqb-true number 0 h in
      let ok = accepted (samples_ok d) l_acf lags scalvad s n in
      subst (λ (r : Answer). Good r.next) (sym (step_accepted d l_acf lags scalvad s n))
      (valid_back (accepted_of (tone_read d s) (tone_kept d) l_acf lags scalvad s).next (accepted_valid ok _ _), accepted_shape ok _ _))
      (λ h.
      let n : number ≡ 0 → ⊥ = eqb-false number 0 h in
      subst Good (sym (refused_answer d l_acf lags scalvad s n).as_given) (t, shape))
