-- The three demands on the detector, with the table, the clauses and the distance of document 01. Read this file first. Each record below is one
-- demand, a statement about an answer and about what each lent buffer holds afterwards. proofs/Meets.antt and proofs/Lines.antt prove it of what
-- the functions promise for every input (their `ensures`): of `answer_for`, which is what `detector::step` answers on the uplink and
-- `detector::downlink` on the downlink, and of what `lines::read` and `lines::write` answer and leave. That every call ends and that nothing overflows is what the toolchain proves of every function; a buffer that is
-- lent for reading only is not written by any call. Behind the demands stand document 01's whole case, from bytes to bytes, and that what was decided
-- where document 01 is silent is never met. Distance, Case and Covered hold what these statements name. Beside this file: Sums (document 01's sums done
-- by hand), Idle (its idle programs). Assumes nothing.
use Rattle.std.specs.Prelude.{◌≡◌, true, false, ◌&&◌, List, ◌↔◌, ℕ, suc, ◌+◌, ◌^◌, ◌≤◌, eqb, ℤ, pos, ◌+ℤ◌, ◌-ℤ◌, ◌*ℤ◌, length, ◌≤ℤ◌, ◌<ℤ◌}
use Rattle.numbers.specs.Sum.{at, sum}
use Rattle.operations.specs.Operations.{l_mult}
use Rattle.rows.specs.Rows.{l_sum}
use Rattle.pairs.specs.Pairs.{pair}
use Rattle.energy.specs.Energy.{sacf_of}
use Rattle.energy.specs.Exact.{exact_of}
use Rattle.frames.specs.Frame.{Direction, lengths_ok, samples_ok, scale_ok, acf_ok, lags_ok}
use Rattle.state.specs.declared.State.{State}
use Rattle.state.specs.Valid.{valid_of, Shaped}
use Rattle.detector.specs.Answer.{Answer}
use Rattle.detector.specs.Step.{accepted_of, tone_read, tone_kept}
use Rattle.lines.specs.declared.Frame.{Frame}
use Rattle.lines.specs.Line.{frame_of, formed_of}
use Rattle.lines.specs.Answers.{read_of, acf_after, lags_after, write_of, line_after, Heading}
use Rattle.runner.specs.Run.{run_of}
use Rattle.demands.specs.Case.{input, output}
use Rattle.demands.specs.Covered.{Covered}
use Rattle.demands.specs.Distance.{e_of, l_of, a_of, p_of, distance_of, small_of, energy_units, distance_units, pair_units}

-- ---- 1. "A bad buffer, scale, autocorrelation, lag or state is refused with the number in document 01. A refusal hands back the state it got." With
-- request 5: a downlink frame with other than 160 samples is 8, checked directly after number 1. On the uplink `samples_ok` is true, and there is no 8
pub record Demand1 (d : Direction) (l_acf : List ℤ) (lags : List ℕ) (scalvad : ℤ) (s : State) (r : Answer) : Type 0 where
  pub number_1 : (r.refusal ≡ 1) ↔ (lengths_ok l_acf lags ≡ false)
  pub number_8 : (r.refusal ≡ 8) ↔ ((lengths_ok l_acf lags ≡ true) × (samples_ok d ≡ false))
  pub number_5 : (r.refusal ≡ 5) ↔ ((lengths_ok l_acf lags ≡ true) × (samples_ok d ≡ true) × (valid_of s ≡ false))
  pub number_2 : (r.refusal ≡ 2) ↔ ((lengths_ok l_acf lags ≡ true) × (samples_ok d ≡ true) × (valid_of s ≡ true) × (scale_ok scalvad ≡ false))
  pub number_3 : (r.refusal ≡ 3) ↔ ((lengths_ok l_acf lags ≡ true) × (samples_ok d ≡ true) × (valid_of s ≡ true) × (scale_ok scalvad ≡ true) × (acf_ok l_acf ≡ false))
  pub number_4 : (r.refusal ≡ 4)
      ↔ ((lengths_ok l_acf lags ≡ true) × (samples_ok d ≡ true) × (valid_of s ≡ true) × (scale_ok scalvad ≡ true) × (acf_ok l_acf ≡ true) × (lags_ok lags ≡ false))
  pub number_0 : (r.refusal ≡ 0)
      ↔ ((lengths_ok l_acf lags ≡ true) × (samples_ok d ≡ true) × (valid_of s ≡ true) × (scale_ok scalvad ≡ true) × (acf_ok l_acf ≡ true) × (lags_ok lags ≡ true))
  pub no_flag : (r.refusal ≡ 0 → ⊥) → (r.vad ≡ false) × (r.vvad ≡ false)
  pub no_energy : (r.refusal ≡ 0 → ⊥) → (r.acf0 ≡ pair (pos 0) (pos 0)) × (r.pvad ≡ pair (pos 0) (pos 0))
  pub as_given : (r.refusal ≡ 0 → ⊥) → r.next ≡ s

-- the same for a line `l` to read into lent numbers and lags, which hold `acf'` and `lags'` afterwards: "1, 6, 2, 3, 4", and "a refused line to read
-- leaves the lent numbers and lags unchanged and answers scale 0"
pub record ReadDemand1 (acf : List ℤ) (lags l : List ℕ) (r : Heading) (acf' : List ℤ) (lags' : List ℕ) : Type 0 where
  pub number_1 : (r.refusal ≡ 1) ↔ (lengths_ok acf lags ≡ false)
  pub number_6 : (r.refusal ≡ 6) ↔ ((lengths_ok acf lags ≡ true) × (formed_of l ≡ false))
  pub number_2 : (r.refusal ≡ 2) ↔ ((lengths_ok acf lags ≡ true) × (formed_of l ≡ true) × (scale_ok (frame_of l).scale ≡ false))
  pub number_3 : (r.refusal ≡ 3) ↔ ((lengths_ok acf lags ≡ true) × (formed_of l ≡ true) × (scale_ok (frame_of l).scale ≡ true) × (acf_ok (frame_of l).acf ≡ false))
  pub number_4 : (r.refusal ≡ 4)
      ↔ ((lengths_ok acf lags ≡ true) × (formed_of l ≡ true) × (scale_ok (frame_of l).scale ≡ true) × (acf_ok (frame_of l).acf ≡ true) × (lags_ok (frame_of l).lags ≡ false))
  pub number_0 : (r.refusal ≡ 0)
      ↔ ((lengths_ok acf lags ≡ true) × (formed_of l ≡ true) × (scale_ok (frame_of l).scale ≡ true) × (acf_ok (frame_of l).acf ≡ true) × (lags_ok (frame_of l).lags ≡ true))
  pub no_scale : (r.refusal ≡ 0 → ⊥) → r.scale ≡ pos 0
  pub as_lent : (r.refusal ≡ 0 → ⊥) → (acf' ≡ acf) × (lags' ≡ lags)

-- and for a frame `f` to write into a lent line `l`, which holds `l'` afterwards: "1, 2, 3, 4", and "a refused line to write leaves its 82 bytes
-- unchanged". `n` is the answer
pub record WriteDemand1 (f : Frame) (l : List ℕ) (n : ℕ) (l' : List ℕ) : Type 0 where
  pub number_1 : (n ≡ 1) ↔ (lengths_ok f.acf f.lags && eqb (length l) 82 ≡ false)
  pub number_2 : (n ≡ 2) ↔ ((lengths_ok f.acf f.lags && eqb (length l) 82 ≡ true) × (scale_ok f.scale ≡ false))
  pub number_3 : (n ≡ 3) ↔ ((lengths_ok f.acf f.lags && eqb (length l) 82 ≡ true) × (scale_ok f.scale ≡ true) × (acf_ok f.acf ≡ false))
  pub number_4 : (n ≡ 4) ↔ ((lengths_ok f.acf f.lags && eqb (length l) 82 ≡ true) × (scale_ok f.scale ≡ true) × (acf_ok f.acf ≡ true) × (lags_ok f.lags ≡ false))
  pub number_0 : (n ≡ 0) ↔ ((lengths_ok f.acf f.lags && eqb (length l) 82 ≡ true) × (scale_ok f.scale ≡ true) × (acf_ok f.acf ≡ true) × (lags_ok f.lags ≡ true))
  pub as_lent : (n ≡ 0 → ⊥) → l' ≡ l

-- ---- 2. "For every accepted frame the flags, both energies and the whole next state are those of clauses 6.1 to 6.9", and a step keeps validity.
-- Request 4 has mended the steps of document 01: 6.2 to 6.4 run for an all-zero frame, too. Request 5: 6.6 reads `tone_read` and the next state has
-- `tone_kept`, on the uplink false both, and on the downlink the flag of the state and what 6.10 finds in the samples
pub record Demand2 (d : Direction) (l_acf : List ℤ) (lags : List ℕ) (scalvad : ℤ) (s : State) (r : Answer) : Type 0 where
  pub clauses : r.refusal ≡ 0 → r ≡ accepted_of (tone_read d s) (tone_kept d) l_acf lags scalvad s
  pub kept : valid_of s ≡ true → valid_of r.next ≡ true
  pub shaped : valid_of s ≡ true → Shaped r.next

-- the same for lines. An accepted line leaves its frame; and that frame, written into any 82 bytes, is accepted and gives the same bytes
pub record ReadDemand2 (l : List ℕ) (r : Heading) (acf' : List ℤ) (lags' : List ℕ) : Type 0 where
  pub frame : r.refusal ≡ 0 → record { acf = acf'; scale = r.scale; lags = lags' } ≡ frame_of l
  pub same_bytes : r.refusal ≡ 0 → (o : List ℕ) → length o ≡ 82 → (write_of (frame_of l) o ≡ 0) × (line_after (frame_of l) o ≡ l)

-- what is written reads back as its frame, into any nine numbers and four lags
pub record WriteDemand2 (f : Frame) (n : ℕ) (l' : List ℕ) : Type 0 where
  pub reads_back : n ≡ 0 → (acf : List ℤ) (lags : List ℕ) → lengths_ok acf lags ≡ true
      → (read_of acf lags l' ≡ record { refusal = 0; scale = f.scale }) × (acf_after acf lags l' ≡ f.acf) × (lags_after acf lags l' ≡ f.lags)

-- ---- 3. "The filter sum never saturates, and the reported energy lies within a stated distance of the exact one; so the raw decision is right
-- outside that distance." For an accepted frame with energy: L_ACF[0] above 0. The filter and normrvad are those at entry; the threshold in force is
-- thvad after 6.6, which is the one that the answer hands on. It is the same in both directions.
pub record Demand3 (l_acf : List ℤ) (scalvad : ℤ) (s : State) (r : Answer) : Type 0 where
  -- no partial sum of the filter saturates, so L is the plain sum
  pub partial_sums : (n : ℕ) → n ≤ 8 → l_sum n (λ k. l_mult (sacf_of l_acf (suc k)) (at s.rvad (suc k))) ≡ sum n (λ k. at s.rvad (suc k) *ℤ sacf_of l_acf (suc k) *ℤ pos 2)
  pub plain_sum : l_of l_acf s.rvad ≡ exact_of (at s.rvad) (sacf_of l_acf)
  -- L positive: E·2^(a+p) differs from m·2^35 by at most the distance, and the exponent is 46 + 2·scalvad - a - normrvad - p
  pub not_below : pos 0 <ℤ l_of l_acf s.rvad → (r.pvad.m *ℤ pos (2 ^ 35)) ≤ℤ (e_of l_acf s.rvad *ℤ pos (2 ^ (a_of l_acf + p_of l_acf s.rvad)) +ℤ pos (distance_of l_acf s.rvad))
  pub not_above : pos 0 <ℤ l_of l_acf s.rvad → (e_of l_acf s.rvad *ℤ pos (2 ^ (a_of l_acf + p_of l_acf s.rvad))) ≤ℤ (r.pvad.m *ℤ pos (2 ^ 35) +ℤ pos (distance_of l_acf s.rvad))
  pub exponent : pos 0 <ℤ l_of l_acf s.rvad → r.pvad.e ≡ pos 46 +ℤ scalvad *ℤ pos 2 -ℤ pos (a_of l_acf) -ℤ s.normrvad -ℤ pos (p_of l_acf s.rvad)
  -- L not positive: E·2^a is at most the small bound
  pub small : l_of l_acf s.rvad ≤ℤ pos 0 → (e_of l_acf s.rvad *ℤ pos (2 ^ a_of l_acf)) ≤ℤ pos (small_of s.rvad)
  -- L positive: speech if the exact energy beats the threshold in force by more than the distance, quiet if it falls short by at least the distance
  pub speech : pos 0 <ℤ l_of l_acf s.rvad
      → (pos (pair_units r.next.thvad + distance_units l_acf s.rvad scalvad s.normrvad)) <ℤ (energy_units l_acf s.rvad scalvad s.normrvad) → r.vvad ≡ true
  pub quiet : pos 0 <ℤ l_of l_acf s.rvad
      → (energy_units l_acf s.rvad scalvad s.normrvad +ℤ pos (distance_units l_acf s.rvad scalvad s.normrvad)) ≤ℤ (pos (pair_units r.next.thvad)) → r.vvad ≡ false

-- ---- the whole case: "input `00000001`, 64 zeros, `0`, `28282828`, line feed; output `000` and a line feed"
abbrev pub WholeCase : Type 0
WholeCase = run_of input ≡ output

-- ---- what was decided where document 01 is silent is never met in an accepted frame of either direction, in 6.1 to 6.10: clause by clause, each
-- division, norm, shift and assignment is one that document 01 covers, so that who would have decided otherwise has the same answers
abbrev pub NeverMet : Direction → List ℤ → List ℕ → ℤ → State → Answer → Type 0
NeverMet d l_acf lags scalvad s r = r.refusal ≡ 0 → Covered d l_acf lags scalvad s
