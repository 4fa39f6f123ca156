-- `detector::frame` answers as the definition does, for every input. Assumes nothing.
use mathlib.Core.Path.{◌≡◌, sym, ap, ap₂, ◌∙◌}
use mathlib.Core.Bool.{Bool, true}
use mathlib.Core.List.{List}
use Prim.Native.Nat.{ℕ}
use native.Mathlib.Omega.{arith}
use lib.IntN.{ℤ, pos}
use Rattle.numbers.proofs.Read.{zreads}
use Rattle.rows.proofs.Choice.{by_yes}
use Rattle.rows.proofs.Fill.{first_whole}
use Rattle.tone.specs.Tone.{tone_of, flag_of}
use Rattle.refusals.specs.Refusal.{number_in, number_of}
use Rattle.refusals.proofs.Laws.{number_digit}
use Rattle.frames.specs.declared.Direction as code
use Rattle.frames.specs.Frame.{down, samples_ok}
use Rattle.frames.specs.Direction.{direction_in}
use Rattle.frames.proofs.Frame.{nine, four}
use Rattle.state.specs.declared.State.{State}
use Rattle.detector.specs.Refusal.{refusal_of}
use Rattle.detector.specs.Step.{accepted_of, refused_of, tone_read, tone_kept}
use Rattle.detector.specs.Result.{answer_of}
use Rattle.detector.proofs.Table.{number_0, step_accepted, step_refused}
use Rattle.detector.proofs.frame.Goals as goal
use Rattle.detector.proofs.frame.Goals.{After-admit, in-Uplink, in-Downlink}

number_is : (c : After-admit) → let a = c.args in number_in c.admit.result ≡ refusal_of (samples_ok (direction_in a.direction)) a.acf.now a.lags.now a.scalvad a.s
number_is c = let f = c.ranges.scalvad in simp zreads at c.admit.ensures

pub returns-in-Err : goal.returns-in-Err
unfolding answer_of number_in
returns-in-Err c =
    let a = c.args in
    let d = direction_in a.direction in
    let n : number_of c.in-Err.refusal ≡ refusal_of (samples_ok d) a.acf.now a.lags.now a.scalvad a.s = sym (ap number_in c.in-Err.is) ∙ number_is (goal.at.returns-in-Err c).After-admit in
    let k = number_digit c.in-Err.refusal in
    c.new.ensures ∙ ap (λ (n : ℕ). refused_of n a.s) n ∙ sym (step_refused d a.acf.now a.lags.now a.scalvad a.s (λ e. omega arith))

-- the flags that 6.6 reads and that is kept
abbrev flags : code.Direction → State → Bool × Bool
flags d s = (tone_read (direction_in d) s, tone_kept (direction_in d))

-- of 160 samples the flag is the clause's
flag_is : (sof : List ℤ) → samples_ok (down sof) ≡ true → flag_of sof ≡ tone_of sof
unfolding samples_ok flag_of
flag_is sof h = by_yes _ _ h

pub returns : goal.returns
unfolding answer_of number_in tone_read tone_kept direction_in
returns c =
    let a = c.args in
    let d = direction_in a.direction in
    let f = c.ranges.scalvad in
    let n : refusal_of (samples_ok d) a.acf.now a.lags.now a.scalvad a.s ≡ 0 = sym (number_is (goal.at.returns c).After-admit) ∙ ap number_in c.in_default.is in
    let l = (number_0 (samples_ok d) a.acf.now a.lags.now a.scalvad a.s).0 n in
    let e = simp zreads at c.answered.ensures in
    let read : c.match-direction.read ≡ flags a.direction a.s =
    elim c.match-direction.branch [
      | in-Uplink w ↦ w.read-is ∙ ap (λ (x : code.Direction). flags x a.s) (sym w.in-Uplink.is)
      | in-Downlink w ↦
          let ok : samples_ok (down w.in-Downlink.samples.now) ≡ true = ap (λ (x : code.Direction). samples_ok (direction_in x)) (sym w.in-Downlink.is) ∙ l.1 in
          w.read-is ∙ ap (λ (b : Bool). (a.s.tone, b)) (w.tone.ensures ∙ flag_is _ ok) ∙ ap (λ (x : code.Direction). flags x a.s) (sym w.in-Downlink.is)
    ] in
    e
    ∙ ap (λ (x : Bool × Bool). accepted_of x.0 x.1 c.nine.result c.four.result a.scalvad a.s) read
    ∙ ap₂ (λ (x : List ℤ) (y : List ℕ). accepted_of (tone_read d a.s) (tone_kept d) x y a.scalvad a.s) (c.nine.ensures ∙ first_whole 9 a.acf.now (pos 0) (nine _ _ l.0)) (c.four.ensures ∙ first_whole 4 a.lags.now 0 (four _ _ l.0))
    ∙ sym (step_accepted d a.acf.now a.lags.now a.scalvad a.s n)
