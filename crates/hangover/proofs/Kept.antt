-- The hangover keeps its counts in range: burstcount 0..3, hangcount -1..5 (and at most 4 after a frame). Where the frame is not raw speech,
-- hangcount alone decides. Assumes nothing.
use mathlib.Core.Path.{◌≡◌}
use mathlib.Core.Bool.{Bool, false}
use lib.IntN.{ℤ, pos, negsuc}
use lib.Signed.{le_z, ◌≤ℤ◌}
use Rattle.numbers.proofs.Parts.{zarith, of, plus, minus, same, le_no}
use Rattle.operations.specs.Operations.{add, sub}
use Rattle.operations.proofs.Laws.{add_exact, sub_exact}
use Rattle.rows.specs.Choice.{IF◌THEN◌ELSE◌}
use Rattle.rows.proofs.Choice.{by_test, either}
use Rattle.hangover.specs.declared.Hung.{Hung}
use Rattle.hangover.specs.Hangover.{burst_of, run_down_of, started_of, hangover_of}

pub record Counts (burstcount hangcount : ℤ) : Type 0 where
  pub burst_lo : pos 0 ≤ℤ burstcount
  pub burst_hi : burstcount ≤ℤ pos 3
  pub hang_lo : negsuc 0 ≤ℤ hangcount
  pub hang_hi : hangcount ≤ℤ pos 5

abbrev Small : ℤ → Type 0
Small b = (pos 0 ≤ℤ b) × (b ≤ℤ pos 4)

burst_small : (vvad : Bool) (b h : ℤ) → Counts b h → Small (burst_of vvad b)
unfolding burst_of
burst_small vvad b h k =
    let e = same (add_exact b (pos 1) (omega (zarith, k.burst_lo, k.burst_hi, plus b (pos 1), of b))) in
    by_test Small vvad (add b (pos 1)) (pos 0)
    (λ t. (omega (zarith, k.burst_lo, plus b (pos 1)), omega (zarith, k.burst_hi, plus b (pos 1))))
    (λ t. (omega zarith, omega zarith))

abbrev Down : ℤ → Type 0
Down h = (negsuc 0 ≤ℤ h) × (h ≤ℤ pos 5)

down : (h : ℤ) → Down h → Down (IF le_z (pos 0) h THEN sub h (pos 1) ELSE h)
down h k =
    let e = same (sub_exact h (pos 1) (omega (zarith, k.0, k.1, minus h (pos 1), of h))) in
    by_test Down (le_z (pos 0) h) (sub h (pos 1)) h
    (λ t. (omega (zarith, k.1, minus h (pos 1)), omega (zarith, k.1, minus h (pos 1))))
    (λ t. k)

run_down_keeps : (vvad : Bool) (b h : ℤ) → Counts b h → Counts (run_down_of vvad b h).burstcount (run_down_of vvad b h).hangcount
unfolding run_down_of
run_down_keeps vvad b h k =
    let d = down h (k.hang_lo, k.hang_hi) in record { burst_lo = k.burst_lo; burst_hi = k.burst_hi; hang_lo = d.0; hang_hi = d.1 }

started_keeps : (vvad : Bool) (b h : ℤ) → Small b → Down h → Counts (started_of vvad b h).burstcount (started_of vvad b h).hangcount
unfolding started_of
started_keeps vvad b h s d =
    by_test (λ (r : Hung). Counts r.burstcount r.hangcount) (le_z (pos 3) b) (run_down_of vvad (pos 3) (pos 5)) (run_down_of vvad b h)
    (λ t. run_down_keeps vvad (pos 3) (pos 5) (record { burst_lo = omega zarith; burst_hi = omega zarith; hang_lo = omega zarith; hang_hi = omega zarith }))
    (λ t. run_down_keeps vvad b h (record { burst_lo = s.0; burst_hi = omega (zarith, le_no (pos 3) b t); hang_lo = d.0; hang_hi = d.1 }))

pub hangover_keeps : (vvad : Bool) (b h : ℤ) → Counts b h → Counts (hangover_of vvad b h).burstcount (hangover_of vvad b h).hangcount
unfolding hangover_of
hangover_keeps vvad b h k = started_keeps vvad (burst_of vvad b) h (burst_small vvad b h k) (k.hang_lo, k.hang_hi)

-- a frame without raw speech is sent exactly if the hangover is not over
pub quiet_flag : (b h : ℤ) → (hangover_of false b h).vad ≡ le_z (pos 0) h
unfolding hangover_of started_of burst_of run_down_of IF◌THEN◌ELSE◌
quiet_flag b h = either ((hangover_of false b h).vad ≡ le_z (pos 0) h) (le_z (pos 0) h) (λ t. rw t) (λ t. rw t)
