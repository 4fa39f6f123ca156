-- A caller that writes nothing: its state alone goes on from line to line. It is a caller whose text is empty and whose output has no byte, so
-- what is shown of `Runs` holds of it. Assumes nothing.
use mathlib.Core.Path.{◌≡◌, refl, sym}
use mathlib.Core.List.{List, []}
use Prim.Native.Nat.{ℕ, ◌+◌, ◌-◌, ◌<◌, ◌≤◌}
use native.Mathlib.Omega.{arith}
use lib.ListN.{length, take, drop}
use Rattle.pieces.specs.Lines.{lines_of, first_of}
use Rattle.pieces.specs.Pieces.{state_after}
use Rattle.pieces.proofs.Written.{put_none}
use Rattle.pieces.proofs.Runs.{Runs, runs_start, runs_line, runs_state}

abbrev pub silent : {S : Type 0} → S → List ℕ → List ℕ
silent s l = []

none : {S : Type 0} (s : S) (l : List ℕ) → length (silent s l) ≤ 0
none s l = omega arith

-- the state s at the place i of the text l, from s₀ on
abbrev pub Folds : {S : Type 0} → (S → List ℕ → S) → List ℕ → S → ℕ → S → Type 0
Folds next l s₀ i s = Runs next silent 0 l s₀ 0 [] i s 0 []

module _ {S : Type 0} (next : S → List ℕ → S) where
  pub folds_start : (l : List ℕ) (s : S) → Folds next l s 0 s
  folds_start l s = runs_start next silent 0 none l s 0 [] (omega arith)

  module _ {l : List ℕ} {s₀ : S} {i : ℕ} {s : S} (r : Folds next l s₀ i s) where
    -- a line more
    pub folds_line : (to : ℕ) (s' : S) → i < length l → to ≡ i + first_of (drop i l) → s' ≡ next s (take (to - i) (drop i l)) → Folds next l s₀ to s'
    folds_line to s' h e p = runs_line next silent 0 none r to [] 0 s' [] refl h e p refl (sym (put_none [] 0 (omega arith)))

    -- the end
    pub folds_end : length l ≤ i → s ≡ state_after next s₀ (lines_of l)
    folds_end h = runs_state next silent 0 none r h
