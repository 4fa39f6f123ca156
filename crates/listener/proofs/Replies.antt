-- The answers to a trace with its samples as a list: one for each line, and what a run writes is their text, one after the other. Assumes nothing.
use mathlib.Core.Path.{◌≡◌, refl, ap}
use mathlib.Core.List.{List, [], ◌∷◌, ◌++◌}
use Prim.Native.Nat.{ℕ, suc}
use lib.ListN.{length}
use Rattle.state.specs.declared.State.{State}
use Rattle.state.specs.Valid.{reset_of}
use Rattle.pieces.specs.Lines.{lines_of}
use Rattle.pieces.specs.Pieces.{text_after}
use Rattle.samples.specs.Beside.{Beside, next_beside, text_beside}
use Rattle.listener.specs.Run.{next_of, answer_of, beside_of, answers_of, run_of, replies_from, replies_of, texts_of}

texts_from : (b : Beside State) (ls : List (List ℕ)) → answers_of b ls ≡ texts_of (replies_from b ls)
unfolding answers_of answer_of text_beside text_after replies_from texts_of
texts_from b [] = refl
texts_from b (l ∷ ls) = ap (λ (t : List ℕ). text_beside answer_of b l ++ t) (texts_from (next_beside next_of b l) ls)

pub run_text : (trace samples : List ℕ) → run_of trace samples ≡ texts_of (replies_of trace samples)
unfolding run_of replies_of
run_text trace samples = texts_from (beside_of reset_of samples) (lines_of trace)

pub replies_length : (b : Beside State) (ls : List (List ℕ)) → length (replies_from b ls) ≡ length ls
unfolding replies_from
replies_length b [] = refl
replies_length b (l ∷ ls) = ap suc (replies_length (next_beside next_of b l) ls)
