-- The answers to a trace as a list: one for each line, and what a run writes is their text, one after the other. Assumes nothing.
use mathlib.Core.Path.{◌≡◌, refl, ap}
use mathlib.Core.List.{List, [], ◌∷◌, ◌++◌}
use Prim.Native.Nat.{ℕ, suc}
use lib.ListN.{length}
use Rattle.state.specs.declared.State.{State}
use Rattle.state.specs.Valid.{reset_of}
use Rattle.pieces.specs.Lines.{lines_of}
use Rattle.pieces.specs.Pieces.{text_after}
use Rattle.runner.specs.Run.{next_of, answer_of, answers_of, run_of, replies_from, replies_of, texts_of}

texts_from : (s : State) (ls : List (List ℕ)) → answers_of s ls ≡ texts_of (replies_from s ls)
unfolding answers_of answer_of text_after replies_from texts_of
texts_from s [] = refl
texts_from s (l ∷ ls) = ap (λ (t : List ℕ). answer_of s l ++ t) (texts_from (next_of s l) ls)

pub run_text : (input : List ℕ) → run_of input ≡ texts_of (replies_of input)
unfolding run_of replies_of
run_text input = texts_from reset_of (lines_of input)

pub replies_length : (s : State) (ls : List (List ℕ)) → length (replies_from s ls) ≡ length ls
unfolding replies_from
replies_length s [] = refl
replies_length s (l ∷ ls) = ap suc (replies_length (next_of s l) ls)
