-- What a caller of `start`, of `feed` of a player and of `finish` gets, by their promises alone, is what the run of the whole input writes, however the input is
-- cut. Assumes nothing.
use mathlib.Core.Path.{◌≡◌, refl, sym, ap, ◌∙◌}
use mathlib.Core.List.{List, [], ◌∷◌}
use Prim.Native.Nat.{ℕ, ◌*◌, ◌≤◌}
use native.Mathlib.Omega.{arith}
use lib.Dec.{eqb}
use lib.ListN.{length}
use Rattle.std.specs.Prelude.{Option, Some, None, unwrap_or, Result}
use Rattle.rows.specs.Choice.{IF◌THEN◌ELSE◌}
use Rattle.rows.proofs.Choice.{by_test, by_yes, by_no}
use Rattle.refusals.specs.declared.Refusal.{Refusal}
use Rattle.pieces.specs.Lines.{lines_of, plain_of}
use Rattle.pieces.specs.Cut.{held_of}
use Rattle.pieces.specs.Calls.{Call, pieces_of}
use Rattle.pieces.specs.Pieces.{flat}
use Rattle.pieces.proofs.Carried.{held_plain}
use Rattle.samples.specs.Beside.{Beside, next_beside, text_beside}
use Rattle.player.specs.declared.Player.{Player}
use Rattle.player.specs.Played.{beside_of, whole_of, texts_of, carried_of, last_written}
use Rattle.player.specs.Played as played
use Rattle.player.proofs.Calls as player
use Rattle.runner.proofs.Calls.{ends_alike, last_lent}
use Rattle.card.specs.History.{all_reset}
use Rattle.exchange.specs.declared.Bank.{Bank}
use Rattle.exchange.specs.Run.{channels, malformed, next_of, write_of, answers_of, run_of}
use Rattle.exchange.specs.Hears as hears
use Rattle.exchange.specs.Laws as law
use Rattle.exchange.specs.Fed.{start_of, fed_of, finish_of, end_of, given_of, left_of, last_of, calls_from, calls_lent}
use Rattle.exchange.proofs.Steps.{cut_text}

-- ---- as code makes it: with room for it a piece isn't refused, nor is the end, and what they write is within the room
pub fed_fits : (x : Player Bank) (p : List ℕ) (n : ℕ) (y : Result ℕ Refusal) → 4 * length p ≤ n → y ≡ fed_of x p n → player.Within y n
fed_fits x p n y h e = player.fed_fits hears.next_of hears.text_of 4 law.text_most x p [] n y h e

pub finish_fits : (x : Player Bank) (n : ℕ) (y : Result ℕ Refusal) → 4 ≤ n → y ≡ finish_of x n → player.Within y n
finish_fits x n y h e = player.finish_fits hears.next_of hears.text_of 4 law.text_most x n y h e

-- ---- all calls
-- what the bank writes for the lines that it hears is what the run writes
heard_lines : (b : Bank) (ls : List (List ℕ)) → texts_of hears.next_of hears.text_of (beside_of b []) ls ≡ answers_of b.states ls
unfolding texts_of answers_of next_beside text_beside hears.next_of hears.text_of
heard_lines b ls =
    player.text_as (next_beside hears.next_of) (text_beside hears.text_of) next_of write_of (λ (x : Beside Bank). x.state.states) (λ x l. refl) (λ x l. refl) (beside_of b []) ls

-- what a caller gets by the promises, where the end is lent the room for an answer
pub called_lent : (cs : List (Call 4)) (o : List ℕ) → 4 ≤ length o → calls_lent start_of cs o ≡ run_of (flat (pieces_of cs))
unfolding run_of whole_of
called_lent cs o room =
    player.called_alone hears.next_of hears.text_of 4 law.text_most law.short_next law.short_text o room (record { states = all_reset channels }) cs
    ∙ heard_lines (record { states = all_reset channels }) (lines_of (flat (pieces_of cs)))

-- ---- the end: what is carried is a line, answered as any other
pub finish_text : (x : Player Bank) → last_written hears.next_of hears.text_of x ≡ answers_of x.hearer.states (lines_of (held_of x.finder))
unfolding last_written carried_of
finish_text x = heard_lines x.hearer (lines_of (held_of x.finder))

-- and it is malformed
heard_cut : (b : Bank) (s l : List ℕ) → plain_of l ≡ length l → hears.text_of b s l ≡ hears.cut_of b
unfolding hears.text_of malformed
heard_cut b s l p = cut_text b.states l p

pub finish_cut : (x : Player Bank) → last_written hears.next_of hears.text_of x ≡ (IF eqb (length (held_of x.finder)) 0 THEN [] ELSE hears.cut_of x.hearer)
finish_cut x = player.last_is hears.next_of hears.text_of hears.cut_of heard_cut x

-- ---- so the end needs no room
pub end_is : (x : Player Bank) → end_of x ≡ (IF eqb (length (held_of x.finder)) 0 THEN None ELSE Some (hears.cut_of x.hearer))
unfolding end_of hears.text_of
end_is x = ap (λ (t : List ℕ). IF eqb (length (held_of x.finder)) 0 THEN None ELSE Some t) (heard_cut x.hearer [] (held_of x.finder) (held_plain x.finder))

end_text : (x : Player Bank) → last_of x ≡ last_written hears.next_of hears.text_of x
unfolding last_of
end_text x =
    ap (λ (y : Option (List ℕ)). unwrap_or y []) (end_is x)
    ∙ by_test (λ (y : Option (List ℕ)). unwrap_or y [] ≡ last_written hears.next_of hears.text_of x) (eqb (length (held_of x.finder)) 0) _ _
    (λ t. sym (finish_cut x ∙ by_yes _ _ t))
    (λ t. sym (finish_cut x ∙ by_no _ _ t))

-- what a caller gets by the promises
pub called : (cs : List (Call 4)) → calls_from start_of cs ≡ run_of (flat (pieces_of cs))
unfolding calls_from given_of left_of played.calls_alone
called cs =
    let o = 0 ∷ 0 ∷ 0 ∷ 0 ∷ [] in
    ends_alike given_of left_of last_of (played.last_of hears.next_of hears.text_of 4 o) (λ x. end_text x ∙ sym (last_lent hears.next_of hears.text_of 4 law.text_most o (omega arith) x)) start_of cs
    ∙ called_lent cs o (omega arith)
