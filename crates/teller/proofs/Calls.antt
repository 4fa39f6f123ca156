-- What a caller of `start`, and of `feed` and `finish` of a player, gets, by their promises alone, is what the whole trace is told, however it is cut. Assumes nothing.
use mathlib.Core.Path.{◌≡◌, refl, sym, ap, ◌∙◌}
use mathlib.Core.Bool.{Bool}
use mathlib.Core.List.{List, [], ◌∷◌, ◌++◌}
use Prim.Native.Nat.{ℕ, ◌*◌, ◌≤◌}
use native.Mathlib.Omega.{arith}
use borrow.Author.Tests.{le-leb}
use lib.Dec.{eqb}
use lib.ListN.{length, replicate, length-replicate}
use Rattle.std.specs.Prelude.{Option, unwrap_or, Result}
use Rattle.rows.specs.Choice.{IF◌THEN◌ELSE◌}
use Rattle.rows.proofs.Choice.{by_yes, by_no, by_test}
use Rattle.refusals.specs.declared.Refusal.{Refusal}
use Rattle.pieces.specs.Lines.{plain_of}
use Rattle.pieces.specs.Cut.{held_of}
use Rattle.pieces.specs.Calls.{Call, pieces_of, calls_give}
use Rattle.pieces.specs.Pieces.{flat}
use Rattle.pieces.proofs.Written.{put_front}
use Rattle.samples.specs.Beside.{Beside, gives_beside, leaves_beside, ends_beside}
use Rattle.player.specs.declared.Player.{Player}
use Rattle.player.specs.Played as played
use Rattle.player.proofs.Calls as player
use Rattle.player.proofs.Room.{end_room}
use Rattle.teller.specs.declared.Hearing.{Hearing}
use Rattle.teller.specs.Told.{Told}
use Rattle.teller.specs.Words.{text_of, most}
use Rattle.teller.specs.Run as run
use Rattle.teller.specs.Run.{denied_of, next_of, line_text, cut_of, texts_of, tell_of}
use Rattle.teller.specs.Laws.{line_most, short_next, short_text}
use Rattle.teller.specs.Fed.{start_of, fed_of, finish_of, end_of, last_of, calls_from, calls_lent}
use Rattle.teller.proofs.Steps.{told_cut, cut_text}

-- ---- as code makes it: with room for it a piece isn't refused, nor is the end, and what they write is within the room
pub fed_fits : (t : Player Hearing) (p samples : List ℕ) (n : ℕ) (x : Result ℕ Refusal) → 41 * length p ≤ n → x ≡ fed_of t p samples n → player.Within x n
fed_fits t p samples n x h e = player.fed_fits next_of line_text most line_most t p samples n x h e

pub finish_fits : (t : Player Hearing) (n : ℕ) (x : Result ℕ Refusal) → 41 ≤ n → x ≡ finish_of t n → player.Within x n
finish_fits t n x h e = player.finish_fits next_of line_text most line_most t n x h e

-- ---- the end: what is carried is a line, and it has no line feed
cut_is : (h : Hearing) (block l : List ℕ) → plain_of l ≡ length l → line_text h block l ≡ cut_of h
unfolding line_text denied_of
cut_is h block l p = ap (λ (x : Told). text_of x.why) (told_cut h block l p)

-- `refused 6`, and a line feed
pub finish_cut : (t : Player Hearing) → played.last_written next_of line_text t ≡ (IF eqb (length (held_of t.finder)) 0 THEN [] ELSE 114 ∷ 101 ∷ 102 ∷ 117 ∷ 115 ∷ 101 ∷ 100 ∷ 32 ∷ 54 ∷ 10 ∷ [])
finish_cut t = player.last_is next_of line_text cut_of cut_is t ∙ ap (λ (x : List ℕ). IF eqb (length (held_of t.finder)) 0 THEN [] ELSE x) cut_text

-- ---- all calls
-- the end with output lent, if there is room for an answer
last_lent : (t : Player Hearing) (o : List ℕ) → most ≤ length o → played.last_of next_of line_text most o t ≡ played.last_written next_of line_text t
unfolding played.last_of played.finish_of played.out_ended IF◌THEN◌ELSE◌
last_lent t o h =
    let n = length o in
    let q = end_room t most n h in
    let fits = (player.finish_fits next_of line_text most line_most t n (played.finish_of next_of line_text most t n) h refl).most _ (player.finish_ok next_of line_text most line_most t n q) in
    rw (le-leb (most * length (played.carried_of t)) n q) (put_front o (played.last_written next_of line_text t) fits)

-- it gives what the end gives that is lent none
last_same : (t : Player Hearing) (o : List ℕ) → most ≤ length o → last_of t ≡ played.last_of next_of line_text most o t
unfolding last_of end_of
last_same t o room = by_test (λ (x : Option (List ℕ)). unwrap_or x [] ≡ played.last_of next_of line_text most o t) (eqb (length (held_of t.finder)) 0) _ _
    (λ y. sym (last_lent t o room ∙ (player.last_is next_of line_text cut_of cut_is t ∙ by_yes [] _ y)))
    (λ y. sym (last_lent t o room ∙ (player.last_is next_of line_text cut_of cut_is t ∙ by_no [] _ y)))

ends_same : (o : List ℕ) → most ≤ length o → (b : Beside (Player Hearing)) (cs : List (Call most)) → calls_from b.state b.left cs ≡ calls_lent b.state b.left cs o
unfolding calls_from played.calls_beside calls_give ends_beside
ends_same o room b [] = last_same b.state o room
ends_same o room b (c ∷ cs) = ap (λ (x : List ℕ). gives_beside (played.given_of next_of line_text) b c ++ x) (ends_same o room (leaves_beside (played.left_of next_of) b c) cs)

-- what a caller gets by the promises, where the end is lent `o`
pub called_lent : (downlink : Bool) (samples : List ℕ) (cs : List (Call most)) (o : List ℕ) → most ≤ length o → calls_lent (start_of downlink) samples cs o ≡ tell_of downlink samples (flat (pieces_of cs))
unfolding played.whole_of played.texts_of tell_of texts_of
called_lent downlink samples cs o room = player.called_beside next_of line_text most line_most short_next short_text o room cut_of cut_is (run.start_of downlink) samples cs

-- and where it is lent none
pub called : (downlink : Bool) (samples : List ℕ) (cs : List (Call most)) → calls_from (start_of downlink) samples cs ≡ tell_of downlink samples (flat (pieces_of cs))
called downlink samples cs =
    let zero : ℕ = 0 in
    let o = replicate most zero in
    let room : most ≤ length o = omega (arith, length-replicate most zero) in
    ends_same o room (record { state = start_of downlink; left = samples }) cs ∙ called_lent downlink samples cs o room
