-- What a caller of `start`, and of `feed` and `finish` of a player, gets, by their promises alone, is what the run of the whole trace beside all samples writes, however
-- the trace is cut. Assumes nothing.
use mathlib.Core.Path.{◌≡◌, refl, sym, ap, ◌∙◌}
use mathlib.Core.List.{List, [], ◌∷◌, ◌++◌}
use Prim.Native.Nat.{ℕ, ◌*◌, ◌≤◌}
use native.Mathlib.Omega.{arith}
use borrow.Author.Tests.{le-leb}
use lib.Dec.{eqb}
use lib.ListN.{length}
use Rattle.std.specs.Prelude.{Option, unwrap_or, Result}
use Rattle.rows.specs.Choice.{IF◌THEN◌ELSE◌}
use Rattle.rows.proofs.Choice.{by_yes, by_no, by_test}
use Rattle.refusals.specs.declared.Refusal.{Refusal}
use Rattle.state.specs.Valid.{reset_of}
use Rattle.pieces.specs.Lines.{lines_of, plain_of}
use Rattle.pieces.specs.Cut.{held_of}
use Rattle.pieces.specs.Calls.{Call, pieces_of, calls_give}
use Rattle.pieces.specs.Pieces.{flat}
use Rattle.pieces.proofs.Written.{put_front}
use Rattle.samples.specs.Beside.{Beside, next_beside, text_beside, gives_beside, leaves_beside, ends_beside}
use Rattle.player.specs.declared.Player.{Player}
use Rattle.player.specs.Played as played
use Rattle.player.specs.Played.{whole_of, texts_of, last_written}
use Rattle.player.proofs.Room.{end_room}
use Rattle.player.proofs.Calls as player
use Rattle.listener.specs.declared.Downlink.{Downlink}
use Rattle.listener.specs.declared.Said.{Said}
use Rattle.listener.specs.Said as one
use Rattle.listener.specs.Run.{next_of, reply_of, answer_of, beside_of, answers_of, run_of}
use Rattle.listener.specs.Hears as hears
use Rattle.listener.specs.Laws as law
use Rattle.listener.specs.Fed.{start_of, fed_of, finish_of, end_of, last_of, calls_from, calls_lent}
use Rattle.listener.proofs.Steps.{said_cut}

-- ---- as code makes it: with room for it a piece isn't refused, nor is the end, and what they write is within the room
pub fed_fits : (r : Player Downlink) (p q : List ℕ) (n : ℕ) (x : Result ℕ Refusal) → 5 * length p ≤ n → x ≡ fed_of r p q n → player.Within x n
fed_fits r p q n x h e = player.fed_fits hears.next_of hears.text_of 5 law.text_most r p q n x h e

pub finish_fits : (r : Player Downlink) (n : ℕ) (x : Result ℕ Refusal) → 5 ≤ n → x ≡ finish_of r n → player.Within x n
finish_fits r n x h e = player.finish_fits hears.next_of hears.text_of 5 law.text_most r n x h e

-- ---- the end: what is carried is a line, and malformed, whatever its samples
heard_cut : (d : Downlink) (b l : List ℕ) → plain_of l ≡ length l → hears.text_of d b l ≡ hears.cut_of d
unfolding hears.text_of answer_of reply_of one.denied_of
heard_cut d b l p = ap (λ (x : Said). one.text_of x.reply) (said_cut d.state b l p)

pub finish_cut : (r : Player Downlink) → last_written hears.next_of hears.text_of r ≡ (IF eqb (length (held_of r.finder)) 0 THEN [] ELSE hears.cut_of r.hearer)
finish_cut r = player.last_is hears.next_of hears.text_of hears.cut_of heard_cut r

-- ---- all calls
-- what the detector writes for the lines that it hears is what the run writes
heard_all : (d : Downlink) (samples input : List ℕ) → whole_of hears.next_of hears.text_of d samples input ≡ answers_of (beside_of d.state samples) (lines_of input)
unfolding whole_of texts_of answers_of next_beside text_beside hears.next_of hears.text_of
heard_all d samples input =
    player.text_as (next_beside hears.next_of) (text_beside hears.text_of) (next_beside next_of) (text_beside answer_of) (λ (b : Beside Downlink). beside_of b.state.state b.left) (λ b l. refl) (λ b l. refl)
    (record { state = d; left = samples }) (lines_of input)

-- the end with output lent, if there is room for an answer
last_lent : (r : Player Downlink) (o : List ℕ) → 5 ≤ length o → played.last_of hears.next_of hears.text_of 5 o r ≡ played.last_written hears.next_of hears.text_of r
unfolding played.last_of played.finish_of played.out_ended IF◌THEN◌ELSE◌
last_lent r o h =
    let n = length o in
    let q = end_room r 5 n h in
    let fits = (player.finish_fits hears.next_of hears.text_of 5 law.text_most r n (played.finish_of hears.next_of hears.text_of 5 r n) h refl).most _ (player.finish_ok hears.next_of hears.text_of 5 law.text_most r n q) in
    rw (le-leb (5 * length (played.carried_of r)) n q) (put_front o (played.last_written hears.next_of hears.text_of r) fits)

-- it gives what the end gives that is lent none
last_same : (r : Player Downlink) (o : List ℕ) → 5 ≤ length o → last_of r ≡ played.last_of hears.next_of hears.text_of 5 o r
unfolding last_of end_of one.denied_of
last_same r o room = by_test (λ (x : Option (List ℕ)). unwrap_or x [] ≡ played.last_of hears.next_of hears.text_of 5 o r) (eqb (length (held_of r.finder)) 0) _ _
    (λ y. sym (last_lent r o room ∙ (finish_cut r ∙ by_yes [] _ y)))
    (λ y. sym (last_lent r o room ∙ (finish_cut r ∙ by_no [] _ y)))

ends_same : (o : List ℕ) → 5 ≤ length o → (b : Beside (Player Downlink)) (cs : List (Call 5)) → calls_from b.state b.left cs ≡ calls_lent b.state b.left cs o
unfolding calls_from played.calls_beside calls_give ends_beside
ends_same o room b [] = last_same b.state o room
ends_same o room b (c ∷ cs) = ap (λ (x : List ℕ). gives_beside (played.given_of hears.next_of hears.text_of) b c ++ x) (ends_same o room (leaves_beside (played.left_of hears.next_of) b c) cs)

-- what a caller gets by the promises, where the end is lent `o`
pub called_lent : (samples : List ℕ) (cs : List (Call 5)) (o : List ℕ) → 5 ≤ length o → calls_lent start_of samples cs o ≡ run_of (flat (pieces_of cs)) samples
unfolding run_of
called_lent samples cs o room =
    player.called_beside hears.next_of hears.text_of 5 law.text_most law.short_next law.short_text o room hears.cut_of heard_cut (record { state = reset_of }) samples cs
    ∙ heard_all (record { state = reset_of }) samples (flat (pieces_of cs))

-- and where it is lent none
pub called : (samples : List ℕ) (cs : List (Call 5)) → calls_from start_of samples cs ≡ run_of (flat (pieces_of cs)) samples
called samples cs =
    let o : List ℕ = 0 ∷ 0 ∷ 0 ∷ 0 ∷ 0 ∷ [] in
    ends_same o (omega arith) (record { state = start_of; left = samples }) cs ∙ called_lent samples cs o (omega arith)
