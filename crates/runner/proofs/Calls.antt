-- What a caller of `start`, of `feed` of a player and of `finish` gets, by their promises alone, is what the run of the whole input writes, however the input is
-- cut. Assumes nothing.
use mathlib.Core.Path.{◌≡◌, refl, sym, ap, ◌∙◌}
use mathlib.Core.List.{List, [], ◌∷◌, ◌++◌}
use Prim.Native.Nat.{ℕ, ◌*◌, ◌≤◌}
use native.Mathlib.Omega.{arith}
use borrow.Author.Tests.{le-leb}
use lib.Dec.{eqb}
use lib.ListN.{length}
use Rattle.std.specs.Prelude.{false, Option, Some, None, unwrap_or, Result}
use Rattle.rows.specs.Choice.{IF◌THEN◌ELSE◌}
use Rattle.rows.proofs.Choice.{by_test, by_yes, by_no}
use Rattle.refusals.specs.declared.Refusal.{Refusal}
use Rattle.state.specs.declared.State.{State}
use Rattle.state.specs.Valid.{reset_of}
use Rattle.pieces.specs.Lines.{lines_of, plain_of, short}
use Rattle.pieces.specs.Cut.{finder_of, held_of}
use Rattle.pieces.specs.Calls.{Call, pieces_of, calls_give}
use Rattle.pieces.specs.Pieces.{flat, handed_all}
use Rattle.pieces.proofs.Caller.{text_whole}
use Rattle.pieces.proofs.Carried.{held_plain}
use Rattle.pieces.proofs.Written.{put_front}
use Rattle.samples.specs.Beside.{Beside, next_beside, text_beside}
use Rattle.player.specs.declared.Player.{Player}
use Rattle.player.specs.Played.{beside_of, whole_of, texts_of, carried_of, last_written}
use Rattle.player.specs.Played as played
use Rattle.player.proofs.Room.{end_room}
use Rattle.player.proofs.Calls.{text_as, called_alone}
use Rattle.player.proofs.Calls as player
use Rattle.runner.specs.declared.Uplink.{Uplink}
use Rattle.runner.specs.declared.Said.{Said}
use Rattle.runner.specs.Said as one
use Rattle.runner.specs.Run.{next_of, reply_of, answer_of, answers_of, run_of}
use Rattle.runner.specs.Hears as hears
use Rattle.runner.specs.Fed.{start_of, fed_of, finish_of, end_of, given_of, left_of, last_of, calls_from, calls_lent}
use Rattle.runner.specs.Laws as law
use Rattle.runner.proofs.Steps.{said_short, said_cut}

-- a line that the end of the input cut is malformed
heard_cut : (u : Uplink) (b l : List ℕ) → plain_of l ≡ length l → hears.text_of u b l ≡ hears.cut_of u
unfolding hears.text_of answer_of reply_of one.denied_of
heard_cut u b l p = ap (λ (x : Said). one.text_of x.reply) (said_cut u.state l p)

-- ---- as code makes it: with room for it a piece isn't refused, nor is the end, and what they write is within the room
pub fed_fits : (r : Player Uplink) (p : List ℕ) (n : ℕ) (x : Result ℕ Refusal) → 4 * length p ≤ n → x ≡ fed_of r p n → player.Within x n
fed_fits r p n x h e = player.fed_fits hears.next_of hears.text_of 4 law.text_most r p [] n x h e

pub finish_fits : (r : Player Uplink) (n : ℕ) (x : Result ℕ Refusal) → 4 ≤ n → x ≡ finish_of r n → player.Within x n
finish_fits r n x h e = player.finish_fits hears.next_of hears.text_of 4 law.text_most r n x h e

-- ---- all calls
short_next : (s : State) (l : List ℕ) → next_of s (short l) ≡ next_of s l
unfolding next_of
short_next s l = ap (λ (x : Said). x.next) (said_short s l)

short_text : (s : State) (l : List ℕ) → answer_of s (short l) ≡ answer_of s l
unfolding answer_of reply_of
short_text s l = ap (λ (x : Said). one.text_of x.reply) (said_short s l)

-- however an input is cut, the answers to the lines that are handed out are those of the run of the whole
pub cut : (ps : List (List ℕ)) → answers_of reset_of (handed_all (finder_of []) ps) ≡ run_of (flat ps)
unfolding run_of answers_of
cut ps = text_whole next_of answer_of short_next short_text _ ps

-- what the detector writes for the lines that it hears is what the run writes
heard_lines : (u : Uplink) (ls : List (List ℕ)) → texts_of hears.next_of hears.text_of (beside_of u []) ls ≡ answers_of u.state ls
unfolding texts_of answers_of next_beside text_beside hears.next_of hears.text_of
heard_lines u ls =
    text_as (next_beside hears.next_of) (text_beside hears.text_of) next_of answer_of (λ (b : Beside Uplink). b.state.state) (λ b l. refl) (λ b l. refl) (beside_of u []) ls

-- what a caller gets by the promises, where the end is lent the room for an answer
pub called_lent : (cs : List (Call 4)) (o : List ℕ) → 4 ≤ length o → calls_lent start_of cs o ≡ run_of (flat (pieces_of cs))
unfolding run_of whole_of
called_lent cs o room =
    called_alone hears.next_of hears.text_of 4 law.text_most law.short_next law.short_text o room (record { state = reset_of }) cs
    ∙ heard_lines (record { state = reset_of }) (lines_of (flat (pieces_of cs)))

-- ---- the end: what is carried is a line, answered as any other
pub finish_lines : (r : Player Uplink) → last_written hears.next_of hears.text_of r ≡ answers_of r.hearer.state (lines_of (held_of r.finder))
unfolding last_written carried_of
finish_lines r = heard_lines r.hearer (lines_of (held_of r.finder))

-- and it is malformed, so it is `600`
pub finish_cut : (r : Player Uplink) → last_written hears.next_of hears.text_of r ≡ (IF eqb (length (held_of r.finder)) 0 THEN [] ELSE hears.cut_of r.hearer)
finish_cut r = player.last_is hears.next_of hears.text_of hears.cut_of heard_cut r

-- ---- so the end needs no room
-- two callers that differ in their ends alone, which give the same
pub ends_alike : {T : Type 0} {k : ℕ} (gives : T → Call k → List ℕ) (leaves : T → Call k → T) (end end' : T → List ℕ) → ((t : T) → end t ≡ end' t) → (t : T) (cs : List (Call k))
    → calls_give gives leaves end t cs ≡ calls_give gives leaves end' t cs
unfolding calls_give
ends_alike gives leaves end end' e t [] = e t
ends_alike gives leaves end end' e t (c ∷ cs) = ap (λ (x : List ℕ). gives t c ++ x) (ends_alike gives leaves end end' e (leaves t c) cs)

-- an end that is lent the room for an answer gives what is written
pub last_lent : {H : Type 0} (next : H → List ℕ → List ℕ → H) (text : H → List ℕ → List ℕ → List ℕ) (k : ℕ) → ((h : H) (b l : List ℕ) → length (text h b l) ≤ k) → (o : List ℕ) → k ≤ length o → (p : Player H)
    → played.last_of next text k o p ≡ last_written next text p
unfolding played.last_of played.finish_of played.out_ended IF◌THEN◌ELSE◌
last_lent next text k most o h p =
    let q = end_room p k (length o) h in
    let f = player.finish_fits next text k most p (length o) (played.finish_of next text k p (length o)) h refl in
    rw (le-leb (k * length (carried_of p)) (length o) q) (put_front o (last_written next text p) (f.most _ (player.finish_ok next text k most p (length o) q)))

-- what is carried is answered `600`
pub end_is : (r : Player Uplink) → end_of r ≡ (IF eqb (length (held_of r.finder)) 0 THEN None ELSE Some (hears.cut_of r.hearer))
unfolding end_of hears.text_of
end_is r = ap (λ (t : List ℕ). IF eqb (length (held_of r.finder)) 0 THEN None ELSE Some t) (heard_cut r.hearer [] (held_of r.finder) (held_plain r.finder))

-- so the text that the end gives is `600`, whatever line is carried
pub finish_text : (r : Player Uplink) → end_of r ≡ (IF eqb (length (held_of r.finder)) 0 THEN None ELSE Some (one.text_of (record { refusal = 6; vad = false; vvad = false })))
finish_text r = end_is r

end_text : (r : Player Uplink) → last_of r ≡ last_written hears.next_of hears.text_of r
unfolding last_of
end_text r =
    ap (λ (x : Option (List ℕ)). unwrap_or x []) (end_is r)
    ∙ by_test (λ (x : Option (List ℕ)). unwrap_or x [] ≡ last_written hears.next_of hears.text_of r) (eqb (length (held_of r.finder)) 0) _ _
    (λ t. sym (finish_cut r ∙ by_yes _ _ t))
    (λ t. sym (finish_cut r ∙ by_no _ _ t))

-- what a caller gets by the promises
pub called : (cs : List (Call 4)) → calls_from start_of cs ≡ run_of (flat (pieces_of cs))
unfolding calls_from given_of left_of played.calls_alone
called cs =
    let o = 0 ∷ 0 ∷ 0 ∷ 0 ∷ [] in
    ends_alike given_of left_of last_of (played.last_of hears.next_of hears.text_of 4 o) (λ r. end_text r ∙ sym (last_lent hears.next_of hears.text_of 4 law.text_most o (omega arith) r)) start_of cs
    ∙ called_lent cs o (omega arith)
