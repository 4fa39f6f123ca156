-- What a caller of `start`, `feed` and `finish` gets, by their promises alone, is the night of the whole trace, however it is cut; and what is asked
-- of it holds. Assumes nothing.
use mathlib.Core.Path.{◌≡◌, refl, sym, ap, ◌∙◌}
use mathlib.Core.List.{List, [], ◌∷◌, append-nil}
use mathlib.Core.Bool.{true}
use Rattle.std.specs.Prelude.{Result}
use Prim.Native.Nat.{ℕ, zero, suc, ◌+◌, ◌*◌, ◌<◌, min}
use native.Mathlib.Omega.{arith}
use borrow.Author.Tests.{le-leb, lt-leb}
use lib.Dec.{leb}
use lib.ListN.{length, replicate, length-take}
use lib.Seq.{take_all}
use Rattle.rows.specs.Choice.{IF◌THEN◌ELSE◌}
use Rattle.refusals.specs.declared.Refusal.{Refusal}
use Rattle.counts.specs.declared.Totals.{Totals}
use Rattle.counts.specs.declared.Counted.{Counted}
use Rattle.counts.specs.Counts.{totals_of, limit}
use Rattle.counts.proofs.Adds.{three_add, two_add}
use Rattle.state.specs.Valid.{reset_of}
use Rattle.pieces.specs.Lines.{lines_of}
use Rattle.pieces.specs.declared.Finder.{Finder}
use Rattle.pieces.specs.Cut.{held_of, rest_of}
use Rattle.pieces.specs.Pieces.{flat, handed_of, handed_all}
use Rattle.pieces.proofs.Caller.{state_append, state_whole}
use Rattle.pieces.proofs.Folds.{silent}
use Rattle.runner.specs.Run.{replies_of}
use Rattle.runner.proofs.Replies.{replies_length}
use Rattle.player.specs.declared.Player.{Player}
use Rattle.player.specs.Played as player
use Rattle.player.proofs.Calls.{Within, fed_fits as fed_within, finish_fits as finish_within}
use Rattle.totals.specs.declared.Tally.{Tally}
use Rattle.totals.specs.Whole.{night_of}
use Rattle.totals.specs.Fed.{tallied_of, ran_of, start_of, fed_of, finish_of, calls_from}
use Rattle.totals.specs.Hears as hears
use Rattle.totals.specs.Laws.{text_most, short_next}
use Rattle.totals.specs.Asked.{comes_to, counted_replies, Asked}
use Rattle.totals.proofs.Heard.{heard_ran}
use Rattle.totals.proofs.Limit.{stays, night_is}

abbrev night : Finder → Tally → Player Tally
night f t = record { hearer = t; finder = f }

-- ---- what a player that hears for the totals promises: it needs no room, and writes nothing
no_room : (n m : ℕ) → leb (0 * n) m ≡ true
no_room n m = le-leb (0 * n) m (omega arith)

pub fed_fits : (n : Player Tally) (p : List ℕ) (m : ℕ) (x : Result ℕ Refusal) → x ≡ player.fed_of hears.next_of hears.text_of 0 n p [] m → Within x m
fed_fits n p m x e = fed_within hears.next_of hears.text_of 0 text_most n p [] m x (omega arith) e

pub finish_fits : (n : Player Tally) (m : ℕ) (x : Result ℕ Refusal) → x ≡ player.finish_of hears.next_of hears.text_of 0 n m → Within x m
finish_fits n m x e = finish_within hears.next_of hears.text_of 0 text_most n m x (omega arith) e

pub fed_is : (n : Player Tally) (p : List ℕ) (m : ℕ) → player.player_after hears.next_of 0 n p [] m ≡ fed_of n p
unfolding player.player_after IF◌THEN◌ELSE◌ player.next_player fed_of
fed_is n p m = rw (no_room (length p) m) (ap (night (rest_of n.finder p)) (heard_ran n.hearer (handed_of n.finder p)))

pub finish_is : (n : Player Tally) (m : ℕ) → (player.ended_of hears.next_of 0 n m).hearer.counted ≡ finish_of n
unfolding player.ended_of IF◌THEN◌ELSE◌ player.last_player player.start_of player.carried_of finish_of
finish_is n m = rw (no_room (length (lines_of (held_of n.finder))) m) (ap (λ (t : Tally). t.counted) (heard_ran n.hearer (lines_of (held_of n.finder))))

-- so what the pieces come to, by these promises of a player, is what they come to by the definition
pub calls_by : Player Tally → List (List ℕ) → Counted
calls_by n [] = (player.ended_of hears.next_of 0 n 0).hearer.counted
calls_by n (p ∷ ps) = calls_by (player.player_after hears.next_of 0 n p [] 0) ps

pub calls_are : (n : Player Tally) (ps : List (List ℕ)) → calls_by n ps ≡ calls_from n ps
unfolding calls_by calls_from
calls_are n [] = finish_is n 0
calls_are n (p ∷ ps) = ap (λ (m : Player Tally). calls_by m ps) (fed_is n p 0) ∙ calls_are (fed_of n p) ps

-- ---- pieces one after the other
calls_from_lem : (n : Player Tally) (ps : List (List ℕ)) → calls_from n ps ≡ (ran_of n.hearer (handed_all n.finder ps)).counted
unfolding calls_from finish_of fed_of ran_of handed_all
calls_from_lem n [] = refl
calls_from_lem n (p ∷ ps) =
    calls_from_lem (fed_of n p) ps
    ∙ ap (λ (t : Tally). t.counted) (sym (state_append tallied_of silent n.hearer (handed_of n.finder p) (handed_all (rest_of n.finder p) ps)))

pub called : (ps : List (List ℕ)) → calls_from start_of ps ≡ night_of (flat ps)
unfolding start_of ran_of
called ps =
    calls_from_lem start_of ps
    ∙ (ap (λ (t : Tally). t.counted) (state_whole tallied_of silent (λ t l. short_next t [] l) start_of.hearer ps) ∙ night_is (flat ps))

-- who stops feeding at a refusal has the same: neither the rest of the trace nor its end changes anything
pub stops : (n : Player Tally) (ps : List (List ℕ)) → (n.hearer.counted.refusal ≡ 0 → ⊥) → calls_from n ps ≡ n.hearer.counted
stops n ps h = calls_from_lem n ps ∙ ap (λ (t : Tally). t.counted) (stays n.hearer (handed_all n.finder ps) h)

-- ---- what is asked
module _ (ps : List (List ℕ)) where
  is : comes_to ps ≡ night_of (flat ps)
  unfolding comes_to
  is = called ps

  replies : length (replies_of (flat ps)) ≡ length (lines_of (flat ps))
  unfolding replies_of
  replies = replies_length reset_of (lines_of (flat ps))

  totals : (comes_to ps).totals ≡ totals_of (counted_replies ps)
  unfolding night_of counted_replies
  totals = ap (λ (c : Counted). c.totals) is

  pub asked : Asked ps
  unfolding totals_of night_of counted_replies IF◌THEN◌ELSE◌
  asked =
      let n = replies in
      let rs = counted_replies ps in
      let t = totals in
      record {
        accepted = ap (λ (x : Totals). x.accepted) t;
        speech = ap (λ (x : Totals). x.speech) t;
        held = ap (λ (x : Totals). x.held) t;
        quiet = ap (λ (x : Totals). x.quiet) t;
        refused = ap (λ (x : Totals). x.refused) t;
        three = ap (λ (x : Totals). x.speech + x.held + x.quiet) t ∙ (three_add rs ∙ sym (ap (λ (x : Totals). x.accepted) t));
        lines = ap (λ (x : Totals). x.accepted + x.refused) t ∙ (two_add rs ∙ (length-take limit (replies_of (flat ps)) ∙ ap (min limit) n));
        all = λ h. (ap (λ (c : Counted). c.refusal) is ∙ rw (le-leb (length (replies_of (flat ps))) limit (omega arith)), take_all limit (replies_of (flat ps)) (omega arith));
        seven = λ h. ap (λ (c : Counted). c.refusal) is ∙ rw (lt-leb (length (replies_of (flat ps))) limit (omega arith));
      }

-- there are such traces: n line feeds are n lines
feeds_lines : (n : ℕ) → length (lines_of (replicate n 10)) ≡ n
unfolding lines_of IF◌THEN◌ELSE◌
feeds_lines zero = refl
feeds_lines (suc n) = ap suc (feeds_lines n)

pub feeds : (n : ℕ) → limit < n → (comes_to (replicate n 10 ∷ [])).refusal ≡ 7
unfolding flat
feeds n h =
    let e = ap (λ (l : List ℕ). length (lines_of l)) (append-nil (replicate n 10)) ∙ feeds_lines n in
    (asked (replicate n 10 ∷ [])).seven (omega arith)
