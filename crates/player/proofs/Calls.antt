-- What a caller of `new`, `feed` and `finish` gets, by their promises alone, is what the hearer writes for the whole trace, however the trace is cut.
-- The hearer is any: `next` and `text` are what it makes of a line, in at most k bytes, and `cut` is what it writes for a line without its line feed.
-- Assumes nothing.
use mathlib.Core.Path.{◌≡◌, refl, sym, ap, subst, ◌∙◌}
use mathlib.Core.List.{List, [], ◌∷◌, ◌++◌, append-nil}
use Prim.Native.Nat.{ℕ, ◌/◌, ◌*◌, ◌≤◌}
use native.Mathlib.Omega.{arith}
use native.Mathlib.Nat.{mul-le-mul_left, mul-div-le}
use borrow.Author.Tests.{le-leb, eqb-true, eqb-false}
use lib.Dec.{eqb}
use lib.ListN.{length, take}
use lib.Seq.{drop-nil}
use Rattle.rows.specs.Choice.{IF◌THEN◌ELSE◌}
use Rattle.rows.proofs.Choice.{by_yes, by_no, either}
use Rattle.std.specs.Prelude.{Result, Ok}
use Rattle.std.specs.Result.{result_unwrap_or, is_ok, IsOk}
use Rattle.refusals.specs.declared.Refusal.{Refusal}
use Rattle.pieces.specs.Lines.{lines_of, plain_of, short}
use Rattle.pieces.specs.Cut.{held_of}
use Rattle.pieces.specs.Calls.{Call, pieces_of}
use Rattle.pieces.specs.Pieces.{flat, state_after, text_after, handed_of}
use Rattle.pieces.proofs.Carried.{held_plain}
use Rattle.pieces.proofs.Caller.{text_most}
use Rattle.pieces.proofs.Calls.{calls_whole}
use Rattle.pieces.proofs.Written.{put_front}
use Rattle.pieces.proofs.Runs.{handed_fits}
use Rattle.samples.specs.Beside.{Beside, next_beside, text_beside, block_of}
use Rattle.samples.proofs.Beside as beside
use Rattle.player.specs.declared.Player.{Player}
use Rattle.player.specs.Played.{beside_of, heard_of, texts_of, start_of, written_of, next_player, fed_of, player_after, out_after, carried_of, last_written, finish_of, out_ended, whole_of, given_of, left_of, last_of, calls_alone, calls_beside}
use Rattle.player.proofs.Steps.{beside_most}
use Rattle.player.proofs.Room.{none_carried, one_carried, end_room}

-- ---- one caller seen as another: f takes the states of the first to those of the second
module _ {S T : Type 0} (next : S → List ℕ → S) (text : S → List ℕ → List ℕ) (next' : T → List ℕ → T) (text' : T → List ℕ → List ℕ) (f : S → T)
    (goes : (s : S) (l : List ℕ) → f (next s l) ≡ next' (f s) l) where
  pub state_as : (s : S) (ls : List (List ℕ)) → f (state_after next s ls) ≡ state_after next' (f s) ls
  unfolding state_after
  state_as s [] = refl
  state_as s (l ∷ ls) = state_as (next s l) ls ∙ ap (λ (t : T). state_after next' t ls) (goes s l)

  pub text_as : ((s : S) (l : List ℕ) → text s l ≡ text' (f s) l) → (s : S) (ls : List (List ℕ)) → text_after next text s ls ≡ text_after next' text' (f s) ls
  unfolding text_after
  text_as says s [] = refl
  text_as says s (l ∷ ls) =
      ap (λ (x : List ℕ). x ++ text_after next text (next s l) ls) (says s l)
      ∙ ap (λ (x : List ℕ). text' (f s) l ++ x) (text_as says (next s l) ls ∙ ap (λ (t : T). text_after next' text' t ls) (goes s l))

-- ---- what is no refusal, and says no more than n
pub record Within (r : Result ℕ Refusal) (n : ℕ) : Type 0 where
  pub ok : IsOk r
  pub most : (w : ℕ) → r ≡ Ok w → w ≤ n

within : (r : Result ℕ Refusal) (m n : ℕ) → r ≡ Ok m → m ≤ n → Within r n
within r m n e h =
    record {
      ok = ap is_ok e;
      most = λ w q. subst (λ (x : ℕ). x ≤ n) (ap (λ (x : Result ℕ Refusal). result_unwrap_or x 0) (sym e ∙ q)) h;
    }

-- ---- the end of a hearer that answers a line without its line feed by its state alone
module _ {H : Type 0} (next : H → List ℕ → List ℕ → H) (text : H → List ℕ → List ℕ → List ℕ) (cut : H → List ℕ) (cut_text : (h : H) (b l : List ℕ) → plain_of l ≡ length l → text h b l ≡ cut h) where
  end_text : (p : Player H) (samples : List ℕ) → text_after (next_beside next) (text_beside text) (beside_of p.hearer samples) (carried_of p) ≡ (IF eqb (length (held_of p.finder)) 0 THEN [] ELSE cut p.hearer)
  unfolding text_after text_beside
  end_text p samples =
      let s = beside_of p.hearer samples in
      either (text_after (next_beside next) (text_beside text) s (carried_of p) ≡ (IF eqb (length (held_of p.finder)) 0 THEN [] ELSE cut p.hearer)) (eqb (length (held_of p.finder)) 0)
      (λ t. ap (text_after (next_beside next) (text_beside text) s) (none_carried p (eqb-true (length (held_of p.finder)) 0 t)) ∙ sym (by_yes [] (cut p.hearer) t))
      (λ t.
      let z = eqb-false (length (held_of p.finder)) 0 t in
      ap (text_after (next_beside next) (text_beside text) s) (one_carried p (omega (arith, z)))
      ∙ (append-nil (text p.hearer (block_of samples) (held_of p.finder))
      ∙ (cut_text p.hearer (block_of samples) (held_of p.finder) (held_plain p.finder) ∙ sym (by_no [] (cut p.hearer) t))))

  -- so this is written
  pub last_is : (p : Player H) → last_written next text p ≡ (IF eqb (length (held_of p.finder)) 0 THEN [] ELSE cut p.hearer)
  unfolding last_written texts_of
  last_is p = end_text p []

module _ {H : Type 0} (next : H → List ℕ → List ℕ → H) (text : H → List ℕ → List ℕ → List ℕ) (k : ℕ) (most : (h : H) (b l : List ℕ) → length (text h b l) ≤ k) where
  abbrev m : (b : Beside H) (l : List ℕ) → length (text_beside text b l) ≤ k
  m = beside_most next text k most

  -- ---- a piece
  module _ (p : Player H) (piece samples : List ℕ) where
    -- what is written fits
    written_fits : (n : ℕ) → k * length piece ≤ n → length (written_of next text p piece samples) ≤ n
    unfolding written_of texts_of
    written_fits n h = handed_fits (next_beside next) (text_beside text) k m p.finder piece (beside_of p.hearer samples) n h

    -- where there is room, so many bytes of the output are written
    pub fed_ok : (n : ℕ) → k * length piece ≤ n → fed_of next text k p piece samples n ≡ Ok (length (written_of next text p piece samples))
    unfolding fed_of IF◌THEN◌ELSE◌
    fed_ok n h = rw (le-leb (k * length piece) n h)

    -- as code makes it: it isn't refused, and says no more than there is
    pub fed_fits : (n : ℕ) (r : Result ℕ Refusal) → k * length piece ≤ n → r ≡ fed_of next text k p piece samples n → Within r n
    fed_fits n r h e = within r (length (written_of next text p piece samples)) n (e ∙ fed_ok n h) (written_fits n h)

  module _ (p : Player H) (piece samples o : List ℕ) (h : k * length piece ≤ length o) where
    fed_next : player_after next k p piece samples (length o) ≡ next_player next p piece samples
    unfolding player_after IF◌THEN◌ELSE◌
    fed_next = rw (le-leb (k * length piece) (length o) h)

    fed_text : take (result_unwrap_or (fed_of next text k p piece samples (length o)) 0) (out_after next text k p piece samples o) ≡ written_of next text p piece samples
    unfolding fed_of out_after IF◌THEN◌ELSE◌
    fed_text = rw (le-leb (k * length piece) (length o) h) (put_front o (written_of next text p piece samples) (written_fits p piece samples (length o) h))

  -- ---- the end
  last_fits : (p : Player H) (n : ℕ) → k * length (carried_of p) ≤ n → length (last_written next text p) ≤ n
  unfolding last_written texts_of carried_of
  last_fits p n h =
      let a = text_most (next_beside next) (text_beside text) k m (beside_of p.hearer []) (lines_of (held_of p.finder)) in
      omega arith

  pub finish_ok : (p : Player H) (n : ℕ) → k * length (carried_of p) ≤ n → finish_of next text k p n ≡ Ok (length (last_written next text p))
  unfolding finish_of IF◌THEN◌ELSE◌
  finish_ok p n h = rw (le-leb (k * length (carried_of p)) n h)

  pub finish_fits : (p : Player H) (n : ℕ) (r : Result ℕ Refusal) → k ≤ n → r ≡ finish_of next text k p n → Within r n
  finish_fits p n r h e =
      let q = end_room p k n h in
      within r (length (last_written next text p)) n (e ∙ finish_ok p n q) (last_fits p n q)

  last_text : (p : Player H) (o : List ℕ) → k ≤ length o → last_of next text k o p ≡ last_written next text p
  unfolding last_of finish_of out_ended IF◌THEN◌ELSE◌
  last_text p o h =
      let q = end_room p k (length o) h in
      rw (le-leb (k * length (carried_of p)) (length o) q) (put_front o (last_written next text p) (last_fits p (length o) q))

  -- ---- all calls
  fits : (piece : List ℕ) (n : ℕ) → length piece ≤ n / k → k * length piece ≤ n
  fits piece n h = let a = mul-le-mul_left k h in let b = mul-div-le n k in omega arith

  module _ (short_next : (h : H) (b l : List ℕ) → next h b (short l) ≡ next h b l) (short_text : (h : H) (b l : List ℕ) → text h b (short l) ≡ text h b l)
      (o : List ℕ) (room : k ≤ length o) where
    -- with no samples: none are left either
    none : (p : Player H) (ls : List (List ℕ)) → beside_of (state_after (next_beside next) (beside_of p.hearer []) ls).state [] ≡ state_after (next_beside next) (beside_of p.hearer []) ls
    none p ls = ap (beside_of (state_after (next_beside next) (beside_of p.hearer []) ls).state) (sym (beside.left_after next text ls p.hearer [] ∙ drop-nil _))

    last_alone : (p : Player H) → last_of next text k o p ≡ text_after (next_beside next) (text_beside text) (beside_of p.hearer []) (lines_of (held_of p.finder))
    unfolding last_written texts_of carried_of
    last_alone p = last_text p o room

    pub called_alone : (h : H) (cs : List (Call k)) → calls_alone next text (start_of h) cs o ≡ whole_of next text h [] (flat (pieces_of cs))
    unfolding start_of calls_alone given_of left_of whole_of texts_of written_of next_player heard_of
    called_alone h cs =
        calls_whole (next_beside next) (text_beside text) (λ (p : Player H). beside_of p.hearer []) (λ (p : Player H). p.finder) _ _ _
        (λ p c. fed_text p c.piece [] c.lent (fits c.piece (length c.lent) c.room))
        (λ p c. ap (λ (q : Player H). beside_of q.hearer []) (fed_next p c.piece [] c.lent (fits c.piece (length c.lent) c.room)) ∙ none p (handed_of p.finder c.piece))
        (λ p c. ap (λ (q : Player H). q.finder) (fed_next p c.piece [] c.lent (fits c.piece (length c.lent) c.room)))
        last_alone (beside.short_state next text short_next) (beside.short_text next text short_text) (start_of h) refl cs

    -- beside samples, if a line without its line feed is answered the same beside any
    module _ (cut : H → List ℕ) (cut_text : (h : H) (b l : List ℕ) → plain_of l ≡ length l → text h b l ≡ cut h) where
      last_beside : (p : Player H) (samples : List ℕ) → last_of next text k o p ≡ text_after (next_beside next) (text_beside text) (beside_of p.hearer samples) (lines_of (held_of p.finder))
      unfolding carried_of
      last_beside p samples = last_alone p ∙ (end_text next text cut cut_text p [] ∙ sym (end_text next text cut cut_text p samples))

      pub called_beside : (h : H) (samples : List ℕ) (cs : List (Call k)) → calls_beside next text (start_of h) samples cs o ≡ whole_of next text h samples (flat (pieces_of cs))
      unfolding start_of calls_beside given_of left_of whole_of texts_of written_of next_player heard_of
      called_beside h samples cs =
          beside.calls_beside next text (λ (p : Player H). p.hearer) (λ (p : Player H). p.finder) _ _ _
          (λ p q c. fed_text p c.piece q c.lent (fits c.piece (length c.lent) c.room))
          (λ p q c. ap (λ (r : Player H). r.hearer) (fed_next p c.piece q c.lent (fits c.piece (length c.lent) c.room)))
          (λ p q c. ap (λ (r : Player H). r.finder) (fed_next p c.piece q c.lent (fits c.piece (length c.lent) c.room)))
          last_beside short_next short_text (start_of h) refl samples cs
