-- Lines beside their samples: a caller that has as many frames of samples as lines answers as if it had all; and the place of a frame in samples that
-- are lent. Assumes nothing.
use mathlib.Core.Path.{◌≡◌, refl, sym, ap, ap₂, ◌∙◌}
use mathlib.Core.List.{List, [], ◌∷◌, ◌++◌}
use Prim.Native.Nat.{ℕ, zero, suc, ◌+◌, ◌-◌, ◌*◌, ◌≤◌, min}
use native.Mathlib.Nat.{suc-add}
use native.Mathlib.Omega.{arith}
use lib.Dec.{eqb}
use lib.ListN.{length, take, drop, length-take, length-drop}
use lib.Seq.{take_all, take-nil, take-take, drop-drop}
use Rattle.rows.proofs.Choice.{by_test}
use Rattle.pieces.specs.declared.Finder.{Finder}
use Rattle.pieces.specs.Lines.{lines_of, feeds_of, short}
use Rattle.pieces.specs.Cut.{finder_of, held_of, rest_of}
use Rattle.pieces.specs.Pieces.{flat, handed_of, state_after, text_after}
use Rattle.pieces.specs.Calls.{Call, pieces_of, calls_give}
use Rattle.pieces.proofs.Ended.{handed_feeds}
use Rattle.pieces.proofs.Calls.{calls_whole}
use Rattle.samples.specs.Samples.{frame_bytes}
use Rattle.samples.specs.Beside.{Beside, block_of, next_beside, text_beside, end_of, taken_of, lent_of, gives_beside, leaves_beside, ends_beside}

-- ---- lists
drop_take : {A : Type 0} (m n : ℕ) (l : List A) → drop m (take (m + n) l) ≡ take n (drop m l)
drop_take zero n l = let e : 0 + n ≡ n = omega arith in ap (λ k. take k l) e
drop_take (suc m) n [] = ap (drop (suc m)) (take-nil (suc m + n)) ∙ sym (take-nil n)
drop_take (suc m) n (x ∷ l) = ap (λ k. drop (suc m) (take k (x ∷ l))) (suc-add m n) ∙ drop_take m n l

-- the first that are there
take_less : {A : Type 0} (k : ℕ) (l : List A) → take (min k (length l)) l ≡ take k l
take_less {A} k l =
    let e : take k l ≡ take (length (take k l)) (take k l) = sym (take_all (length (take k l)) (take k l) (omega arith)) in
    sym (e ∙ take-take (length (take k l)) k l (let h = length-take k l in omega arith) ∙ ap (λ n. take n l) (length-take k l))

drop_less : {A : Type 0} (k : ℕ) (l : List A) → drop (min k (length l)) l ≡ drop k l
drop_less zero l = let e : min 0 (length l) ≡ 0 = omega arith in ap (λ n. drop n l) e
drop_less (suc k) [] = let e : min (suc k) 0 ≡ 0 = omega arith in ap (λ n. drop n []) e
drop_less (suc k) (x ∷ l) = let e : min (suc k) (suc (length l)) ≡ suc (min k (length l)) = omega arith in ap (λ n. drop n (x ∷ l)) e ∙ drop_less k l

-- no more lines end in a piece than it has bytes
pub feeds_most : (p : List ℕ) → feeds_of p ≤ length p
unfolding feeds_of
feeds_most [] = omega arith
feeds_most (b ∷ p) = let h = feeds_most p in by_test (λ (n : ℕ). n ≤ suc (length p)) (eqb b 10) _ _ (λ t. omega arith) (λ t. omega arith)

-- ---- the frame that begins at a place of samples that are lent
module _ (samples : List ℕ) (from : ℕ) (h : from ≤ length samples) where
  pub end_from : from ≤ end_of from (length samples)
  unfolding end_of
  end_from = omega arith

  pub end_in : end_of from (length samples) ≤ length samples
  unfolding end_of
  end_in = omega arith

  pub block_is : take (end_of from (length samples) - from) (drop from samples) ≡ block_of (drop from samples)
  unfolding end_of block_of
  block_is =
      let d = length-drop from samples in
      let e : from + min 320 (length samples - from) - from ≡ min 320 (length (drop from samples)) = omega arith in
      ap (λ n. take n (drop from samples)) e ∙ take_less 320 (drop from samples)

  pub left_is : drop (end_of from (length samples)) samples ≡ drop frame_bytes (drop from samples)
  unfolding end_of
  left_is =
      let d = length-drop from samples in
      sym (drop-drop (min 320 (length samples - from)) from samples)
      ∙ (ap (λ n. drop (min 320 n) (drop from samples)) (sym d) ∙ drop_less 320 (drop from samples))

-- ---- a caller
module _ {S : Type 0} (next : S → List ℕ → List ℕ → S) (text : S → List ℕ → List ℕ → List ℕ) where
  -- of a line it may look at its first 85 bytes only
  pub short_state : ((s : S) (b l : List ℕ) → next s b (short l) ≡ next s b l) → (x : Beside S) (l : List ℕ) → next_beside next x (short l) ≡ next_beside next x l
  unfolding next_beside
  short_state cap x l = ap (λ (s : S). record { state = s; left = drop frame_bytes x.left }) (cap x.state (block_of x.left) l)

  pub short_text : ((s : S) (b l : List ℕ) → text s b (short l) ≡ text s b l) → (x : Beside S) (l : List ℕ) → text_beside text x (short l) ≡ text_beside text x l
  unfolding text_beside
  short_text cap x l = cap x.state (block_of x.left) l

  abbrev at : S → List ℕ → Beside S
  at s left = record { state = s; left = left }

  -- what lines leave of the samples: all but a frame for each
  pub left_after : (ls : List (List ℕ)) (s : S) (left : List ℕ) → (state_after (next_beside next) (at s left) ls).left ≡ drop (frame_bytes * length ls) left
  unfolding state_after next_beside
  left_after [] s left = let e : 320 * 0 ≡ 0 = omega arith in sym (ap (λ n. drop n left) e)
  left_after (l ∷ ls) s left =
      let e : 320 + 320 * length ls ≡ 320 * suc (length ls) = omega arith in
      left_after ls (next s (block_of left) l) (drop frame_bytes left) ∙ (drop-drop (frame_bytes * length ls) frame_bytes left ∙ ap (λ n. drop n left) e)

  -- so many bytes were taken, and these are left
  pub taken_left : (ls : List (List ℕ)) (s : S) (left : List ℕ) (n : ℕ) → n ≡ taken_of left (state_after (next_beside next) (at s left) ls).left
      → (n ≤ length left) × (drop n left ≡ (state_after (next_beside next) (at s left) ls).left)
  unfolding taken_of
  taken_left ls s left n e =
      let a = left_after ls s left in
      let b = ap length a ∙ length-drop (frame_bytes * length ls) left in
      let c : n ≡ min (320 * length ls) (length left) = omega arith in
      (omega arith, ap (λ k. drop k left) c ∙ drop_less (320 * length ls) left ∙ sym a)

  -- with k frames of samples, and at most k lines, it is as if all were there
  module _ (k : ℕ) (ls : List (List ℕ)) (few : length ls ≤ k) where
    abbrev Enough : S → List ℕ → Type 0
    Enough s left =
        ((state_after (next_beside next) (at s (take (frame_bytes * k) left)) ls).state ≡ (state_after (next_beside next) (at s left) ls).state)
        × (text_after (next_beside next) (text_beside text) (at s (take (frame_bytes * k) left)) ls ≡ text_after (next_beside next) (text_beside text) (at s left) ls)

  pub enough : (ls : List (List ℕ)) (k : ℕ) (few : length ls ≤ k) (s : S) (left : List ℕ) → Enough k ls few s left
  unfolding state_after text_after next_beside text_beside block_of
  enough [] k few s left = (refl, refl)
  enough (l ∷ ls) zero few s left = absurd (omega arith)
  enough (l ∷ ls) (suc k) few s left =
      let e : 320 * suc k ≡ 320 + 320 * k = omega arith in
      let b : take 320 (take (320 * suc k) left) ≡ take 320 left = take-take 320 (320 * suc k) left (omega arith) in
      let d : drop 320 (take (320 * suc k) left) ≡ take (320 * k) (drop 320 left) = ap (λ n. drop 320 (take n left)) e ∙ drop_take 320 (320 * k) left in
      let i = enough ls k (omega arith) (next s (take 320 left) l) (drop 320 left) in (
        ap₂ (λ (x y : List ℕ). (state_after (next_beside next) (at (next s x l) y) ls).state) b d ∙ i.0,
        ap₂ (λ (x y : List ℕ). text s x l ++ text_after (next_beside next) (text_beside text) (at (next s x l) y) ls) b d
            ∙ ap (λ (x : List ℕ). text s (take 320 left) l ++ x) i.1,
      )

-- ---- a caller whose calls answer the lines that end in each piece, with the samples that are lent with it, and whose end answers what is carried, gives
-- in all what it writes for the lines of the whole trace beside all samples, however the trace is cut
module _ {S T : Type 0} {k : ℕ} (next : S → List ℕ → List ℕ → S) (text : S → List ℕ → List ℕ → List ℕ) (state : T → S) (finder : T → Finder)
    (gives : T → List ℕ → Call k → List ℕ) (leaves : T → List ℕ → Call k → T) (end : T → List ℕ)
    (given : (t : T) (q : List ℕ) (c : Call k) → gives t q c ≡ text_after (next_beside next) (text_beside text) (record { state = state t; left = q }) (handed_of (finder t) c.piece))
    (left_state : (t : T) (q : List ℕ) (c : Call k) → state (leaves t q c) ≡ (state_after (next_beside next) (record { state = state t; left = q }) (handed_of (finder t) c.piece)).state)
    (left_finder : (t : T) (q : List ℕ) (c : Call k) → finder (leaves t q c) ≡ rest_of (finder t) c.piece)
    (ended : (t : T) (q : List ℕ) → end t ≡ text_after (next_beside next) (text_beside text) (record { state = state t; left = q }) (lines_of (held_of (finder t))))
    (cap : (s : S) (b l : List ℕ) → next s b (short l) ≡ next s b l) (capt : (s : S) (b l : List ℕ) → text s b (short l) ≡ text s b l) where
  abbrev both : Beside T → Beside S
  both b = record { state = state b.state; left = b.left }

  few : (t : T) (c : Call k) → length (handed_of (finder t) c.piece) ≤ feeds_of c.piece
  few t c = let h = handed_feeds (finder t) c.piece in omega arith

  gives_all : (b : Beside T) (c : Call k) → gives_beside gives b c ≡ text_after (next_beside next) (text_beside text) (both b) (handed_of (finder b.state) c.piece)
  unfolding gives_beside lent_of
  gives_all b c =
      given b.state (lent_of c.piece b.left) c
      ∙ (enough next text (handed_of (finder b.state) c.piece) (feeds_of c.piece) (few b.state c) (state b.state) b.left).1

  leaves_all : (b : Beside T) (c : Call k) → both (leaves_beside leaves b c) ≡ state_after (next_beside next) (both b) (handed_of (finder b.state) c.piece)
  unfolding leaves_beside lent_of
  leaves_all b c =
      let ls = handed_of (finder b.state) c.piece in
      let s = left_state b.state (lent_of c.piece b.left) c ∙ (enough next text ls (feeds_of c.piece) (few b.state c) (state b.state) b.left).0 in
      let n = handed_feeds (finder b.state) c.piece in
      let l = ap (λ (j : ℕ). drop (frame_bytes * j) b.left) (sym n) ∙ sym (left_after next text ls (state b.state) b.left) in
      ap₂ (λ (x : S) (y : List ℕ). record { state = x; left = y }) s l

  pub calls_beside : (t : T) → finder t ≡ finder_of [] → (samples : List ℕ) (cs : List (Call k))
      → calls_give (gives_beside gives) (leaves_beside leaves) (ends_beside end) (record { state = t; left = samples }) cs
      ≡ text_after (next_beside next) (text_beside text) (record { state = state t; left = samples }) (lines_of (flat (pieces_of cs)))
  unfolding leaves_beside ends_beside
  calls_beside t e samples cs =
      calls_whole (next_beside next) (text_beside text) both (λ (b : Beside T). finder b.state) (gives_beside gives) (leaves_beside leaves) (ends_beside end)
      gives_all leaves_all (λ b c. left_finder b.state (lent_of c.piece b.left) c) (λ b. ended b.state b.left)
      (short_state next text cap) (short_text next text capt) (record { state = t; left = samples }) e cs
