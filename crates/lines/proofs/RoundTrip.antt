-- What is written reads back as its frame, and an accepted line written again gives the same bytes. First of lines and frames, then of
-- what reading and writing answer. Assumes nothing.
use Rattle.std.proofs.Common.{◌≡◌, ℕ, zero, suc, ◌+◌, ◌*◌, ◌^◌, ◌<◌, ◌≤◌, Bool, true, false, leb, List, [], ◌∷◌, ◌++◌, map, length, get_or, take, drop, ℤ, pos, nat_abs, ◌≤ℤ◌, sym, refl, ap, ◌∙◌, ap₂, append_assoc, append-nil, le_of_suc-le-suc, arith, length-append, take-append-drop, drop_of_length-le, take_all, drop-cons, take-suc, take-take, drop-drop, take_at, take-add, drop_at, to_z-of_z, w32, Fits, SFits, to_z, of_z, eq-eqb, leb-true}
use mathlib.Core.List.{map-append}
use lib.ListN.{length-map, get_or-map}
use lib.Seq.{drop-append-add, get_or_at}
use lib.Signed.{le_z}
use mir.Facts.{of_z-to_z, Fits-of_z}
use Rattle.numbers.specs.Sum.{at}
use Rattle.numbers.proofs.Parts.{zarith, of, sign, le_yes}
use Rattle.rows.specs.Choice.{IF◌THEN◌ELSE◌, within}
use Rattle.rows.specs.Rows.{row, all}
use Rattle.rows.proofs.All.{all_at}
use Rattle.rows.proofs.Choice.{and_left, and_right, either}
use Rattle.rows.proofs.Fill.{length_row}
use Rattle.lags.specs.Lags.{lag_ok}
use Rattle.frames.specs.Frame.{lengths_ok, scale_ok, acf_ok, lags_ok, frame_refusal_of}
use Rattle.frames.proofs.Frame.{nine, four}
use Rattle.lines.specs.Hex.{hex_of, number_of, digits_of, blocks_of}
use Rattle.lines.specs.declared.Frame.{Frame}
use Rattle.lines.specs.Line.{field_at, word_at, frame_of, line_of, formed_of}
use Rattle.lines.specs.Answers.{ranges_of, refused_of, accepted_of, decoded_of, heading_of, read_of, acf_after, lags_after, write_of, line_after, Decoded, Heading}
use Rattle.lines.proofs.Tests.{all_append}
use Rattle.lines.proofs.Digits.{digits_number, number_digits, length_digits, hex_digits, part_length}
use Rattle.lines.proofs.Fields.{formed, field_hex, field_lt}
use Rattle.lines.proofs.Puts.{blocks_append, length_blocks}
use Rattle.lines.proofs.Answers.{read_unsized, read_sized, read_stored, decoded_accepted, accepted_formed, accepted_is, lengths_yes, write_sized, write_accepted, write_stored}

-- ---- tables
module _ {ℓ} {A : Type ℓ} where
  pub row_take : (n : ℕ) (f : ℕ → A) (w : List A) (d : A) → n ≤ length w → ((i : ℕ) → i < n → f i ≡ get_or w i d) → row n f ≡ take n w
  unfolding row
  row_take zero f w d h e = refl
  row_take (suc n) f w d h e =
      ap₂ (λ (x : List A) (y : A). x ++ (y ∷ [])) (row_take n f w d (omega arith) (λ i k. e i (omega arith))) (e n (omega arith))
      ∙ sym (take-suc w n d (omega arith))

pub map_row {ℓ ℓ'} : {A : Type ℓ} {B : Type ℓ'} (g : A → B) (n : ℕ) (f : ℕ → A) → map g (row n f) ≡ row n (λ i. g (f i))
unfolding row
map_row g zero f = refl
map_row {B = B} g (suc n) f = map-append g (row n f) (f n ∷ []) ∙ ap (λ (x : List B). x ++ (g (f n) ∷ [])) (map_row g n f)

-- ---- fields of a text
pub blocks_row : (k n : ℕ) (f : ℕ → ℕ) (l : List ℕ) → ((i : ℕ) → i < n → digits_of k (f i) ≡ take k (drop (k * i) l)) → blocks_of k (row n f) ≡ take (k * n) l
unfolding row blocks_of
blocks_row k zero f l e = let z : 0 ≡ k * 0 = omega arith in ap (λ (j : ℕ). take j l) z
blocks_row k (suc n) f l e =
    let z : k * n + k ≡ k * suc n = omega arith in
    blocks_append k (row n f) (f n ∷ [])
    ∙ (ap₂ (λ (x y : List ℕ). x ++ y) (blocks_row k n f l (λ i h. e i (omega arith))) (append-nil (digits_of k (f n)) ∙ e n (omega arith))
    ∙ (sym (take-add (k * n) k l) ∙ ap (λ (j : ℕ). take j l) z))

pub block_at : (k : ℕ) (w rest : List ℕ) (i : ℕ) → i < length w → take k (drop (k * i) (blocks_of k w ++ rest)) ≡ digits_of k (get_or w i 0)
unfolding blocks_of
block_at k [] rest i h = absurd (omega arith)
block_at k (x ∷ w) rest zero h =
    let z : k * 0 ≡ 0 = omega arith in
    rw (z, append_assoc (digits_of k x) (blocks_of k w) rest) (take_at (digits_of k x) (blocks_of k w ++ rest) k (length_digits k x))
block_at k (x ∷ w) rest (suc i) h =
    let n = length_digits k x in
    let z : k * suc i ≡ length (digits_of k x) + k * i = omega arith in
    rw (z, append_assoc (digits_of k x) (blocks_of k w) rest) (ap (take k) (drop-append-add (digits_of k x) (blocks_of k w ++ rest) (k * i)) ∙ block_at k w rest i (le_of_suc-le-suc h))

pub blocks_hex : (k : ℕ) (w : List ℕ) → all hex_of (blocks_of k w) ≡ true
unfolding blocks_of all
blocks_hex k [] = refl
blocks_hex k (x ∷ w) = all_append hex_of (digits_of k x) (blocks_of k w) (hex_digits k x) (blocks_hex k w)

-- ---- a line written again
pub part_digits : (l : List ℕ) → formed_of l ≡ true → (at k : ℕ) → at + k ≤ 81 → digits_of k (number_of (take k (drop at l))) ≡ take k (drop at l)
part_digits l e at k h =
    let s = (formed l e).size in
    let n = part_length l at k (omega arith) in
    let t : take k (take k (drop at l)) ≡ take k (drop at l) = take-take k k (drop at l) (omega arith) in
    rw t at (digits_number k (take k (drop at l)) (omega arith) (field_hex l e at k h))

word : (l : List ℕ) → formed_of l ≡ true → (i : ℕ) → i < 9 → digits_of 8 (of_z w32 (word_at l i)) ≡ take 8 (drop (8 * i) l)
unfolding word_at field_at
word l e i h =
    let f : Fits w32 (number_of (take 8 (drop (8 * i) l))) = record { fits = field_lt l e (8 * i) 8 (omega arith) } in
    rw (of_z-to_z f) (part_digits l e (8 * i) 8 (omega arith))

lag : (l : List ℕ) → formed_of l ≡ true → (i : ℕ) → i < 4 → digits_of 2 (field_at 2 (drop 73 l) i) ≡ take 2 (drop (2 * i) (drop 73 l))
unfolding field_at
lag l e i h = rw (drop-drop (2 * i) 73 l) (part_digits l e (73 + 2 * i) 2 (omega arith))

-- a well-formed line, read and written again, is the same bytes
pub same_bytes : (l : List ℕ) → formed_of l ≡ true → line_of (frame_of l) ≡ l
unfolding line_of frame_of word_at field_at
same_bytes l e =
    let f = formed l e in
    let a : blocks_of 8 (map (of_z w32) (row 9 (word_at l))) ≡ take 72 l =
    ap (blocks_of 8) (map_row (of_z w32) 9 (word_at l)) ∙ blocks_row 8 9 (λ i. of_z w32 (word_at l i)) l (word l e) in
    let b : blocks_of 2 (row 4 (field_at 2 (drop 73 l))) ≡ take 8 (drop 73 l) = blocks_row 2 4 (field_at 2 (drop 73 l)) (drop 73 l) (lag l e) in
    let c = part_digits l e 72 1 (omega arith) in
    let d : drop 81 l ≡ 10 ∷ [] = drop-cons l 81 0 (omega (arith, f.size)) ∙ ap₂ (λ (x : ℕ) (y : List ℕ). x ∷ y) f.feed (drop_of_length-le l {i = 82} (omega (arith, f.size))) in
    rw (a, b, c) (ap (λ (x : List ℕ). x ++ take 8 (drop 73 l) ++ (10 ∷ [])) (sym (take-add 72 1 l))
    ∙ (ap (λ (x : List ℕ). x ++ (10 ∷ [])) (sym (take-add 73 8 l)) ∙ (ap (λ (x : List ℕ). take 81 l ++ x) (sym d) ∙ take-append-drop 81 l)))

-- ---- a frame read back
-- what a line can hold
pub record Good (f : Frame) : Type 0 where
  pub nine : length f.acf ≡ 9
  pub wide : (i : ℕ) → i < 9 → SFits w32 (at f.acf i)
  pub digit : (pos 0 ≤ℤ f.scale) × (f.scale ≤ℤ pos 15)
  pub four : length f.lags ≡ 4
  pub byte : (i : ℕ) → i < 4 → get_or f.lags i 0 < 256

module _ (f : Frame) (g : Good f) where
  A : List ℕ
  A = blocks_of 8 (map (of_z w32) f.acf)

  D : List ℕ
  D = digits_of 1 (nat_abs f.scale)

  G : List ℕ
  G = blocks_of 2 f.lags

  a_length : length A ≡ 72
  unfolding A
  a_length = length_blocks 8 (map (of_z w32) f.acf) ∙ omega (arith, length-map f.acf (of_z w32), g.nine)

  g_length : length G ≡ 8
  unfolding G
  g_length = length_blocks 2 f.lags ∙ omega (arith, g.four)

  d_length : length D ≡ 1
  unfolding D
  d_length = length_digits 1 (nat_abs f.scale)

  line_is : line_of f ≡ A ++ (D ++ (G ++ (10 ∷ [])))
  unfolding line_of A D G
  line_is = simp append_assoc

  acf_back : (i : ℕ) → i < 9 → word_at (line_of f) i ≡ get_or f.acf i (pos 0)
  unfolding word_at field_at A
  acf_back i h =
      let w = map (of_z w32) f.acf in
      let z = get_or f.acf i (pos 0) in
      let n = length-map f.acf (of_z w32) in
      let m = g.nine in
      let q = Fits-of_z (g.wide i h) in
      ap (λ (l : List ℕ). to_z w32 (number_of (take 8 (drop (8 * i) l)))) line_is
      ∙ (ap (λ (l : List ℕ). to_z w32 (number_of l)) (block_at 8 w (D ++ (G ++ (10 ∷ []))) i (omega arith) ∙ ap (digits_of 8) (get_or-map (of_z w32) f.acf i (pos 0)))
      ∙ (ap (to_z w32) (number_digits 8 (of_z w32 z) q.fits) ∙ to_z-of_z (g.wide i h)))

  after_acf : drop 72 (line_of f) ≡ D ++ (G ++ (10 ∷ []))
  after_acf = ap (drop 72) line_is ∙ drop_at A (D ++ (G ++ (10 ∷ []))) 72 a_length

  after_scale : drop 73 (line_of f) ≡ G ++ (10 ∷ [])
  after_scale = sym (drop-drop 1 72 (line_of f)) ∙ (ap (drop 1) after_acf ∙ drop_at D (G ++ (10 ∷ [])) 1 d_length)

  scale_back : pos (field_at 1 (drop 72 (line_of f)) 0) ≡ f.scale
  unfolding field_at D
  scale_back =
      let z = f.scale in
      let m : nat_abs z < 2 ^ 4 = omega (zarith, g.digit.0, g.digit.1, of z, sign z) in
      let n : number_of (take 1 (drop 72 (line_of f))) ≡ nat_abs z = ap (λ (l : List ℕ). number_of (take 1 l)) after_acf ∙ (ap number_of (take_at D (G ++ (10 ∷ [])) 1 d_length) ∙ number_digits 1 (nat_abs z) m) in
      rw n (omega (zarith, g.digit.0, of z, sign z))

  lag_back : (i : ℕ) → i < 4 → field_at 2 (drop 73 (line_of f)) i ≡ get_or f.lags i 0
  unfolding field_at G
  lag_back i h =
      let m = g.four in
      ap (λ (l : List ℕ). number_of (take 2 (drop (2 * i) l))) after_scale
      ∙ (ap number_of (block_at 2 f.lags (10 ∷ []) i (omega arith)) ∙ number_digits 2 (get_or f.lags i 0) (g.byte i h))

  -- its line reads back as the frame, and is well formed
  pub reads_back : frame_of (line_of f) ≡ f
  unfolding frame_of
  reads_back =
      rw (
        row_take 9 (word_at (line_of f)) f.acf (pos 0) (omega (arith, g.nine)) acf_back,
        take_all 9 f.acf (omega (arith, g.nine)),
        scale_back,
        row_take 4 (field_at 2 (drop 73 (line_of f))) f.lags 0 (omega (arith, g.four)) lag_back,
        take_all 4 f.lags (omega (arith, g.four)),
      )

  head_length : length (A ++ (D ++ G)) ≡ 81
  head_length = simp length-append (omega (arith, a_length, d_length, g_length))

  split : line_of f ≡ (A ++ (D ++ G)) ++ (10 ∷ [])
  split = line_is ∙ simp append_assoc

  pub well_formed : formed_of (line_of f) ≡ true
  unfolding formed_of A D G
  well_formed =
      let n : length (line_of f) ≡ 82 = ap length split ∙ (length-append (A ++ (D ++ G)) (10 ∷ []) ∙ omega (arith, head_length)) in
      let t : take 81 (line_of f) ≡ A ++ (D ++ G) = ap (take 81) split ∙ take_at (A ++ (D ++ G)) (10 ∷ []) 81 head_length in
      let e : get_or (line_of f) 81 0 ≡ 10 = ap (λ (l : List ℕ). get_or l 81 0) split ∙ get_or_at (A ++ (D ++ G)) 10 [] 0 81 head_length in
      let h = all_append hex_of A (D ++ G) (blocks_hex 8 (map (of_z w32) f.acf)) (all_append hex_of D G (hex_digits 1 (nat_abs f.scale)) (blocks_hex 2 f.lags)) in
      rw (eq-eqb (length (line_of f)) 82 n, t, e, h)

-- ---- what reading and writing answer
ranges_zero : (f : Frame) → ranges_of f ≡ 0 → (scale_ok f.scale ≡ true) × (lags_ok f.lags ≡ true)
unfolding ranges_of frame_refusal_of IF◌THEN◌ELSE◌
ranges_zero f = go (scale_ok f.scale) (acf_ok f.acf) (lags_ok f.lags)
  where
    go : (a b c : Bool) → ◌≡◌ {A = ℕ} (IF a THEN IF b THEN IF c THEN 0 ELSE 4 ELSE 3 ELSE 2) 0 → (a ≡ true) × (c ≡ true)
    go true true true e = (refl, refl)
    go true true false e = absurd (omega arith)
    go true false c e = absurd (omega arith)
    go false b c e = absurd (omega arith)

-- a frame of 32-bit numbers that writing accepts is one that a line can hold
pub good : (f : Frame) (l : List ℕ) → ((i : ℕ) → i < 9 → SFits w32 (at f.acf i)) → write_of f l ≡ 0 → Good f
unfolding scale_ok lags_ok within lag_ok
good f l w e =
    let h = write_accepted f l e in
    let n = nine f.acf f.lags h.0 in
    let m = four f.acf f.lags h.0 in
    let z = ranges_zero f h.1 in
    let a = le_yes (pos 0) f.scale (and_left (le_z (pos 0) f.scale) (le_z f.scale (pos 4)) z.0) in
    let b = le_yes f.scale (pos 4) (and_right (le_z (pos 0) f.scale) (le_z f.scale (pos 4)) z.0) in
    record {
      nine = n;
      wide = w;
      digit = (omega (zarith, a), omega (zarith, b));
      four = m;
      byte = λ i k.
          let t = all_at lag_ok f.lags i 0 z.1 (omega arith) in
          let u = leb-true (get_or f.lags i 0) 120 (and_right (leb 40 (get_or f.lags i 0)) (leb (get_or f.lags i 0) 120) t) in
          omega arith;
    }

-- a frame that writing accepts is read back, and accepted
pub write_then_read : (f : Frame) (l : List ℕ) → ((i : ℕ) → i < 9 → SFits w32 (at f.acf i)) → write_of f l ≡ 0 → decoded_of (line_after f l) ≡ accepted_of f
write_then_read f l w e =
    let g = good f l w e in
    let o = sym (write_stored f l (line_of f) e refl).1 in
    let b = reads_back f g in
    let r = ap ranges_of b ∙ (write_accepted f l e).1 in
    ap decoded_of o ∙ (decoded_accepted (line_of f) (well_formed f g) r ∙ ap accepted_of b)

-- the frame of an answer
abbrev pub taken : Decoded → Frame
taken d = record { acf = d.acf; scale = d.scale; lags = d.lags }

-- an accepted line, its frame written into any lent line of 82 bytes: accepted, and the same bytes
pub read_then_write : (l o : List ℕ) → (decoded_of l).refusal ≡ 0 → length o ≡ 82 → (write_of (taken (decoded_of l)) o ≡ 0) × (line_after (taken (decoded_of l)) o ≡ l)
unfolding frame_of accepted_of
read_then_write l o e n =
    let h = accepted_formed l e in
    let i : taken (decoded_of l) ≡ frame_of l = ap taken (accepted_is l e) in
    let s = lengths_yes (frame_of l).acf (frame_of l).lags (length_row 9 (word_at l)) (length_row 4 (field_at 2 (drop 73 l))) in
    let w = write_sized (frame_of l) o s n ∙ h.1 in
    (ap (λ (f : Frame). write_of f o) i ∙ w, ap (λ (f : Frame). line_after f o) i ∙ (sym (write_stored (frame_of l) o (line_of (frame_of l)) w refl).1 ∙ same_bytes l h.0))

-- ---- and what the lent buffers hold

-- a written line, read into lent numbers and lags of the right lengths, leaves the frame there
pub lent_write_then_read : (f : Frame) (l : List ℕ) (a : List ℤ) (g : List ℕ)
    → ((i : ℕ) → i < 9 → SFits w32 (at f.acf i)) → write_of f l ≡ 0 → lengths_ok a g ≡ true
    → (read_of a g (line_after f l) ≡ record { refusal = 0; scale = f.scale }) × (acf_after a g (line_after f l) ≡ f.acf) × (lags_after a g (line_after f l) ≡ f.lags)
unfolding heading_of accepted_of
lent_write_then_read f l a g w e t =
    let r : read_of a g (line_after f l) ≡ record { refusal = 0; scale = f.scale } = read_sized a g (line_after f l) t ∙ ap heading_of (write_then_read f l w e) in
    let b : frame_of (line_after f l) ≡ f = ap frame_of (sym (write_stored f l (line_of f) e refl).1) ∙ reads_back f (good f l w e) in
    let s = read_stored a g (line_after f l) _ (frame_of (line_after f l)).acf (frame_of (line_after f l)).lags r refl refl refl in
    (r, sym s.1.0 ∙ ap (λ (x : Frame). x.acf) b, sym s.1.1 ∙ ap (λ (x : Frame). x.lags) b)

-- what reading leaves in lent numbers and lags, with the scale that it answers
abbrev pub left : List ℤ → List ℕ → List ℕ → Frame
left a g l = record { acf = acf_after a g l; scale = (read_of a g l).scale; lags = lags_after a g l }

-- and written again, it is the same bytes
pub lent_read_then_write : (a : List ℤ) (g l o : List ℕ) → (read_of a g l).refusal ≡ 0 → length o ≡ 82 → (write_of (left a g l) o ≡ 0) × (line_after (left a g l) o ≡ l)
unfolding heading_of refused_of accepted_of
lent_read_then_write a g l o e n =
    let t : lengths_ok a g ≡ true = either (lengths_ok a g ≡ true) (lengths_ok a g) (λ t. t) (λ t. absurd (let z = sym (ap (λ (x : Heading). x.refusal) (read_unsized a g l t)) ∙ e in omega arith)) in
    let r = read_sized a g l t in
    let d : (decoded_of l).refusal ≡ 0 = ap (λ (x : Heading). x.refusal) (sym r) ∙ e in
    let i = accepted_is l d in
    let s = read_stored a g l _ (frame_of l).acf (frame_of l).lags r d refl refl in
    let p : left a g l ≡ taken (decoded_of l) =
    ap₂ (λ (x : List ℤ) (y : List ℕ). record { acf = x; scale = (read_of a g l).scale; lags = y }) (sym s.1.0) (sym s.1.1)
    ∙ (ap (λ (z : ℤ). record { acf = (frame_of l).acf; scale = z; lags = (frame_of l).lags }) (ap (λ (x : Heading). x.scale) r ∙ ap (λ (x : Decoded). x.scale) i) ∙ sym (ap taken i)) in
    let w = read_then_write l o d n in
    (ap (λ (f : Frame). write_of f o) p ∙ w.0, ap (λ (f : Frame). line_after f o) p ∙ w.1)
