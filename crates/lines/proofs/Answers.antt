-- Each way out of reading and of writing. Assumes nothing.
use Rattle.std.proofs.Common.{◌≡◌, ℕ, ◌<◌, true, false, eqb, List, length, ℤ, sym, refl, ap, ◌∙◌, arith, eq-eqb, ne_eqb, eqb-true}
use borrow.Author.Tests.{eqb-false}
use Rattle.rows.specs.Choice.{IF◌THEN◌ELSE◌}
use Rattle.rows.proofs.Choice.{either, by_yes, by_no, by_test}
use Rattle.frames.specs.Frame.{lengths_ok}
use Rattle.frames.proofs.Frame.{frame_digit}
use Rattle.std.specs.Prelude.{Ok, Err}
use Rattle.refusals.specs.Refusal.{number_of, number_in}
use Rattle.refusals.specs.declared.Refusal.{Refusal}
use Rattle.refusals.specs.declared.Refusal.TheVariants.{Length}
use Rattle.refusals.proofs.Laws.{number_digit}
use Rattle.frames.specs.Frame.{frame_refusal_of}
use Rattle.lines.specs.declared.Frame.{Frame}
use Rattle.lines.specs.Line.{frame_of, line_of, formed_of}
use Rattle.lines.specs.Answers.{Decoded, Heading, decoded_in, heading_in, ranges_of, refused_of, accepted_of, checked_of, parsed_of, decoded_of, heading_of, read_of, acf_after, lags_after, write_of, line_after}

-- ---- the lengths of lent numbers and lags
module _ (a : List ℤ) (g : List ℕ) where
  pub lengths_no : (length a ≡ 9 → ⊥) → lengths_ok a g ≡ false
  unfolding lengths_ok
  lengths_no h = rw (ne_eqb (length a) 9 h)

  pub lengths_no_lags : length a ≡ 9 → (length g ≡ 4 → ⊥) → lengths_ok a g ≡ false
  unfolding lengths_ok
  lengths_no_lags e h = rw (eq-eqb (length a) 9 e, ne_eqb (length g) 4 h)

  pub lengths_yes : length a ≡ 9 → length g ≡ 4 → lengths_ok a g ≡ true
  unfolding lengths_ok
  lengths_yes e h = rw (eq-eqb (length a) 9 e, eq-eqb (length g) 4 h)

-- ---- a line
module _ (l : List ℕ) where
  -- its numbers as they stand
  pub parsed_malformed : formed_of l ≡ false → parsed_of l ≡ refused_of 6
  unfolding parsed_of
  parsed_malformed t = by_no (accepted_of (frame_of l)) (refused_of 6) t

  pub parsed_formed : formed_of l ≡ true → parsed_of l ≡ accepted_of (frame_of l)
  unfolding parsed_of
  parsed_formed t = by_yes (accepted_of (frame_of l)) (refused_of 6) t

  pub parsed_yes : (parsed_of l).refusal ≡ 0 → formed_of l ≡ true
  unfolding refused_of
  parsed_yes e = either (formed_of l ≡ true) (formed_of l) (λ t. t) (λ t. let n = ap (λ (d : Decoded). d.refusal) (parsed_malformed t) in absurd (omega arith))

  pub parsed_no : ((parsed_of l).refusal ≡ 0 → ⊥) → formed_of l ≡ false
  unfolding accepted_of
  parsed_no h = either (formed_of l ≡ false) (formed_of l) (λ t. absurd (h (ap (λ (d : Decoded). d.refusal) (parsed_formed t)))) (λ t. t)

  -- and by its numbers
  pub decoded_malformed : formed_of l ≡ false → decoded_of l ≡ refused_of 6
  unfolding decoded_of
  decoded_malformed t = by_no (checked_of (frame_of l)) (refused_of 6) t

  pub decoded_refused : formed_of l ≡ true → (ranges_of (frame_of l) ≡ 0 → ⊥) → decoded_of l ≡ refused_of (ranges_of (frame_of l))
  unfolding decoded_of checked_of IF◌THEN◌ELSE◌
  decoded_refused t h = rw (t, ne_eqb (ranges_of (frame_of l)) 0 h)

  pub decoded_accepted : formed_of l ≡ true → ranges_of (frame_of l) ≡ 0 → decoded_of l ≡ accepted_of (frame_of l)
  unfolding decoded_of checked_of IF◌THEN◌ELSE◌
  decoded_accepted t h = rw (t, eq-eqb (ranges_of (frame_of l)) 0 h)

  -- and back: a line with refusal 0 is well formed, and its frame passes the range checks
  pub accepted_formed : (decoded_of l).refusal ≡ 0 → (formed_of l ≡ true) × (ranges_of (frame_of l) ≡ 0)
  unfolding refused_of
  accepted_formed e =
      either ((formed_of l ≡ true) × (ranges_of (frame_of l) ≡ 0)) (formed_of l)
      (λ t.
      either ((formed_of l ≡ true) × (ranges_of (frame_of l) ≡ 0)) (eqb (ranges_of (frame_of l)) 0)
      (λ u. (t, eqb-true (ranges_of (frame_of l)) 0 u))
      (λ u. (t, sym (ap (λ (d : Decoded). d.refusal) (decoded_refused t (eqb-false (ranges_of (frame_of l)) 0 u))) ∙ e)))
      (λ t. absurd (let z = sym (ap (λ (d : Decoded). d.refusal) (decoded_malformed t)) ∙ e in omega arith))

  pub accepted_is : (decoded_of l).refusal ≡ 0 → decoded_of l ≡ accepted_of (frame_of l)
  accepted_is e = let h = accepted_formed e in decoded_accepted h.0 h.1

-- ---- a line as code reads it
module _ (l : List ℕ) where
  -- what is refused as it is parsed is malformed, and refused
  pub parse_malformed : (e : Refusal) → decoded_in (Err e) ≡ parsed_of l → formed_of l ≡ false
  unfolding decoded_in refused_of
  parse_malformed e p = parsed_no l (λ z. let d = number_digit e in let n = ap (λ (d : Decoded). d.refusal) p in omega arith)

  pub parse_refused : (e : Refusal) → decoded_in (Err e) ≡ parsed_of l → decoded_in (Err e) ≡ decoded_of l
  parse_refused e p =
      let t = parse_malformed e p in
      p ∙ (parsed_malformed l t ∙ sym (decoded_malformed l t))

  accepted_zero : (f : Frame) → (accepted_of f).refusal ≡ 0
  unfolding accepted_of
  accepted_zero f = refl

  -- a frame that is parsed is the line's
  pub parse_formed : (f : Frame) → decoded_in (Ok f) ≡ parsed_of l → (formed_of l ≡ true) × (accepted_of f ≡ accepted_of (frame_of l))
  unfolding decoded_in
  parse_formed f p =
      let t = parsed_yes l (sym (ap (λ (d : Decoded). d.refusal) p) ∙ accepted_zero f) in
      (t, p ∙ parsed_formed l t)

  pub parse_ranges : (f : Frame) → accepted_of f ≡ accepted_of (frame_of l) → ranges_of f ≡ ranges_of (frame_of l)
  unfolding ranges_of accepted_of
  parse_ranges f p = ap (λ (d : Decoded). frame_refusal_of d.acf d.lags d.scale) p

  -- the range checks of a parsed frame
  pub check_refused : (f : Frame) (e : Refusal) → decoded_in (Ok f) ≡ parsed_of l → number_of e ≡ ranges_of f → decoded_in (Err e) ≡ decoded_of l
  unfolding decoded_in
  check_refused f e p q =
      let h = parse_formed f p in
      let n = q ∙ parse_ranges f h.1 in
      ap refused_of n ∙ sym (decoded_refused l h.0 (λ z. let d = number_digit e in omega arith))

  pub check_accepted : (f : Frame) → decoded_in (Ok f) ≡ parsed_of l → 0 ≡ ranges_of f → decoded_in (Ok f) ≡ decoded_of l
  unfolding decoded_in
  check_accepted f p q =
      let h = parse_formed f p in
      h.1 ∙ sym (decoded_accepted l h.0 (sym (q ∙ parse_ranges f h.1)))

  -- by what is answered: a refusal's number, or the frame
  pub decoded_err : (e : Refusal) → decoded_in (Err e) ≡ decoded_of l → (number_of e ≡ (decoded_of l).refusal) × ((decoded_of l).refusal ≡ 0 → ⊥)
  unfolding decoded_in refused_of
  decoded_err e p = let n = ap (λ (d : Decoded). d.refusal) p in (n, λ z. let d = number_digit e in omega arith)

  pub decoded_ok : (f : Frame) → decoded_in (Ok f) ≡ decoded_of l → ((decoded_of l).refusal ≡ 0) × (accepted_of f ≡ decoded_of l)
  unfolding decoded_in
  decoded_ok f p = (sym (ap (λ (d : Decoded). d.refusal) p) ∙ accepted_zero f, p)

-- its number is a digit
pub decoded_digit : (l : List ℕ) → (decoded_of l).refusal < 10
unfolding decoded_of checked_of accepted_of refused_of ranges_of
decoded_digit l =
    by_test (λ (d : Decoded). d.refusal < 10) (formed_of l) _ _
    (λ t. by_test (λ (d : Decoded). d.refusal < 10) (eqb (ranges_of (frame_of l)) 0) _ _ (λ u. omega arith) (λ u. frame_digit (frame_of l).acf (frame_of l).lags (frame_of l).scale))
    (λ t. omega arith)

-- ---- a line read into lent numbers and lags
module _ (a : List ℤ) (g l : List ℕ) where
  pub read_unsized : lengths_ok a g ≡ false → read_of a g l ≡ heading_of (refused_of 1)
  unfolding read_of
  read_unsized t = by_no (heading_of (decoded_of l)) (heading_of (refused_of 1)) t

  pub read_sized : lengths_ok a g ≡ true → read_of a g l ≡ heading_of (decoded_of l)
  unfolding read_of
  read_sized t = by_yes (heading_of (decoded_of l)) (heading_of (refused_of 1)) t

  -- a refused line leaves what was lent
  pub read_kept : (r : Heading) → read_of a g l ≡ r → (r.refusal ≡ 0 → ⊥) → (r ≡ read_of a g l) × ((a ≡ acf_after a g l) × (g ≡ lags_after a g l))
  unfolding acf_after lags_after IF◌THEN◌ELSE◌
  read_kept r e h = let q = ne_eqb (read_of a g l).refusal 0 (λ z. h (ap (λ (x : Heading). x.refusal) (sym e) ∙ z)) in (sym e, (rw q, rw q))

  -- an accepted one stores its frame
  pub read_stored : (r : Heading) (a' : List ℤ) (g' : List ℕ) → read_of a g l ≡ r → r.refusal ≡ 0 → a' ≡ (frame_of l).acf → g' ≡ (frame_of l).lags
      → (r ≡ read_of a g l) × ((a' ≡ acf_after a g l) × (g' ≡ lags_after a g l))
  unfolding acf_after lags_after IF◌THEN◌ELSE◌
  read_stored r a' g' e h p q = let z = eq-eqb (read_of a g l).refusal 0 (ap (λ (x : Heading). x.refusal) e ∙ h) in (sym e, (rw z p, rw z q))

  -- the same of what code answers
  pub unsized_read : lengths_ok a g ≡ false → (heading_in (Err Length) ≡ read_of a g l) × ((a ≡ acf_after a g l) × (g ≡ lags_after a g l))
  unfolding heading_in number_of heading_of refused_of
  unsized_read t = read_kept (heading_in (Err Length)) (read_unsized t) (λ z. omega arith)

  pub refused_read : (e : Refusal) → lengths_ok a g ≡ true → decoded_in (Err e) ≡ decoded_of l → (heading_in (Err e) ≡ read_of a g l) × ((a ≡ acf_after a g l) × (g ≡ lags_after a g l))
  unfolding heading_in decoded_in heading_of refused_of
  refused_read e t p = read_kept (heading_in (Err e)) (read_sized t ∙ sym (ap heading_of p)) (λ z. let d = number_digit e in omega arith)

  pub accepted_read : (f : Frame) (a' : List ℤ) (g' : List ℕ) → lengths_ok a g ≡ true → decoded_in (Ok f) ≡ decoded_of l → a' ≡ f.acf → g' ≡ f.lags
      → (heading_in (Ok f.scale) ≡ read_of a g l) × ((a' ≡ acf_after a g l) × (g' ≡ lags_after a g l))
  unfolding heading_in decoded_in heading_of accepted_of
  accepted_read f a' g' t p q r =
      let i = accepted_is l (ap (λ (d : Decoded). d.refusal) (sym p)) in
      read_stored (heading_in (Ok f.scale)) a' g' (read_sized t ∙ sym (ap heading_of p)) refl (q ∙ ap (λ (d : Decoded). d.acf) (p ∙ i)) (r ∙ ap (λ (d : Decoded). d.lags) (p ∙ i))

-- ---- a frame written into a lent line
module _ (f : Frame) (o : List ℕ) where
  pub write_unsized : lengths_ok f.acf f.lags ≡ false → write_of f o ≡ 1
  unfolding write_of IF◌THEN◌ELSE◌
  write_unsized t = rw t

  pub write_short : lengths_ok f.acf f.lags ≡ true → (length o ≡ 82 → ⊥) → write_of f o ≡ 1
  unfolding write_of IF◌THEN◌ELSE◌
  write_short t h = rw (t, ne_eqb (length o) 82 h)

  pub write_sized : lengths_ok f.acf f.lags ≡ true → length o ≡ 82 → write_of f o ≡ ranges_of f
  unfolding write_of IF◌THEN◌ELSE◌
  write_sized t h = rw (t, eq-eqb (length o) 82 h)

  -- and back: a frame that is accepted has nine numbers and four lags, and passes the range checks
  pub write_accepted : write_of f o ≡ 0 → (lengths_ok f.acf f.lags ≡ true) × (ranges_of f ≡ 0)
  write_accepted e =
      either ((lengths_ok f.acf f.lags ≡ true) × (ranges_of f ≡ 0)) (lengths_ok f.acf f.lags)
      (λ t.
      either ((lengths_ok f.acf f.lags ≡ true) × (ranges_of f ≡ 0)) (eqb (length o) 82)
      (λ u. (t, sym (write_sized t (eqb-true (length o) 82 u)) ∙ e))
      (λ u. absurd (let z = sym (write_short t (eqb-false (length o) 82 u)) ∙ e in omega arith)))
      (λ t. absurd (let z = sym (write_unsized t) ∙ e in omega arith))

  -- a refused frame leaves the line
  pub write_kept : (n : ℕ) → write_of f o ≡ n → (n ≡ 0 → ⊥) → (n ≡ write_of f o) × (o ≡ line_after f o)
  unfolding line_after IF◌THEN◌ELSE◌
  write_kept n e h = (sym e, rw (ne_eqb (write_of f o) 0 (λ z. h (sym e ∙ z))))

  -- an accepted one makes it its own
  pub write_stored : (o' : List ℕ) → write_of f o ≡ 0 → o' ≡ line_of f → (0 ≡ write_of f o) × (o' ≡ line_after f o)
  unfolding line_after IF◌THEN◌ELSE◌
  write_stored o' e h = (sym e, rw (eq-eqb (write_of f o) 0 e) h)

  -- the same of what code answers
  pub unsized_written : write_of f o ≡ 1 → (number_in {A = Unit} (Err Length) ≡ write_of f o) × (o ≡ line_after f o)
  unfolding number_in number_of
  unsized_written e = write_kept 1 e (λ z. omega arith)

  pub refused_written : (e : Refusal) → write_of f o ≡ number_of e → (number_in {A = Unit} (Err e) ≡ write_of f o) × (o ≡ line_after f o)
  unfolding number_in
  refused_written e p = write_kept (number_of e) p (λ z. let d = number_digit e in omega arith)
