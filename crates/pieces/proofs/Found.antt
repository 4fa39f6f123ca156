-- The first line of a text and the rest; texts that are one line; texts that end a line. Assumes nothing.
use Prim.Native.Nat.{ℕ, zero, suc, ◌+◌, ◌-◌, ◌<◌, ◌≤◌, min}
use mathlib.Core.Path.{◌≡◌, refl, sym, ap, ap₂, ◌∙◌}
use mathlib.Core.Bool.{Bool, true, false, cond, not, ◌&&◌}
use mathlib.Core.List.{List, [], ◌∷◌, ◌++◌}
use native.Mathlib.Omega.{arith}
use native.Mathlib.Numerals.{add-one}
use borrow.Author.Tests.{ne_eqb, eqb-true, eqb-false, ltb-true, ltb-false, lt-leb, le-leb, leb-true, leb-false}
use lib.Dec.{eqb, ltb, leb}
use Rattle.std.specs.List.{position, position_or_len, count_by, list_all}
use Rattle.std.specs.Option.{unwrap_or}
use Rattle.std.proofs.lemmas.List.Recursion.{is_position_or_len, is_count_by}
use lib.ListN.{length, get_or, take, drop, length-append, length-drop}
use lib.Seq.{drop-cons, take_all, take-length, drop-length, take-suc, take-append-add, drop-append-add, get_or-drop}
use Rattle.rows.specs.Choice.{IF◌THEN◌ELSE◌}
use Rattle.rows.proofs.Choice.{either, by_test, by_no}
use Rattle.pieces.specs.Lines.{on_first, lines_of, plain_of, first_of, feeds_of}
use Rattle.pieces.specs.Cut.{end_from}

-- ---- before the first line feed
-- a place as the library finds it
pub plain_place : (l : List ℕ) → plain_of l ≡ position_or_len (λ b. eqb b 10) l
unfolding plain_of IF◌THEN◌ELSE◌
plain_place l = is_position_or_len plain_of (λ b. eqb b 10) refl step l
  where
    step : (b : ℕ) (m : List ℕ) → plain_of (b ∷ m) ≡ cond (eqb b 10) 0 (1 + plain_of m)
    step b m = go (eqb b 10)
      where
        go : (t : Bool) → (IF t THEN 0 ELSE suc (plain_of m)) ≡ cond t 0 (1 + plain_of m)
        go true = refl
        go false = omega arith

module _ (s : List ℕ) (k : ℕ) where
  pub plain_next : k < length s → (get_or s k 0 ≡ 10 → ⊥) → plain_of (drop k s) ≡ suc (plain_of (drop (k + 1) s))
  unfolding plain_of IF◌THEN◌ELSE◌
  plain_next h e = ap plain_of (drop-cons s k 0 h) ∙ rw (ne_eqb (get_or s k 0) 10 e, add-one k)

-- as the library counts line feeds, and tests that there is none
feeds_count : (l : List ℕ) → feeds_of l ≡ count_by (λ b. eqb b 10) l
unfolding feeds_of IF◌THEN◌ELSE◌
feeds_count l = is_count_by feeds_of (λ b. eqb b 10) refl step l
  where
    step : (b : ℕ) (m : List ℕ) → feeds_of (b ∷ m) ≡ cond (eqb b 10) (1 + feeds_of m) (feeds_of m)
    step b m = go (eqb b 10)
      where
        go : (t : Bool) → (IF t THEN suc (feeds_of m) ELSE feeds_of m) ≡ cond t (1 + feeds_of m) (feeds_of m)
        go true = omega arith
        go false = refl

leb_suc : (m n : ℕ) → leb m n ≡ leb (suc m) (suc n)
leb_suc m n =
    either (leb m n ≡ leb (suc m) (suc n)) (leb m n)
    (λ e. let h = leb-true m n e in e ∙ sym (le-leb (suc m) (suc n) (omega arith)))
    (λ e. let h = leb-false m n e in e ∙ sym (lt-leb (suc m) (suc n) (omega arith)))

plain_all : (l : List ℕ) → list_all (λ b. not (eqb b 10)) l ≡ leb (length l) (plain_of l)
unfolding plain_of IF◌THEN◌ELSE◌
plain_all [] = refl
plain_all (b ∷ l) = go (plain_all l) (eqb b 10)
  where
    go : list_all (λ b. not (eqb b 10)) l ≡ leb (length l) (plain_of l) → (t : Bool) → (not t && list_all (λ b. not (eqb b 10)) l) ≡ leb (suc (length l)) (IF t THEN 0 ELSE suc (plain_of l))
    go ih true = sym (lt-leb (suc (length l)) 0 (omega arith))
    go ih false = ih ∙ leb_suc (length l) (plain_of l)

-- at the end of a loop
pub feeds_taken : (l : List ℕ) (i : ℕ) → length l ≤ i → count_by (λ b. eqb b 10) (take i l) ≡ feeds_of l
feeds_taken l i h = ap (count_by (λ b. eqb b 10)) (take_all i l h) ∙ sym (feeds_count l)

pub plain_taken : (l : List ℕ) (i : ℕ) → length l ≤ i → list_all (λ b. not (eqb b 10)) (take i l) ≡ leb (length l) (plain_of l)
plain_taken l i h = ap (list_all (λ b. not (eqb b 10))) (take_all i l h) ∙ plain_all l

pub plain_le : (l : List ℕ) → plain_of l ≤ length l
unfolding plain_of IF◌THEN◌ELSE◌
plain_le [] = omega arith
plain_le (b ∷ l) = go (plain_le l) (eqb b 10)
  where
    go : plain_of l ≤ length l → (t : Bool) → (IF t THEN 0 ELSE suc (plain_of l)) ≤ suc (length l)
    go h true = omega arith
    go h false = omega arith

pub plain_found : (l : List ℕ) → unwrap_or (position (λ b. eqb b 10) l) (length l) ≡ plain_of l
plain_found l =
    let e = plain_place l in
    let h = plain_le l in
    either (unwrap_or (position (λ b. eqb b 10) l) (length l) ≡ plain_of l) (ltb (position_or_len (λ b. eqb b 10) l) (length l))
    (λ t. rw t (sym e))
    (λ t. rw t (let f = ltb-false _ _ t in omega arith))

-- of a part
pub plain_take : (n : ℕ) (l : List ℕ) → plain_of (take n l) ≡ min n (plain_of l)
unfolding plain_of IF◌THEN◌ELSE◌
plain_take zero l = omega arith
plain_take (suc n) [] = omega arith
plain_take (suc n) (b ∷ l) = go (plain_take n l) (eqb b 10)
  where
    go : plain_of (take n l) ≡ min n (plain_of l) → (t : Bool) → (IF t THEN 0 ELSE suc (plain_of (take n l))) ≡ min (suc n) (IF t THEN 0 ELSE suc (plain_of l))
    go h true = omega arith
    go h false = omega arith

-- after a text with no line feed
pub plain_append : (l m : List ℕ) → plain_of l ≡ length l → plain_of (l ++ m) ≡ length l + plain_of m
unfolding plain_of IF◌THEN◌ELSE◌
plain_append [] m h = omega arith
plain_append (b ∷ l) m h = go (plain_append l m) (eqb b 10) h
  where
    go : (plain_of l ≡ length l → plain_of (l ++ m) ≡ length l + plain_of m) → (t : Bool) → (IF t THEN 0 ELSE suc (plain_of l)) ≡ suc (length l) → (IF t THEN 0 ELSE suc (plain_of (l ++ m))) ≡ suc (length l) + plain_of m
    go ih true e = absurd (omega arith)
    go ih false e = let p : plain_of l ≡ length l = omega arith in let q = ih p in omega arith

-- ---- the first line, and the rest
pub first_line : (l : List ℕ) → 0 < length l → lines_of l ≡ take (first_of l) l ∷ lines_of (drop (first_of l) l)
unfolding first_of lines_of plain_of on_first IF◌THEN◌ELSE◌
first_line [] h = absurd (omega arith)
first_line (b ∷ []) h = go (eqb b 10)
  where
    go : (t : Bool) → (IF t THEN (b ∷ []) ∷ [] ELSE (b ∷ []) ∷ []) ≡ take (min ((IF t THEN 0 ELSE 1) + 1) 1) (b ∷ []) ∷ lines_of (drop (min ((IF t THEN 0 ELSE 1) + 1) 1) (b ∷ []))
    go true = refl
    go false = refl
first_line (b ∷ c ∷ l) h = go (first_line (c ∷ l) (omega arith)) (eqb b 10)
  where
    m : List ℕ
    m = c ∷ l

    go : lines_of (c ∷ l) ≡ take (first_of (c ∷ l)) (c ∷ l) ∷ lines_of (drop (first_of (c ∷ l)) (c ∷ l)) → (t : Bool)
        → (IF t THEN (b ∷ []) ∷ lines_of (c ∷ l) ELSE on_first b (lines_of (c ∷ l)))
        ≡ take (min ((IF t THEN 0 ELSE suc (plain_of (c ∷ l))) + 1) (suc (suc (length l)))) (b ∷ c ∷ l) ∷ lines_of (drop (min ((IF t THEN 0 ELSE suc (plain_of (c ∷ l))) + 1) (suc (suc (length l)))) (b ∷ c ∷ l))
    go ih true = let e : min (0 + 1) (suc (suc (length l))) ≡ 1 = omega arith in rw e
    go ih false =
        let e : min (suc (plain_of (c ∷ l)) + 1) (suc (suc (length l))) ≡ suc (min (plain_of (c ∷ l) + 1) (suc (length l))) = omega arith in
        rw (e, ih)

-- a text that is no line, or one
pub no_line : (l : List ℕ) → length l ≡ 0 → lines_of l ≡ []
unfolding lines_of
no_line [] e = refl
no_line (b ∷ l) e = absurd (omega arith)

pub one_line : (l : List ℕ) → 0 < length l → length l ≤ plain_of l + 1 → lines_of l ≡ l ∷ []
unfolding first_of lines_of
one_line l h e =
    let n : min (plain_of l + 1) (length l) ≡ length l = omega arith in
    first_line l h ∙ ap₂ (λ (x y : List ℕ). x ∷ lines_of y) (ap (λ (j : ℕ). take j l) n ∙ take-length l) (ap (λ (j : ℕ). drop j l) n ∙ drop-length l)

-- a text that begins with no line feed
pub begun : (y m : List ℕ) → plain_of y ≡ length y → 0 < length y → lines_of (y ++ m) ≡ (y ++ take (first_of m) m) ∷ lines_of (drop (first_of m) m)
unfolding first_of
begun y m p h =
    let a = plain_append y m p in
    let b = length-append y m in
    let n : min (plain_of (y ++ m) + 1) (length (y ++ m)) ≡ length y + min (plain_of m + 1) (length m) = omega arith in
    first_line (y ++ m) (omega arith)
    ∙ ap₂ (λ (x z : List ℕ). x ∷ lines_of z)
    (ap (λ (j : ℕ). take j (y ++ m)) n ∙ take-append-add y m (min (plain_of m + 1) (length m)))
    (ap (λ (j : ℕ). drop j (y ++ m)) n ∙ drop-append-add y m (min (plain_of m + 1) (length m)))

-- a text that ends with a line feed
closed : (a x : List ℕ) → lines_of (a ++ (10 ∷ []) ++ x) ≡ lines_of (a ++ (10 ∷ [])) ++ lines_of x
unfolding lines_of IF◌THEN◌ELSE◌ on_first
closed [] x = refl
closed (b ∷ a) x = go (closed a x) (first_line (a ++ (10 ∷ [])) (simp length-append (omega arith))) (eqb b 10)
  where
    go : lines_of (a ++ (10 ∷ []) ++ x) ≡ lines_of (a ++ (10 ∷ [])) ++ lines_of x → {u : List ℕ} {v : List (List ℕ)} → lines_of (a ++ (10 ∷ [])) ≡ u ∷ v → (t : Bool)
        → (IF t THEN (b ∷ []) ∷ lines_of (a ++ (10 ∷ []) ++ x) ELSE on_first b (lines_of (a ++ (10 ∷ []) ++ x)))
        ≡ (IF t THEN (b ∷ []) ∷ lines_of (a ++ (10 ∷ [])) ELSE on_first b (lines_of (a ++ (10 ∷ [])))) ++ lines_of x
    go ih e true = rw ih
    go ih e false = rw (ih, e)

pub closed_part : (l : List ℕ) (a n : ℕ) (x : List ℕ) → a + n ≤ length l → (0 < n → get_or l (a + n - 1) 0 ≡ 10) → lines_of (take n (drop a l) ++ x) ≡ lines_of (take n (drop a l)) ++ lines_of x
unfolding lines_of
closed_part l a zero x h e = refl
closed_part l a (suc n) x h e =
    let d = length-drop a l in
    let j : a + n ≡ a + suc n - 1 = omega arith in
    let q : take (suc n) (drop a l) ≡ take n (drop a l) ++ (10 ∷ []) =
    take-suc (drop a l) n 0 (omega arith) ∙ ap (λ (b : ℕ). take n (drop a l) ++ (b ∷ [])) (get_or-drop a l n 0 ∙ (ap (λ (i : ℕ). get_or l i 0) j ∙ e (omega arith))) in
    rw q (closed (take n (drop a l)) x)

-- ---- the last line that ends in a text
module _ (l : List ℕ) where
  -- a line feed at i, and none after it
  pub end_last : (i n : ℕ) → i < n → get_or l i 0 ≡ 10 → ((k : ℕ) → i + 1 ≤ k → k < n → get_or l k 0 ≡ 10 → ⊥) → end_from l n ≡ i + 1
  unfolding end_from
  end_last i zero h e f = absurd (omega arith)
  end_last i (suc n) h e f =
      by_test (λ (j : ℕ). j ≡ i + 1) (eqb (get_or l n 0) 10) _ _
      (λ t. either (suc n ≡ i + 1) (ltb i n) (λ u. absurd (f n (let v = ltb-true i n u in omega arith) (omega arith) (eqb-true (get_or l n 0) 10 t))) (λ u. let v = ltb-false i n u in omega arith))
      (λ t.
      either (end_from l n ≡ i + 1) (ltb i n)
      (λ u. end_last i n (ltb-true i n u) e (λ k a b. f k a (omega arith)))
      (λ u. let v = ltb-false i n u in let w : n ≡ i = omega arith in absurd (eqb-false (get_or l n 0) 10 t (ap (λ (j : ℕ). get_or l j 0) w ∙ e))))

  pub end_none : (n : ℕ) → ((k : ℕ) → k < n → get_or l k 0 ≡ 10 → ⊥) → end_from l n ≡ 0
  unfolding end_from
  end_none zero f = refl
  end_none (suc n) f = by_no _ _ (ne_eqb (get_or l n 0) 10 (f n (omega arith))) ∙ end_none n (λ k h. f k (omega arith))

  pub end_le : (k : ℕ) → end_from l k ≤ k
  unfolding end_from
  end_le zero = omega arith
  end_le (suc k) = by_test (λ (j : ℕ). j ≤ suc k) (eqb (get_or l k 0) 10) _ _ (λ t. omega arith) (λ t. omega (arith, end_le k))

  pub end_feed : (k : ℕ) → 0 < end_from l k → get_or l (end_from l k - 1) 0 ≡ 10
  unfolding end_from
  end_feed zero = λ h. absurd (omega arith)
  end_feed (suc k) =
      by_test (λ (j : ℕ). 0 < j → get_or l (j - 1) 0 ≡ 10) (eqb (get_or l k 0) 10) _ _
      (λ t h. let e : suc k - 1 ≡ k = omega arith in rw e (eqb-true (get_or l k 0) 10 t))
      (λ t. end_feed k)

  pub end_plain : (k : ℕ) → k ≤ length l → plain_of (drop k l) ≡ length (drop k l) → plain_of (drop (end_from l k) l) ≡ length (drop (end_from l k) l)
  unfolding end_from
  end_plain zero h p = p
  end_plain (suc k) h p =
      by_test (λ (j : ℕ). plain_of (drop j l) ≡ length (drop j l)) (eqb (get_or l k 0) 10) _ _
      (λ t. p)
      (λ t.
      let q : drop (k + 1) l ≡ drop (suc k) l = ap (λ (j : ℕ). drop j l) (add-one k) in
      let a = plain_next l k (omega arith) (eqb-false (get_or l k 0) 10 t) in
      let b = length-drop k l in
      let c = length-drop (suc k) l in
      end_plain k (omega arith) (a ∙ (ap (λ (x : List ℕ). suc (plain_of x)) q ∙ omega arith)))

-- a line feed at j: the first is not after it
pub plain_at : (l : List ℕ) (j : ℕ) → j < length l → get_or l j 0 ≡ 10 → plain_of l ≤ j
unfolding plain_of
plain_at [] j h e = absurd (omega arith)
plain_at (b ∷ l) zero h e = by_test (λ (n : ℕ). n ≤ 0) (eqb b 10) _ _ (λ t. omega arith) (λ t. absurd (eqb-false b 10 t e))
plain_at (b ∷ l) (suc j) h e = by_test (λ (n : ℕ). n ≤ suc j) (eqb b 10) _ _ (λ t. omega arith) (λ t. omega (arith, plain_at l j (omega arith) e))

-- with more behind it
pub plain_more : (l m : List ℕ) → plain_of l < length l → plain_of (l ++ m) ≡ plain_of l
unfolding plain_of IF◌THEN◌ELSE◌
plain_more [] m h = absurd (omega arith)
plain_more (b ∷ l) m h = go (plain_more l m) (eqb b 10) h
  where
    go : (plain_of l < length l → plain_of (l ++ m) ≡ plain_of l) → (t : Bool) → (IF t THEN 0 ELSE suc (plain_of l)) < suc (length l) → (IF t THEN 0 ELSE suc (plain_of (l ++ m))) ≡ (IF t THEN 0 ELSE suc (plain_of l))
    go ih true e = refl
    go ih false e = ap suc (ih (omega arith))

-- so many bytes are passed, and then a line feed
pub plain_drop : (n : ℕ) (l : List ℕ) → n ≤ plain_of l → plain_of l ≡ n + plain_of (drop n l)
unfolding plain_of IF◌THEN◌ELSE◌
plain_drop zero l h = omega arith
plain_drop (suc n) [] h = absurd (omega arith)
plain_drop (suc n) (b ∷ l) h = go (λ k. plain_drop n l k) (eqb b 10) h
  where
    go : (n ≤ plain_of l → plain_of l ≡ n + plain_of (drop n l)) → (t : Bool) → suc n ≤ (IF t THEN 0 ELSE suc (plain_of l)) → (IF t THEN 0 ELSE suc (plain_of l)) ≡ suc n + plain_of (drop n l)
    go f true h = absurd (omega arith)
    go f false h = let e = f (omega arith) in omega arith
