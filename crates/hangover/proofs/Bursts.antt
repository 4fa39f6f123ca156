-- Clause 6.8 with its two lengths as parameters, a burst of B frames and a tail of T, frame after frame; the clause has 3 and 5. The counts are what
-- the raw flags so far make them: how many in a row are raw speech, and how much of the tail is left since the latest burst ended. So burstcount tells
-- whether a burst ended at a frame, and the flag is what the sentence says: raw speech, or a burst that ended at one of the T frames before. Assumes nothing.
use mathlib.Core.Path.{◌≡◌, refl, sym, ap, ap₂, subst, ◌∙◌}
use mathlib.Core.Bool.{Bool, true, false, ◌||◌}
use mathlib.Core.List.{List, [], ◌∷◌, ◌++◌}
use mathlib.Core.Logic.{◌↔◌, ◌⊎◌, inl, inr, ⊎_elim}
use Prim.Native.Nat.{ℕ, zero, suc, ◌+◌, ◌-◌, ◌<◌, ◌≤◌, min}
use native.Mathlib.Omega.{arith}
use borrow.Author.Tests.{le-leb, lt-leb, leb-true, leb-false}
use lib.Dec.{leb}
use lib.Dec as dec
use lib.IntN.{ℤ, pos, negsuc, ◌-ℤ◌}
use lib.ListN.{length, get_or-append}
use lib.Seq.{get_or-append_seam}
use lib.Signed.{le_z}
use Rattle.numbers.proofs.Parts.{zarith, plus, minus}
use Rattle.operations.specs.Operations.{sub}
use Rattle.operations.proofs.Laws.{add_exact, sub_exact}
use Rattle.rows.specs.Choice.{IF◌THEN◌ELSE◌}
use Rattle.rows.proofs.Choice.{by_test, by_yes, by_no, either}
use Rattle.hangover.specs.declared.Hung.{Hung}
use Rattle.hangover.specs.Hangover.{burst_of, run_down_of, started_of, hangover_of}
use Rattle.hangover.specs.Bursts.{by_place, Ended, Latest}
use Rattle.hangover.specs.Sentence.{Before, EndedBefore}

-- ---- the clause, and frame after frame from reset: what the first i frames leave, and the flag of frame i
unfoldable pub started_with : ℤ → ℤ → Bool → ℤ → ℤ → Hung
started_with B T vvad burstcount hangcount = IF le_z B burstcount THEN run_down_of vvad B T ELSE run_down_of vvad burstcount hangcount

unfoldable pub hangover_with : ℤ → ℤ → Bool → ℤ → ℤ → Hung
hangover_with B T vvad burstcount hangcount = started_with B T vvad (burst_of vvad burstcount) hangcount

unfoldable pub hung_at : ℕ → ℕ → (ℕ → Bool) → ℕ → Hung
hung_at B T raw zero = record { vad = false; burstcount = pos 0; hangcount = negsuc 0 }
hung_at B T raw (suc i) = hangover_with (pos B) (pos T) (raw i) (hung_at B T raw i).burstcount (hung_at B T raw i).hangcount

unfoldable pub flag_at : ℕ → ℕ → (ℕ → Bool) → ℕ → Bool
flag_at B T raw i = (hung_at B T raw (suc i)).vad

-- ---- how many raw speech frames in a row end before frame i; how many frames of the tail are left at frame i; the latest burst
unfoldable pub lead_at : (ℕ → Bool) → ℕ → ℕ
lead_at raw zero = 0
lead_at raw (suc i) = IF raw i THEN suc (lead_at raw i) ELSE 0

unfoldable pub left_at : ℕ → ℕ → (ℕ → Bool) → ℕ → ℕ
left_at B T raw zero = 0
left_at B T raw (suc i) = IF leb B (lead_at raw (suc i)) THEN T ELSE left_at B T raw i - 1

unfoldable pub latest_at : ℕ → (ℕ → Bool) → ℕ → ℕ
latest_at B raw zero = 0
latest_at B raw (suc i) = IF leb B (lead_at raw (suc i)) THEN suc i ELSE latest_at B raw i

-- ---- a burst has ended where B or more are in a row
module _ (raw : ℕ → Bool) where
  lead_le : (i : ℕ) → lead_at raw i ≤ i
  unfolding lead_at
  lead_le zero = omega arith
  lead_le (suc i) = by_test (λ (n : ℕ). n ≤ suc i) (raw i) _ _ (λ t. omega (arith, lead_le i)) (λ t. omega arith)

  lead_each : (i m : ℕ) → m < lead_at raw (suc i) → raw (i - m) ≡ true
  unfolding lead_at
  lead_each i zero =
      by_test (λ (n : ℕ). 0 < n → raw (i - 0) ≡ true) (raw i) _ _
      (λ t h. let e : i - 0 ≡ i = omega arith in ap raw e ∙ t)
      (λ t h. absurd (omega arith))
  lead_each zero (suc m) = by_test (λ (n : ℕ). suc m < n → raw (0 - suc m) ≡ true) (raw 0) _ _ (λ t h. absurd (omega arith)) (λ t h. absurd (omega arith))
  lead_each (suc i) (suc m) =
      by_test (λ (n : ℕ). suc m < n → raw (suc i - suc m) ≡ true) (raw (suc i)) _ _
      (λ t h. let e : suc i - suc m ≡ i - m = omega arith in ap raw e ∙ lead_each i m (omega arith))
      (λ t h. absurd (omega arith))

  lead_more : (i n : ℕ) → n ≤ i → ((m : ℕ) → m < n → raw (i - 1 - m) ≡ true) → n ≤ lead_at raw i
  unfolding lead_at IF◌THEN◌ELSE◌
  lead_more i zero h f = omega arith
  lead_more zero (suc n) h f = absurd (omega arith)
  lead_more (suc i) (suc n) h f =
      let e : i ≡ suc i - 1 - 0 = omega arith in
      rw (ap raw e ∙ f 0 (omega arith))
      (let k = lead_more i n (omega arith) (λ m g. let q : i - 1 - m ≡ suc i - 1 - suc m = omega arith in ap raw q ∙ f (suc m) (omega arith)) in omega arith)

  pub lead_ended : (B j : ℕ) → B ≤ lead_at raw (suc j) → Ended B raw j
  lead_ended B j h = record { inside = let k = lead_le (suc j) in omega arith; each = λ m g. lead_each j m (omega arith) }

  pub ended_lead : (B j : ℕ) → Ended B raw j → B ≤ lead_at raw (suc j)
  ended_lead B j e =
      lead_more (suc j) B (let k = e.inside in omega arith) (λ m g. let q : suc j - 1 - m ≡ j - m = omega arith in ap raw q ∙ e.each m g)

-- ---- the latest burst
module _ (B : ℕ) (raw : ℕ → Bool) where
  pub latest_is : (i : ℕ) → Latest B raw i (latest_at B raw i)
  unfolding latest_at
  latest_is zero = record { among = omega arith; ended = λ h. absurd (omega arith); none_after = λ j h g e. absurd (omega arith) }
  latest_is (suc i) =
      by_test (λ (n : ℕ). Latest B raw (suc i) n) (leb B (lead_at raw (suc i))) _ _
      (λ t. record {
        among = omega arith;
        ended = λ h. let q : i ≡ suc i - 1 = omega arith in subst (Ended B raw) q (lead_ended raw B i (leb-true B (lead_at raw (suc i)) t));
        none_after = λ j h g e. absurd (omega arith);
      })
      (λ t.
      let l = latest_is i in
      record {
        among = let h = l.among in omega arith;
        ended = l.ended;
        none_after = λ j h g e. later l t j h g e;
      })
    where
      later : Latest B raw i (latest_at B raw i) → leb B (lead_at raw (suc i)) ≡ false → (j : ℕ) → latest_at B raw i ≤ j → j < suc i → Ended B raw j → ⊥
      later l t j h g e =
          either ⊥ (leb i j)
          (λ u.
          let q : j ≡ i = let k = leb-true i j u in omega arith in
          let a = ended_lead raw B i (subst (Ended B raw) q e) in
          let b = leb-false B (lead_at raw (suc i)) t in
          omega arith)
          (λ u. l.none_after j h (leb-false i j u) e)

  -- there is only one
  after : {i n m : ℕ} → Latest B raw i n → Latest B raw i m → n < m → ⊥
  after {i} {n} {m} l k h = let g = k.among in l.none_after (m - 1) (omega arith) (omega arith) (k.ended (omega arith))

  pub latest_only : {i n m : ℕ} → Latest B raw i n → Latest B raw i m → n ≡ m
  latest_only {i} {n} {m} l k =
      either (n ≡ m) (leb n m)
      (λ t. let a = leb-true n m t in either (n ≡ m) (leb m n) (λ u. let b = leb-true m n u in omega arith) (λ u. absurd (after l k (leb-false m n u))))
      (λ t. absurd (after k l (leb-false n m t)))

-- ---- the tail that is left, by the latest burst
module _ (B T : ℕ) (raw : ℕ → Bool) where
  left_latest : (i : ℕ) → left_at B T raw i ≡ (IF leb 1 (latest_at B raw i) THEN T + latest_at B raw i - i ELSE 0)
  unfolding left_at latest_at IF◌THEN◌ELSE◌
  left_latest zero = refl
  left_latest (suc i) = go (leb B (lead_at raw (suc i))) (left_latest i)
    where
      down : (t : Bool) (n : ℕ) → (IF t THEN T + n - i ELSE 0) - 1 ≡ (IF t THEN T + n - suc i ELSE 0)
      down true n = omega arith
      down false n = omega arith

      go : (t : Bool) → left_at B T raw i ≡ (IF leb 1 (latest_at B raw i) THEN T + latest_at B raw i - i ELSE 0)
          → (IF t THEN T ELSE left_at B T raw i - 1) ≡ (IF leb 1 (IF t THEN suc i ELSE latest_at B raw i) THEN T + (IF t THEN suc i ELSE latest_at B raw i) - suc i ELSE 0)
      go true h = rw (le-leb 1 (suc i) (omega arith)) (omega arith)
      go false h = ap (λ (x : ℕ). x - 1) h ∙ down (leb 1 (latest_at B raw i)) (latest_at B raw i)

  left_yes : (i : ℕ) → 1 ≤ left_at B T raw i → (1 ≤ latest_at B raw i) × (i + 1 ≤ T + latest_at B raw i)
  unfolding IF◌THEN◌ELSE◌
  left_yes i h = go (leb 1 (latest_at B raw i)) refl (left_latest i)
    where
      go : (t : Bool) → leb 1 (latest_at B raw i) ≡ t → left_at B T raw i ≡ (IF t THEN T + latest_at B raw i - i ELSE 0) → (1 ≤ latest_at B raw i) × (i + 1 ≤ T + latest_at B raw i)
      go true e q = let k = leb-true 1 (latest_at B raw i) e in (k, omega arith)
      go false e q = absurd (omega arith)

  left_back : (i : ℕ) → 1 ≤ latest_at B raw i → i + 1 ≤ T + latest_at B raw i → 1 ≤ left_at B T raw i
  left_back i h k = rw (left_latest i ∙ by_yes _ _ (le-leb 1 (latest_at B raw i) h)) (omega arith)

  -- some is left exactly if a burst ended at one of the T frames before: then the latest did
  latest_near : (i : ℕ) → EndedBefore B T raw i → (1 ≤ latest_at B raw i) × (i + 1 ≤ T + latest_at B raw i)
  unfolding EndedBefore Before
  latest_near i (j, (before, near), ended) =
      let n = latest_at B raw i in
      either ((1 ≤ n) × (i + 1 ≤ T + n)) (leb n j)
      (λ t. absurd ((latest_is B raw i).none_after j (leb-true n j t) before ended))
      (λ t. let a = leb-false n j t in (omega arith, omega arith))

  left_ended : (i : ℕ) → 1 ≤ left_at B T raw i → EndedBefore B T raw i
  unfolding EndedBefore Before
  left_ended i h =
      let y = left_yes i h in
      let l = latest_is B raw i in
      (latest_at B raw i - 1, (let a = l.among in omega arith, omega arith), l.ended (omega arith))

  ended_left : (i : ℕ) → EndedBefore B T raw i → 1 ≤ left_at B T raw i
  ended_left i h = let n = latest_near i h in left_back i n.0 n.1

-- ---- the counts are these
abbrev count : ℕ → ℤ
count zero = negsuc 0
count (suc n) = pos n

less_one : (n : ℕ) → n ≤ 40 → sub (pos n) (pos 1) ≡ count n
less_one n h = sub_exact (pos n) (pos 1) (omega (zarith, minus (pos n) (pos 1))) ∙ exact n
  where
    exact : (n : ℕ) → pos n -ℤ pos 1 ≡ count n
    exact zero = refl
    exact (suc n) = omega (zarith, minus (pos (suc n)) (pos 1))

abbrev hung : Bool → ℤ → ℤ → Hung
hung v b h = record { vad = v; burstcount = b; hangcount = h }

or_true : (v : Bool) → v || true ≡ true
or_true true = refl
or_true false = refl

run_down : (v : Bool) (b h : ℕ) → h ≤ 40 → run_down_of v (pos b) (count h) ≡ hung (v || leb 1 h) (pos b) (count (h - 1))
unfolding run_down_of IF◌THEN◌ELSE◌
run_down true b zero k = refl
run_down false b zero k = refl
run_down v b (suc h) k =
    let e : suc h - 1 ≡ h = omega arith in
    rw (le-leb 0 h (omega arith), le-leb 1 (suc h) (omega arith), e) (ap₂ (λ (x : Bool) (z : ℤ). hung x (pos b) z) (sym (or_true v)) (less_one h (omega arith)))

-- one frame, from b in a row (or more, where b is B) and h frames of tail
abbrev up : Bool → ℕ → ℕ
up v b = IF v THEN suc b ELSE 0

burst_up : (v : Bool) (b : ℕ) → b ≤ 40 → burst_of v (pos b) ≡ pos (up v b)
unfolding burst_of IF◌THEN◌ELSE◌
burst_up true b h = add_exact (pos b) (pos 1) (omega (zarith, plus (pos b) (pos 1))) ∙ omega (zarith, plus (pos b) (pos 1))
burst_up false b h = refl

module _ (B T : ℕ) (one : 1 ≤ B) (p : B ≤ 39) (q : T ≤ 39) where
  frame : (v : Bool) (l h : ℕ) → h ≤ T
      → hangover_with (pos B) (pos T) v (pos (min B l)) (count h) ≡ (IF leb B (up v l) THEN hung true (pos B) (count T) ELSE hung (v || leb 1 h) (pos (up v l)) (count (h - 1)))
  unfolding hangover_with started_with IF◌THEN◌ELSE◌
  frame v l h s =
      rw (burst_up v (min B l) (omega arith))
      (either ((IF leb B (up v (min B l)) THEN run_down_of v (pos B) (pos T) ELSE run_down_of v (pos (up v (min B l))) (count h)) ≡ (IF leb B (up v l) THEN hung true (pos B) (count T) ELSE hung (v || leb 1 h) (pos (up v l)) (count (h - 1)))) (leb B (up v l))
      (λ t.
      let e : suc T - 1 ≡ T = omega arith in
      rw (t, le-leb B (up v (min B l)) (many v (leb-true B (up v l) t)))
      (run_down v B (suc T) (omega arith) ∙ rw (e, le-leb 1 (suc T) (omega arith), or_true v)))
      (λ t.
      let f = few v (leb-false B (up v l) t) in
      rw (f, t) (run_down v (up v l) h (omega arith))))
    where
      many : (v : Bool) → B ≤ up v l → B ≤ up v (min B l)
      many true g = omega arith
      many false g = g

      few : (v : Bool) → up v l < B → up v (min B l) ≡ up v l
      few true g = omega arith
      few false g = refl

  counts_of : (r : Hung) (v : Bool) (l h : ℕ) (t : Bool) → leb B l ≡ t → r ≡ (IF t THEN hung true (pos B) (count T) ELSE hung v (pos l) (count h))
      → (r.burstcount ≡ pos (min B l)) × (r.hangcount ≡ count (IF t THEN T ELSE h))
  unfolding IF◌THEN◌ELSE◌
  counts_of r v l h true e d =
      let m : B ≡ min B l = let k = leb-true B l e in omega arith in
      (ap (λ (x : Hung). x.burstcount) d ∙ ap pos m, ap (λ (x : Hung). x.hangcount) d)
  counts_of r v l h false e d =
      let m : l ≡ min B l = let k = leb-false B l e in omega arith in
      (ap (λ (x : Hung). x.burstcount) d ∙ ap pos m, ap (λ (x : Hung). x.hangcount) d)

  module _ (raw : ℕ → Bool) where
    left_le : (i : ℕ) → left_at B T raw i ≤ T
    unfolding left_at
    left_le zero = omega arith
    left_le (suc i) = by_test (λ (n : ℕ). n ≤ T) (leb B (lead_at raw (suc i))) _ _ (λ t. omega arith) (λ t. omega (arith, left_le i))

    -- what frame i leaves
    hung_is : (i : ℕ) → (hung_at B T raw i).burstcount ≡ pos (min B (lead_at raw i)) → (hung_at B T raw i).hangcount ≡ count (left_at B T raw i)
        → hung_at B T raw (suc i) ≡ (IF leb B (lead_at raw (suc i)) THEN hung true (pos B) (count T) ELSE hung (raw i || leb 1 (left_at B T raw i)) (pos (lead_at raw (suc i))) (count (left_at B T raw i - 1)))
    unfolding hung_at lead_at
    hung_is i b h = ap₂ (hangover_with (pos B) (pos T) (raw i)) b h ∙ frame (raw i) (lead_at raw i) (left_at B T raw i) (left_le i)

    counts_start : ((hung_at B T raw 0).burstcount ≡ pos (min B (lead_at raw 0))) × ((hung_at B T raw 0).hangcount ≡ count (left_at B T raw 0))
    unfolding hung_at lead_at left_at
    counts_start = (let e : 0 ≡ min B 0 = omega arith in ap pos e, refl)

    counts_next : (i : ℕ) → (hung_at B T raw i).burstcount ≡ pos (min B (lead_at raw i)) → (hung_at B T raw i).hangcount ≡ count (left_at B T raw i)
        → ((hung_at B T raw (suc i)).burstcount ≡ pos (min B (lead_at raw (suc i)))) × ((hung_at B T raw (suc i)).hangcount ≡ count (left_at B T raw (suc i)))
    unfolding left_at
    counts_next i b h = counts_of (hung_at B T raw (suc i)) _ (lead_at raw (suc i)) (left_at B T raw i - 1) (leb B (lead_at raw (suc i))) refl (hung_is i b h)

    pub counts_at : (i : ℕ) → ((hung_at B T raw i).burstcount ≡ pos (min B (lead_at raw i))) × ((hung_at B T raw i).hangcount ≡ count (left_at B T raw i))
    counts_at zero = counts_start
    counts_at (suc i) = let c = counts_at i in counts_next i c.0 c.1

    -- the flag of frame i
    flag_is : (i : ℕ) → flag_at B T raw i ≡ (IF leb B (lead_at raw (suc i)) THEN true ELSE raw i || leb 1 (left_at B T raw i))
    unfolding flag_at IF◌THEN◌ELSE◌
    flag_is i = let c = counts_at i in ap (λ (x : Hung). x.vad) (hung_is i c.0 c.1) ∙ vad_of (leb B (lead_at raw (suc i)))
      where
        vad_of : (t : Bool) → (IF t THEN hung true (pos B) (count T) ELSE hung (raw i || leb 1 (left_at B T raw i)) (pos (lead_at raw (suc i))) (count (left_at B T raw i - 1))).vad ≡ (IF t THEN true ELSE raw i || leb 1 (left_at B T raw i))
        vad_of true = refl
        vad_of false = refl

    -- where a burst ends there is raw speech
    burst_raw : (i : ℕ) → B ≤ lead_at raw (suc i) → raw i ≡ true
    burst_raw i h = let q : i - 0 ≡ i = omega arith in ap raw (sym q) ∙ lead_each raw i 0 (omega arith)

    -- ---- the sentence
    says : (i : ℕ) (v : Bool) → raw i ≡ v → v || leb 1 (left_at B T raw i) ≡ true → (raw i ≡ true) ⊎ EndedBefore B T raw i
    says i true e h = inl e
    says i false e h = inr (left_ended B T raw i (leb-true 1 (left_at B T raw i) h))

    flag_says : (i : ℕ) → flag_at B T raw i ≡ true → (raw i ≡ true) ⊎ EndedBefore B T raw i
    flag_says i h =
        either ((raw i ≡ true) ⊎ EndedBefore B T raw i) (leb B (lead_at raw (suc i)))
        (λ t. inl (burst_raw i (leb-true B (lead_at raw (suc i)) t)))
        (λ t. says i (raw i) refl (sym (by_no _ _ t) ∙ (sym (flag_is i) ∙ h)))

    flag_up : (i : ℕ) → raw i || leb 1 (left_at B T raw i) ≡ true → flag_at B T raw i ≡ true
    flag_up i h = flag_is i ∙ by_test (λ (x : Bool). x ≡ true) (leb B (lead_at raw (suc i))) _ _ (λ t. refl) (λ t. h)

    says_flag : (i : ℕ) → (raw i ≡ true) ⊎ EndedBefore B T raw i → flag_at B T raw i ≡ true
    says_flag i (inl e) = flag_up i (ap (λ (v : Bool). v || leb 1 (left_at B T raw i)) e)
    says_flag i (inr h) = flag_up i (ap (λ (v : Bool). raw i || v) (le-leb 1 (left_at B T raw i) (ended_left B T raw i h)) ∙ or_true (raw i))

    pub sentence : (i : ℕ) → (flag_at B T raw i ≡ true) ↔ ((raw i ≡ true) ⊎ EndedBefore B T raw i)
    sentence i = (flag_says i, says_flag i)

    -- ---- so a frame that is not raw speech has its latest burst no more than T frames before it
    pub held_by : (i : ℕ) → raw i ≡ false → flag_at B T raw i ≡ true → (1 ≤ latest_at B raw i) × (i + 1 ≤ T + latest_at B raw i)
    held_by i e h = ⊎_elim (λ r. absurd (subst dec.T (sym r ∙ e) tt)) (latest_near B T raw i) ((sentence i).0 h)

    -- and it completes none itself
    no_burst : (i : ℕ) → raw i ≡ false → leb B (lead_at raw (suc i)) ≡ false
    no_burst i e =
        either (leb B (lead_at raw (suc i)) ≡ false) (leb B (lead_at raw (suc i)))
        (λ t. absurd (subst dec.T (sym (burst_raw i (leb-true B (lead_at raw (suc i)) t)) ∙ e) tt))
        (λ t. t)

    pub latest_quiet : (i : ℕ) → raw i ≡ false → latest_at B raw (suc i) ≡ latest_at B raw i
    unfolding latest_at
    latest_quiet i e = by_no _ _ (no_burst i e)

    -- ---- the burst count says whether a burst ended at this frame, and so keeps the latest
    pub burst_full : (i : ℕ) → le_z (pos B) (hung_at B T raw (suc i)).burstcount ≡ leb B (lead_at raw (suc i))
    burst_full i =
        ap (le_z (pos B)) (counts_at (suc i)).0
        ∙ either (leb B (min B (lead_at raw (suc i))) ≡ leb B (lead_at raw (suc i))) (leb B (lead_at raw (suc i)))
        (λ t. let h = leb-true B (lead_at raw (suc i)) t in le-leb B (min B (lead_at raw (suc i))) (omega arith) ∙ sym t)
        (λ t. let h = leb-false B (lead_at raw (suc i)) t in lt-leb B (min B (lead_at raw (suc i))) (omega arith) ∙ sym t)

    pub latest_next : (i : ℕ) → latest_at B raw (suc i) ≡ (IF le_z (pos B) (hung_at B T raw (suc i)).burstcount THEN suc i ELSE latest_at B raw i)
    unfolding latest_at
    latest_next i = ap (λ (t : Bool). IF t THEN suc i ELSE latest_at B raw i) (sym (burst_full i))

-- ---- the clause has 3 and 5
pub with_is : (vvad : Bool) (burstcount hangcount : ℤ) → hangover_with (pos 3) (pos 5) vvad burstcount hangcount ≡ hangover_of vvad burstcount hangcount
unfolding hangover_with started_with hangover_of started_of
with_is vvad burstcount hangcount = refl

-- ---- what the first i frames leave is a matter of their flags alone
module _ (raw raw' : ℕ → Bool) where
  abbrev Same : ℕ → Type 0
  Same i = (j : ℕ) → j < i → raw j ≡ raw' j

  hung_same : (B T i : ℕ) → Same i → hung_at B T raw i ≡ hung_at B T raw' i
  unfolding hung_at
  hung_same B T zero h = refl
  hung_same B T (suc i) h =
      ap₂ (λ (v : Bool) (x : Hung). hangover_with (pos B) (pos T) v x.burstcount x.hangcount) (h i (omega arith)) (hung_same B T i (λ j k. h j (omega arith)))

  lead_same : (i : ℕ) → Same i → lead_at raw i ≡ lead_at raw' i
  unfolding lead_at
  lead_same zero h = refl
  lead_same (suc i) h = ap₂ (λ (v : Bool) (n : ℕ). IF v THEN suc n ELSE 0) (h i (omega arith)) (lead_same i (λ j k. h j (omega arith)))

  latest_same : (B i : ℕ) → Same i → latest_at B raw i ≡ latest_at B raw' i
  unfolding latest_at
  latest_same B zero h = refl
  latest_same B (suc i) h = ap₂ (λ (l n : ℕ). IF leb B l THEN suc i ELSE n) (lead_same (suc i) h) (latest_same B i (λ j k. h j (omega arith)))

-- ---- one flag more at the end of a list
module _ (raws : List Bool) (v : Bool) where
  abbrev more : ℕ → Bool
  more = by_place (raws ++ (v ∷ []))

  pub more_last : more (length raws) ≡ v
  unfolding by_place
  more_last = get_or-append_seam raws v [] false

  pub more_before : (j : ℕ) → j < length raws → more j ≡ by_place raws j
  unfolding by_place
  more_before j h = get_or-append raws (v ∷ []) false j h

  pub more_hung : (B T : ℕ) → hung_at B T more (suc (length raws)) ≡ hangover_with (pos B) (pos T) v (hung_at B T (by_place raws) (length raws)).burstcount (hung_at B T (by_place raws) (length raws)).hangcount
  unfolding hung_at
  more_hung B T =
      ap₂ (λ (u : Bool) (x : Hung). hangover_with (pos B) (pos T) u x.burstcount x.hangcount) more_last (hung_same more (by_place raws) B T (length raws) more_before)

  pub more_latest : (B : ℕ) → latest_at B more (length raws) ≡ latest_at B (by_place raws) (length raws)
  more_latest B = latest_same more (by_place raws) B (length raws) more_before

  -- and the flags of the frames before stay
  pub more_flag : (B T i : ℕ) → i < length raws → flag_at B T more i ≡ flag_at B T (by_place raws) i
  unfolding flag_at
  more_flag B T i h = ap (λ (x : Hung). x.vad) (hung_same more (by_place raws) B T (suc i) (λ j k. more_before j (omega arith)))
