-- Counts of lists of answers: one answer more, one list behind the other, and how the five counts add up. Assumes nothing.
use mathlib.Core.Path.{◌≡◌, refl}
use mathlib.Core.Bool.{Bool, true, false, not, ◌&&◌}
use mathlib.Core.List.{List, [], ◌∷◌, ◌++◌}
use Prim.Native.Nat.{ℕ, suc, ◌+◌}
use native.Mathlib.Omega.{arith}
use borrow.Author.Tests.{eq-eqb, ne_eqb}
use lib.ListN.{length}
use Rattle.rows.specs.Choice.{IF◌THEN◌ELSE◌}
use Rattle.rows.proofs.Choice.{either}
use Rattle.counts.specs.declared.Reply.{Reply}
use Rattle.counts.specs.declared.Totals.{Totals}
use Rattle.counts.specs.Counts.{is_accepted, is_speech, is_held, is_quiet, is_refused, how_many, totals_of, plus_of}

-- what one answer adds
unfoldable one : Bool → ℕ
one b = IF b THEN 1 ELSE 0

count_next : (test : Reply → Bool) (r : Reply) (rs : List Reply) → how_many test (r ∷ rs) ≡ one (test r) + how_many test rs
unfolding how_many one IF◌THEN◌ELSE◌
count_next test r rs = go (test r) (how_many test rs)
  where
    go : (b : Bool) (n : ℕ) → (IF b THEN suc n ELSE n) ≡ (IF b THEN 1 ELSE 0) + n
    go true n = omega arith
    go false n = omega arith

count_append : (test : Reply → Bool) (a b : List Reply) → how_many test (a ++ b) ≡ how_many test a + how_many test b
unfolding how_many
count_append test [] b = omega arith
count_append test (r ∷ a) b =
    let x = count_next test r (a ++ b) in
    let y = count_next test r a in
    let z = count_append test a b in
    omega arith

pub totals_append : (a b : List Reply) → totals_of (a ++ b) ≡ plus_of (totals_of a) (totals_of b)
unfolding totals_of plus_of
totals_append a b =
    rw (count_append is_accepted a b, count_append is_speech a b, count_append is_held a b, count_append is_quiet a b, count_append is_refused a b)

-- ---- an answer is of one kind
three_kinds : (r : Reply) → one (is_speech r) + one (is_held r) + one (is_quiet r) ≡ one (is_accepted r)
unfolding is_speech is_held is_quiet one IF◌THEN◌ELSE◌
three_kinds r = go (is_accepted r) r.vad r.vvad
  where
    go : (a v w : Bool) → (IF a && w THEN 1 ELSE 0) + (IF a && (v && not w) THEN 1 ELSE 0) + (IF a && (not v && not w) THEN 1 ELSE 0) ≡ (IF a THEN 1 ELSE 0)
    go false v w = refl
    go true false false = refl
    go true false true = refl
    go true true false = refl
    go true true true = refl

two_kinds : (r : Reply) → one (is_accepted r) + one (is_refused r) ≡ 1
unfolding is_refused one IF◌THEN◌ELSE◌
two_kinds r = go (is_accepted r)
  where
    go : (a : Bool) → (IF a THEN 1 ELSE 0) + (IF not a THEN 1 ELSE 0) ≡ 1
    go true = refl
    go false = refl

-- ---- the middle three add up to the first, and the first and the last to the lines
pub three_add : (rs : List Reply) → how_many is_speech rs + how_many is_held rs + how_many is_quiet rs ≡ how_many is_accepted rs
unfolding how_many
three_add [] = refl
three_add (r ∷ rs) =
    let a = count_next is_speech r rs in
    let b = count_next is_held r rs in
    let c = count_next is_quiet r rs in
    let d = count_next is_accepted r rs in
    let k = three_kinds r in
    let h = three_add rs in
    omega arith

pub two_add : (rs : List Reply) → how_many is_accepted rs + how_many is_refused rs ≡ length rs
unfolding how_many
two_add [] = refl
two_add (r ∷ rs) =
    let a = count_next is_accepted r rs in
    let b = count_next is_refused r rs in
    let k = two_kinds r in
    let h = two_add rs in
    omega arith

-- ---- one answer more, by its kind
none : (n : ℕ) → n + 0 ≡ n
none n = omega arith

module _ (t : Totals) (r : Reply) where
  pub plus_refused : (r.refusal ≡ 0 → ⊥)
      → record { accepted = t.accepted; speech = t.speech; held = t.held; quiet = t.quiet; refused = t.refused + 1 } ≡ plus_of t (totals_of (r ∷ []))
  unfolding is_accepted is_speech is_held is_quiet is_refused how_many totals_of plus_of IF◌THEN◌ELSE◌
  plus_refused h = rw (ne_eqb r.refusal 0 h, none t.accepted, none t.speech, none t.held, none t.quiet)

  module _ (a : r.refusal ≡ 0) where
    pub plus_speech : r.vvad ≡ true
        → record { accepted = t.accepted + 1; speech = t.speech + 1; held = t.held; quiet = t.quiet; refused = t.refused } ≡ plus_of t (totals_of (r ∷ []))
    unfolding is_accepted is_speech is_held is_quiet is_refused how_many totals_of plus_of IF◌THEN◌ELSE◌
    plus_speech v =
        either (record { accepted = t.accepted + 1; speech = t.speech + 1; held = t.held; quiet = t.quiet; refused = t.refused } ≡ plus_of t (totals_of (r ∷ []))) r.vad
        (λ w. rw (eq-eqb r.refusal 0 a, v, w, none t.held, none t.quiet, none t.refused))
        (λ w. rw (eq-eqb r.refusal 0 a, v, w, none t.held, none t.quiet, none t.refused))

    pub plus_held : r.vvad ≡ false → r.vad ≡ true
        → record { accepted = t.accepted + 1; speech = t.speech; held = t.held + 1; quiet = t.quiet; refused = t.refused } ≡ plus_of t (totals_of (r ∷ []))
    unfolding is_accepted is_speech is_held is_quiet is_refused how_many totals_of plus_of IF◌THEN◌ELSE◌
    plus_held v w = rw (eq-eqb r.refusal 0 a, v, w, none t.speech, none t.quiet, none t.refused)

    pub plus_quiet : r.vvad ≡ false → r.vad ≡ false
        → record { accepted = t.accepted + 1; speech = t.speech; held = t.held; quiet = t.quiet + 1; refused = t.refused } ≡ plus_of t (totals_of (r ∷ []))
    unfolding is_accepted is_speech is_held is_quiet is_refused how_many totals_of plus_of IF◌THEN◌ELSE◌
    plus_quiet v w = rw (eq-eqb r.refusal 0 a, v, w, none t.speech, none t.held, none t.refused)
