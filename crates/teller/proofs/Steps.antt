-- One line: what the proofs of `tell` and `hear` cite. Assumes nothing.
use mathlib.Core.Path.{◌≡◌, refl, ap}
use mathlib.Core.List.{List, [], ◌∷◌}
use Prim.Native.Nat.{ℕ}
use borrow.Author.Tests.{eq-eqb, ne_eqb}
use lib.Dec.{eqb}
use lib.ListN.{length}
use Rattle.rows.specs.Choice.{IF◌THEN◌ELSE◌}
use Rattle.rows.proofs.Choice.{by_yes, by_no}
use Rattle.lines.specs.Answers.{Decoded, decoded_of, refused_of}
use Rattle.lines.proofs.Malformed.{decoded_cut}
use Rattle.pieces.specs.Lines.{plain_of}
use Rattle.why.specs.Why.{Why}
use Rattle.why.specs.Explain.{explained_for}
use Rattle.teller.specs.declared.Hearing.{Hearing}
use Rattle.teller.specs.Told.{Told}
use Rattle.teller.specs.Decimal.{decimal_from, decimal_of}
use Rattle.teller.specs.Words.{text_of}
use Rattle.teller.specs.Run.{direction_by, sent_of, denied_of, told_of}

module _ (h : Hearing) (block l : List ℕ) where
  pub told_no : ((decoded_of l).refusal ≡ 0 → ⊥) → told_of h block l ≡ denied_of (decoded_of l).refusal h
  unfolding told_of
  told_no z = by_no _ _ (ne_eqb (decoded_of l).refusal 0 z)

  pub told_ok : (decoded_of l).refusal ≡ 0 → told_of h block l ≡ sent_of h.downlink (explained_for (direction_by h.downlink block) h.explainer (decoded_of l).acf (decoded_of l).lags (decoded_of l).scale)
  unfolding told_of
  told_ok z = by_yes _ _ (eq-eqb (decoded_of l).refusal 0 z)

-- ---- a line is known by what is read of it: so a malformed one is refused with 6
module _ (h : Hearing) (block : List ℕ) where
  abbrev told_by : Decoded → Told
  told_by d = IF eqb d.refusal 0 THEN sent_of h.downlink (explained_for (direction_by h.downlink block) h.explainer d.acf d.lags d.scale) ELSE denied_of d.refusal h

  told_as : (l : List ℕ) {d : Decoded} → decoded_of l ≡ d → told_of h block l ≡ told_by d
  unfolding told_of
  told_as l q = ap told_by q

  pub told_cut : (l : List ℕ) → plain_of l ≡ length l → told_of h block l ≡ denied_of 6 h
  unfolding refused_of IF◌THEN◌ELSE◌
  told_cut l p = told_as l (decoded_cut l p)

-- what such a line is told
pub cut_text : text_of (Why.Refused 6) ≡ 114 ∷ 101 ∷ 102 ∷ 117 ∷ 115 ∷ 101 ∷ 100 ∷ 32 ∷ 54 ∷ 10 ∷ []
unfolding text_of decimal_of decimal_from IF◌THEN◌ELSE◌
cut_text = refl
