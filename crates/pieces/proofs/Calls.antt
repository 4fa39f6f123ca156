-- A caller whose calls answer the lines that end in each piece, and whose end answers what is carried, gives in all what it writes for the lines of the
-- whole input, however that is cut. Assumes nothing.
use mathlib.Core.Path.{◌≡◌, sym, ap, ap₂, ◌∙◌}
use mathlib.Core.List.{List, [], ◌∷◌, ◌++◌, append-nil}
use Prim.Native.Nat.{ℕ, ◌≤◌}
use native.Mathlib.Omega.{arith}
use borrow.Author.Tests.{eqb-true, eqb-false}
use lib.Dec.{eqb}
use lib.ListN.{length, take}
use lib.Seq.{take_all}
use Rattle.rows.specs.Choice.{IF◌THEN◌ELSE◌}
use Rattle.rows.proofs.Choice.{by_test}
use Rattle.pieces.specs.declared.Finder.{Finder}
use Rattle.pieces.specs.Lines.{lines_of, short}
use Rattle.pieces.specs.Cut.{finder_of, held_of, rest_of}
use Rattle.pieces.specs.Pieces.{flat, handed_of, handed_all, state_after, text_after}
use Rattle.pieces.specs.Calls.{Call, pieces_of, calls_give}
use Rattle.pieces.proofs.Found.{no_line, one_line}
use Rattle.pieces.proofs.Carried.{held_plain}
use Rattle.pieces.proofs.Caller.{text_append, text_whole}

-- the end: what is carried is a line, of which all that is written counts, or nothing if none was begun
pub last_text : {S : Type 0} (next : S → List ℕ → S) (text : S → List ℕ → List ℕ) (s : S) (f : Finder) (n : ℕ) (t : List ℕ) → length t ≤ n → text s (held_of f) ≡ t
    → take (IF eqb (length (held_of f)) 0 THEN 0 ELSE n) t ≡ text_after next text s (lines_of (held_of f))
unfolding text_after
last_text next text s f n t h e =
    by_test (λ (m : ℕ). take m t ≡ text_after next text s (lines_of (held_of f))) (eqb (length (held_of f)) 0) _ _
    (λ z. ap (text_after next text s) (sym (no_line (held_of f) (eqb-true (length (held_of f)) 0 z))))
    (λ z.
    let p = held_plain f in
    let l = one_line (held_of f) (omega (arith, eqb-false (length (held_of f)) 0 z)) (omega arith) in
    take_all n t h ∙ (sym e ∙ (sym (append-nil (text s (held_of f))) ∙ ap (text_after next text s) (sym l))))

-- the caller's state and its finder; what a call gives and leaves, and the end
module _ {S T : Type 0} {k : ℕ} (next : S → List ℕ → S) (text : S → List ℕ → List ℕ) (state : T → S) (finder : T → Finder)
    (gives : T → Call k → List ℕ) (leaves : T → Call k → T) (end : T → List ℕ)
    (given : (t : T) (c : Call k) → gives t c ≡ text_after next text (state t) (handed_of (finder t) c.piece))
    (left_state : (t : T) (c : Call k) → state (leaves t c) ≡ state_after next (state t) (handed_of (finder t) c.piece))
    (left_finder : (t : T) (c : Call k) → finder (leaves t c) ≡ rest_of (finder t) c.piece)
    (ended : (t : T) → end t ≡ text_after next text (state t) (lines_of (held_of (finder t)))) where
  calls_handed : (t : T) (cs : List (Call k)) → calls_give gives leaves end t cs ≡ text_after next text (state t) (handed_all (finder t) (pieces_of cs))
  unfolding calls_give handed_all pieces_of
  calls_handed t [] = ended t
  calls_handed t (c ∷ cs) =
      let h = handed_of (finder t) c.piece in
      let r = rest_of (finder t) c.piece in
      ap₂ (λ (x y : List ℕ). x ++ y) (given t c)
      (calls_handed (leaves t c) cs ∙ ap₂ (λ (s : S) (f : Finder). text_after next text s (handed_all f (pieces_of cs))) (left_state t c) (left_finder t c))
      ∙ sym (text_append next text (state t) h (handed_all r (pieces_of cs)))

  -- from an empty finder on, if no more of a line is looked at than is kept
  module _ (cap : (s : S) (l : List ℕ) → next s (short l) ≡ next s l) (capt : (s : S) (l : List ℕ) → text s (short l) ≡ text s l) where
    pub calls_whole : (t : T) → finder t ≡ finder_of [] → (cs : List (Call k)) → calls_give gives leaves end t cs ≡ text_after next text (state t) (lines_of (flat (pieces_of cs)))
    calls_whole t e cs =
        calls_handed t cs
        ∙ (ap (λ (f : Finder). text_after next text (state t) (handed_all f (pieces_of cs))) e ∙ text_whole next text cap capt (state t) (pieces_of cs))
