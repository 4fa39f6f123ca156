-- Texts put one behind the other: what the first leaves, and that both together are one text. Assumes nothing.
use mathlib.Core.Path.{◌≡◌, sym, ap, ap₂, subst, ◌∙◌}
use mathlib.Core.List.{List, ◌++◌}
use Prim.Native.Nat.{ℕ, ◌+◌, ◌≤◌}
use native.Mathlib.Omega.{arith}
use lib.ListN.{length, length-append}
use Rattle.pieces.specs.Put.{put_of}
use Rattle.pieces.proofs.Written.{put_length, put_put}

-- t is put into o at a place: what o is then, and where t ends
abbrev pub Puts : List ℕ → ℕ → List ℕ → ℕ → List ℕ → Type 0
Puts o at t to o' = (to ≡ at + length t) × (o' ≡ put_of o at t)

module _ (o : List ℕ) (at : ℕ) where
  -- the same text
  module _ {t u : List ℕ} (e : t ≡ u) where
    pub room_as : at + length t ≤ length o → at + length u ≤ length o
    room_as h = subst (λ (x : List ℕ). at + length x ≤ length o) e h

    pub puts_as : {to : ℕ} {o' : List ℕ} → Puts o at u to o' → Puts o at t to o'
    puts_as {to} {o'} p = subst (λ (x : List ℕ). Puts o at x to o') (sym e) p

  -- one text, then another
  module _ (a b : List ℕ) (room : at + length (a ++ b) ≤ length o) where
    pub room_first : at + length a ≤ length o
    room_first = let n = length-append a b in omega arith

    module _ {m : ℕ} {o₁ : List ℕ} (p : Puts o at a m o₁) where
      pub room_second : m + length b ≤ length o₁
      room_second =
          let n = length-append a b in
          let e = p.0 in
          let l : length o₁ ≡ length o = ap length p.1 ∙ put_length o at a in
          omega arith

      pub puts_both : {n : ℕ} {o₂ : List ℕ} → Puts o₁ m b n o₂ → Puts o at (a ++ b) n o₂
      puts_both q =
          let l = length-append a b in
          let e = p.0 in
          let f = q.0 in
          (omega arith, q.1 ∙ (ap₂ (λ (x : List ℕ) (i : ℕ). put_of x i b) p.1 e ∙ put_put o at a b (omega arith)))
