-- The texts of a line, word by word, as they are put: there is room for each, and together they are the line's. Assumes nothing.
use mathlib.Core.List.{List, [], ◌∷◌, ◌++◌}
use Prim.Native.Nat.{ℕ, ◌+◌, ◌≤◌}
use lib.ListN.{length}
use Rattle.why.specs.declared.Reasons.{Reasons}
use Rattle.why.specs.Why.{Why}
use Rattle.teller.specs.Decimal.{decimal_of}
use Rattle.teller.specs.Words.{refused, flag_text, way_text, reasons_text, text_of}
use Rattle.teller.proofs.Puts.{Puts, room_first, room_second, puts_both}

-- ---- a whole line
abbrev blank : List ℕ
blank = 32 ∷ []

abbrev feed : List ℕ
feed = 10 ∷ []

-- one that is refused, up to its number
abbrev denied₁ : List ℕ
denied₁ = refused ++ blank

abbrev denied₂ : ℕ → List ℕ
denied₂ n = denied₁ ++ decimal_of n

module _ (o : List ℕ) (at n : ℕ) (room : at + length (text_of (Why.Refused n)) ≤ length o) where
  room₂ : at + length (denied₂ n) ≤ length o
  unfolding text_of
  room₂ = room_first o at (denied₂ n) feed room

  pub denied_room₁ : at + length denied₁ ≤ length o
  denied_room₁ = room_first o at denied₁ (decimal_of n) room₂

  module _ {a : ℕ} {o₁ : List ℕ} (p₁ : Puts o at denied₁ a o₁) where
    pub denied_room₂ : a + length (decimal_of n) ≤ length o₁
    denied_room₂ = room_second o at denied₁ (decimal_of n) room₂ p₁

    module _ {b : ℕ} {o₂ : List ℕ} (p₂ : Puts o₁ a (decimal_of n) b o₂) where
      puts₂ : Puts o at (denied₂ n) b o₂
      puts₂ = puts_both o at denied₁ (decimal_of n) room₂ p₁ p₂

      pub denied_room₃ : b + 1 ≤ length o₂
      unfolding text_of
      denied_room₃ = room_second o at (denied₂ n) feed room puts₂

      pub denied_puts : {c : ℕ} {o₃ : List ℕ} → Puts o₂ b feed c o₃ → Puts o at (text_of (Why.Refused n)) c o₃
      unfolding text_of
      denied_puts p₃ = puts_both o at (denied₂ n) feed room puts₂ p₃

-- one that is accepted, up to each word
module _ (r : Reasons) where
  abbrev said₁ : List ℕ
  said₁ = decimal_of r.number

  abbrev said₂ : List ℕ
  said₂ = said₁ ++ blank

  abbrev said₃ : List ℕ
  said₃ = said₂ ++ flag_text r.flag

  abbrev said₄ : List ℕ
  said₄ = said₃ ++ blank

  abbrev said₅ : List ℕ
  said₅ = said₄ ++ way_text r.threshold

module _ (o : List ℕ) (at : ℕ) (r : Reasons) (room : at + length (reasons_text r) ≤ length o) where
  up₅ : at + length (said₅ r) ≤ length o
  unfolding reasons_text
  up₅ = room_first o at (said₅ r) feed room

  up₄ : at + length (said₄ r) ≤ length o
  up₄ = room_first o at (said₄ r) (way_text r.threshold) up₅

  up₃ : at + length (said₃ r) ≤ length o
  up₃ = room_first o at (said₃ r) blank up₄

  up₂ : at + length (said₂ r) ≤ length o
  up₂ = room_first o at (said₂ r) (flag_text r.flag) up₃

  pub said_room₁ : at + length (decimal_of r.number) ≤ length o
  said_room₁ = room_first o at (said₁ r) blank up₂

  module _ {a : ℕ} {o₁ : List ℕ} (p₁ : Puts o at (decimal_of r.number) a o₁) where
    pub said_room₂ : a + 1 ≤ length o₁
    said_room₂ = room_second o at (said₁ r) blank up₂ p₁

    module _ {b : ℕ} {o₂ : List ℕ} (p₂ : Puts o₁ a blank b o₂) where
      to₂ : Puts o at (said₂ r) b o₂
      to₂ = puts_both o at (said₁ r) blank up₂ p₁ p₂

      pub said_room₃ : b + length (flag_text r.flag) ≤ length o₂
      said_room₃ = room_second o at (said₂ r) (flag_text r.flag) up₃ to₂

      module _ {c : ℕ} {o₃ : List ℕ} (p₃ : Puts o₂ b (flag_text r.flag) c o₃) where
        to₃ : Puts o at (said₃ r) c o₃
        to₃ = puts_both o at (said₂ r) (flag_text r.flag) up₃ to₂ p₃

        pub said_room₄ : c + 1 ≤ length o₃
        said_room₄ = room_second o at (said₃ r) blank up₄ to₃

        module _ {d : ℕ} {o₄ : List ℕ} (p₄ : Puts o₃ c blank d o₄) where
          to₄ : Puts o at (said₄ r) d o₄
          to₄ = puts_both o at (said₃ r) blank up₄ to₃ p₄

          pub said_room₅ : d + length (way_text r.threshold) ≤ length o₄
          said_room₅ = room_second o at (said₄ r) (way_text r.threshold) up₅ to₄

          module _ {e : ℕ} {o₅ : List ℕ} (p₅ : Puts o₄ d (way_text r.threshold) e o₅) where
            to₅ : Puts o at (said₅ r) e o₅
            to₅ = puts_both o at (said₄ r) (way_text r.threshold) up₅ to₄ p₅

            pub said_room₆ : e + 1 ≤ length o₅
            unfolding reasons_text
            said_room₆ = room_second o at (said₅ r) feed room to₅

            pub said_puts : {f : ℕ} {o₆ : List ℕ} → Puts o₅ e feed f o₆ → Puts o at (reasons_text r) f o₆
            unfolding reasons_text
            said_puts p₆ = puts_both o at (said₅ r) feed room to₅ p₆
