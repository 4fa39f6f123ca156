-- What a line is told, in words with one blank between, and a line feed: `refused` and its number; or the frame's number, the reason of its flag and
-- that of its threshold, each its word and the number that it carries, if it does. Characters are their ASCII codes: 32 is the blank, 10 the line
-- feed. Assumes nothing.
use Rattle.std.specs.Prelude.{List, [], ◌∷◌, ◌++◌, ℕ, ℤ, nat_abs}
use Rattle.threshold.specs.declared.Way.{Way}
use Rattle.why.specs.declared.Flag.{Flag}
use Rattle.why.specs.declared.Reasons.{Reasons}
use Rattle.why.specs.Why.{Why}
use Rattle.why.specs.Fits.{flag_case, way_case}
use Rattle.teller.specs.Decimal.{decimal_of}

-- `refused`
abbrev pub refused : List ℕ
refused = 114 ∷ 101 ∷ 102 ∷ 117 ∷ 115 ∷ 101 ∷ 100 ∷ []

-- `energy`, `hangover`, `quiet`
unfoldable pub flag_word : Flag → List ℕ
flag_word Flag.Energy = 101 ∷ 110 ∷ 101 ∷ 114 ∷ 103 ∷ 121 ∷ []
flag_word (Flag.Hangover n) = 104 ∷ 97 ∷ 110 ∷ 103 ∷ 111 ∷ 118 ∷ 101 ∷ 114 ∷ []
flag_word Flag.Quiet = 113 ∷ 117 ∷ 105 ∷ 101 ∷ 116 ∷ []

-- `floor`, `periodic`, `unsteady`, `tone`, `waiting`, `adapted`
unfoldable pub way_word : Way → List ℕ
way_word Way.Floor = 102 ∷ 108 ∷ 111 ∷ 111 ∷ 114 ∷ []
way_word Way.Periodic = 112 ∷ 101 ∷ 114 ∷ 105 ∷ 111 ∷ 100 ∷ 105 ∷ 99 ∷ []
way_word Way.Unsteady = 117 ∷ 110 ∷ 115 ∷ 116 ∷ 101 ∷ 97 ∷ 100 ∷ 121 ∷ []
way_word Way.Tone = 116 ∷ 111 ∷ 110 ∷ 101 ∷ []
way_word (Way.Waiting k) = 119 ∷ 97 ∷ 105 ∷ 116 ∷ 105 ∷ 110 ∷ 103 ∷ []
way_word Way.Adapted = 97 ∷ 100 ∷ 97 ∷ 112 ∷ 116 ∷ 101 ∷ 100 ∷ []

-- the numbers that a case carries, each after a blank
unfoldable pub values_text : List ℤ → List ℕ
values_text [] = []
values_text (v ∷ vs) = 32 ∷ (decimal_of (nat_abs v) ++ values_text vs)

unfoldable pub flag_text : Flag → List ℕ
flag_text f = flag_word f ++ values_text (flag_case f).values

unfoldable pub way_text : Way → List ℕ
way_text w = way_word w ++ values_text (way_case w).values

unfoldable pub reasons_text : Reasons → List ℕ
reasons_text r = decimal_of r.number ++ (32 ∷ []) ++ flag_text r.flag ++ (32 ∷ []) ++ way_text r.threshold ++ (10 ∷ [])

unfoldable pub text_of : Why → List ℕ
text_of (Why.Refused n) = refused ++ (32 ∷ []) ++ decimal_of n ++ (10 ∷ [])
text_of (Why.Because r) = reasons_text r

-- the most bytes of a text: those of `4294967295 hangover 4294967295 waiting 8` and a line feed
abbrev pub most : ℕ
most = 41
