-- `Formed::lags` reads the four lags as one number, whose bytes they are. Assumes nothing.
use Rattle.std.proofs.Common.{◌≡◌, ℕ, ◌+◌, ◌*◌, ◌/◌, ◌%◌, ◌<◌, ◌≤◌, true, List, [], ◌∷◌, get_or, length, take, drop, sym, ap, ◌∙◌, arith, length-drop, drop-drop, rules, subst}
use Rattle.rows.specs.Rows.{row, all}
use Rattle.lines.specs.Hex.{hex_of, number_of}
use Rattle.lines.specs.Line.{field_at}
use Rattle.lines.proofs.Digits.{number_more}
use Rattle.lines.proofs.Fields.{formed, field_hex, field_lt}
use Rattle.lines.proofs.Formed.lags.Goals as goal
use Rattle.lines.proofs.Formed.lags.Goals.{After-unwrap-digits}

-- a number of four bytes
module _ (x a b c d : ℕ) (e : x ≡ ((a * 256 + b) * 256 + c) * 256 + d) (ha : a < 256) (hb : b < 256) (hc : c < 256) (hd : d < 256) where
  bytes : ◌≡◌ {A = List ℕ} (x / 0x100_0000 % 0x100 ∷ x / 0x1_0000 % 0x100 ∷ x / 0x100 % 0x100 ∷ x % 0x100 ∷ []) (a ∷ b ∷ c ∷ d ∷ [])
  bytes =
      let y : x / 0x100 ≡ (a * 256 + b) * 256 + c = omega arith in
      let z : x / 0x1_0000 ≡ a * 256 + b = omega arith in
      let w : x / 0x100_0000 ≡ a = omega arith in
      let p : x / 0x100_0000 % 0x100 ≡ a = omega arith in
      let q : x / 0x1_0000 % 0x100 ≡ b = omega arith in
      let r : x / 0x100 % 0x100 ≡ c = omega arith in
      let s : x % 0x100 ≡ d = omega arith in
      rw (p, q, r, s)

-- two digits more
more : (l : List ℕ) (i : ℕ) → 2 * i + 2 ≤ length l → number_of (take (2 * i + 2) l) ≡ number_of (take (2 * i) l) * 256 + field_at 2 l i
unfolding field_at
more l i h = number_more (2 * i) 2 l h

-- a lag is a byte
module _ (c : After-unwrap-digits) where
  abbrev line : List ℕ
  line = c.args.self.line.now

  eight : c.unwrap-digits.result.now ≡ take 8 (drop 73 line)
  eight = search rules

  lag_lt : (i : ℕ) → i < 4 → field_at 2 (drop 73 line) i < 256
  unfolding field_at
  lag_lt i h =
      let e = ap (λ (x : List ℕ). number_of (take 2 x)) (drop-drop (2 * i) 73 line) in
      omega (arith, e, field_lt line c.args.self.formed (73 + 2 * i) 2 (omega arith))

pub number-requires : goal.number-requires
number-requires c = subst (λ (x : List ℕ). all hex_of x ≡ true) (sym (eight c)) (field_hex c.args.self.line.now c.args.self.formed 73 8 (omega arith))

pub returns : goal.returns
unfolding row number_of
returns c =
    let r = (goal.at.returns c).After-unwrap-digits in
    let s = (formed (line r) c.args.self.formed).size in
    let L = drop 73 (line r) in
    let n : length L ≡ 9 = simp length-drop (omega arith) in
    let x = c.number.result in
    let e : x ≡ ((field_at 2 L 0 * 256 + field_at 2 L 1) * 256 + field_at 2 L 2) * 256 + field_at 2 L 3 = omega (arith, c.number.ensures, ap number_of (eight r), more L 0 (omega arith), more L 1 (omega arith), more L 2 (omega arith), more L 3 (omega arith)) in
    let b = c.to_be_bytes.ensures in
    let at = λ (i : ℕ). ap (λ (v : List ℕ). get_or v i 0) b in
    let p = c.from.ensures ∙ at 0 in
    let q = c.from-2.ensures ∙ at 1 in
    let u = c.from-3.ensures ∙ at 2 in
    let v = c.from-4.ensures ∙ at 3 in
    rw (p, q, u, v) (bytes x (field_at 2 L 0) (field_at 2 L 1) (field_at 2 L 2) (field_at 2 L 3) e (lag_lt r 0 (omega arith)) (lag_lt r 1 (omega arith)) (lag_lt r 2 (omega arith)) (lag_lt r 3 (omega arith)))
