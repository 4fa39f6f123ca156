-- `lines::is_hex`: a byte that wraps below its range is beyond it. Assumes nothing.
use Rattle.std.proofs.Common.{◌≡◌, ℕ, ◌+◌, ◌-◌, ◌%◌, ◌<◌, Bool, true, false, ◌||◌, ltb, leb, refl, arith, ltb-false, ltb-true, le-ltb, lt-ltb, leb-false, leb-true}
use Rattle.rows.specs.Choice.{IF◌THEN◌ELSE◌}
use Rattle.lines.specs.Hex.{value_of, hex_of}
use Rattle.lines.proofs.is_hex.Goals as goal

tests : (b x y : ℕ) → x < 256 → y < 256 → (x + 48) % 256 ≡ b → (y + 65) % 256 ≡ b → (ltb x 10 || ltb y 6) ≡ hex_of b
unfolding hex_of value_of IF◌THEN◌ELSE◌
tests b x y h k p q = go (ltb b 48) (leb b 57) (ltb b 65) (leb b 70) refl refl refl refl
  where
    go : (s t u v : Bool) → ltb b 48 ≡ s → leb b 57 ≡ t → ltb b 65 ≡ u → leb b 70 ≡ v → (ltb x 10 || ltb y 6) ≡ hex_of b
    go true t u v e f g l = let z = ltb-true b 48 e in rw (e, le-ltb x 10 (omega arith), le-ltb y 6 (omega arith))
    go false true u v e f g l =
        let z = ltb-false b 48 e in
        let w = leb-true b 57 f in
        rw (e, f, lt-ltb x 10 (omega arith), lt-ltb (b - 48) 16 (omega arith))
    go false false true v e f g l =
        let z = leb-false b 57 f in
        let w = ltb-true b 65 g in
        rw (e, f, g, le-ltb x 10 (omega arith), le-ltb y 6 (omega arith))
    go false false false true e f g l =
        let z = ltb-false b 65 g in
        let w = leb-true b 70 l in
        rw (e, f, g, l, le-ltb x 10 (omega arith), lt-ltb y 6 (omega arith), lt-ltb (b - 55) 16 (omega arith))
    go false false false false e f g l =
        let z = leb-false b 70 l in
        rw (e, f, g, l, le-ltb x 10 (omega arith), le-ltb y 6 (omega arith))

pub returns : goal.returns
returns c = tests c.args.b ((c.args.b + 208) % 256) ((c.args.b + 191) % 256) (omega arith) (omega arith) (omega (arith, c.ranges.b)) (omega (arith, c.ranges.b))
