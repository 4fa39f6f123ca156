-- `lines::worth` gives the worth of a digit: 0..9 stand from 48 on, and A..F from 65 on. Assumes nothing.
use Rattle.std.proofs.Common.{◌≡◌, ℕ, ◌+◌, ◌*◌, ◌/◌, ◌%◌, arith}
use Rattle.lines.specs.Hex.{value_of}
use Rattle.lines.proofs.Digits.{Digit, low, high, of_value, hex_value}
use Rattle.lines.proofs.worth.Goals as goal

worth_of : (b v : ℕ) → Digit b v → b % 16 + 9 * (b / 64) ≡ v
worth_of b v (low e h) = omega arith
worth_of b v (high e h l) = omega arith

pub returns : goal.returns
returns c = worth_of c.args.b (value_of c.args.b) (of_value c.args.b (hex_value c.args.b c.requires))
