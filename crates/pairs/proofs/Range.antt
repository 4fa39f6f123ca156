-- Ranges of pairs: a normalised mantissa, and an exponent between two ends. Assumes nothing.
use lib.IntN.{ℤ, pos}
use lib.Signed.{◌≤ℤ◌}
use Rattle.numbers.proofs.Parts.{zarith}
use Rattle.pairs.specs.declared.Pair.{Pair}

pub record Mantissa (m : ℤ) : Type 0 where
  pub low : pos 16384 ≤ℤ m
  pub high : m ≤ℤ pos 32767

pub record Ranged (lo hi : ℤ) (p : Pair) : Type 0 where
  pub e_low : lo ≤ℤ p.e
  pub e_high : p.e ≤ℤ hi
  pub mantissa : Mantissa p.m

-- a wider range
pub widened : (lo hi lo' hi' : ℤ) {p : Pair} → lo' ≤ℤ lo → hi ≤ℤ hi' → Ranged lo hi p → Ranged lo' hi' p
widened lo hi lo' hi' {p} a b r = record { e_low = omega (zarith, r.e_low); e_high = omega (zarith, r.e_high); mantissa = r.mantissa }
