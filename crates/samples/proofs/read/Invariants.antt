-- `samples::read` reads the samples that are there, 160 at most, and leaves zeros after them. Assumes nothing.
use Rattle.std.proofs.Common.{◌≡◌, length, take, drop, replicate, pos}
use Rattle.rows.specs.Rows.{first_of}
use Rattle.samples.specs.Samples.{samples_of}
use Rattle.samples.proofs.read.Given as goal

abbrev pub invariant-loop-k : goal.invariant-loop-k
invariant-loop-k l = (length l.sof ≡ 160) × (take l.k l.sof ≡ first_of l.k (pos 0) (samples_of l.bytes)) × (drop l.k l.sof ≡ drop l.k (replicate 160 (pos 0)))
