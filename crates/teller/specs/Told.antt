-- What a line is told, and the run after it. Assumes nothing.
use Rattle.why.specs.Why.{Why, why_in}
use Rattle.teller.specs.declared.Hearing.{Hearing}
use Rattle.teller.specs.declared.Told as code

pub record Told : Type 0 where
  pub why : Why
  pub next : Hearing

unfoldable pub told_in : code.Told → Told
told_in t = record { why = why_in t.why; next = t.next }
