-- `teller::tell` is what a line is told, and the run that the explainer is left in. Assumes nothing.
use mathlib.Core.Path.{ap₂}
use Rattle.why.specs.Why.{Why}
use Rattle.teller.specs.declared.Hearing.{Hearing}
use Rattle.teller.specs.Told.{Told, told_in}
use Rattle.teller.specs.Run.{next_of}
use Rattle.teller.proofs.tell.Goals as goal

abbrev made : Why → Hearing → Told
made w h = record { why = w; next = h }

pub returns : goal.returns
unfolding next_of told_in
returns c = ap₂ made c.told-why.ensures.value c.told-why.ensures.run_after
