-- The answer that a result of the code stands for: an accepted frame has number 0, and a refused one the number of its refusal, flags 0 and stat false,
-- energies 0 in both parts, and the state that is handed back. Assumes nothing.
use Rattle.std.specs.Prelude.{Result, Ok, Err}
use Rattle.refusals.specs.Refusal.{number_of}
use Rattle.detector.specs.declared.Accepted.{Accepted}
use Rattle.detector.specs.declared.Refused.{Refused}
use Rattle.detector.specs.Answer.{Answer}
use Rattle.detector.specs.Step.{refused_of}

abbrev pub accepted_in : Accepted → Answer
accepted_in a = record { refusal = 0; vad = a.vad; vvad = a.vvad; stat = a.stat; acf0 = a.acf0; pvad = a.pvad; next = a.next }

abbrev pub refused_in : Refused → Answer
refused_in r = refused_of (number_of r.refusal) r.state

unfoldable pub answer_of : Result Accepted Refused → Answer
answer_of (Ok accepted) = accepted_in accepted
answer_of (Err refused) = refused_in refused
