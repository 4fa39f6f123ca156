-- The answer that a call's result stands for: number 0 with the flags and energies, or the number of its refusal by itself. Assumes nothing.
use Rattle.std.specs.Prelude.{Result, Ok, Err}
use Rattle.refusals.specs.declared.Refusal.{Refusal}
use Rattle.refusals.specs.Refusal.{number_of}
use Rattle.card.specs.declared.Called as code
use Rattle.card.specs.Called.{Called}
use Rattle.card.specs.Card.{number_only}

unfoldable pub called_in : Result code.Called Refusal → Called
called_in (Ok c) = record { refusal = 0; vad = c.vad; vvad = c.vvad; stat = c.stat; acf0 = c.acf0; pvad = c.pvad }
called_in (Err refusal) = number_only (number_of refusal)
