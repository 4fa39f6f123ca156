-- What a frame is told: a refused one is explained by its number only, and an accepted one by its reasons. Assumes nothing.
use Rattle.std.specs.Prelude.{ℕ, Result, Ok, Err}
use Rattle.refusals.specs.declared.Refusal.{Refusal}
use Rattle.refusals.specs.Refusal.{number_of}
use Rattle.why.specs.declared.Reasons.{Reasons}

pub data Why : Type 0 where
  Refused : ℕ → Why
  Because : Reasons → Why

-- what reasons, or a refusal, stand for
unfoldable pub why_in : Result Reasons Refusal → Why
why_in (Ok reasons) = Why.Because reasons
why_in (Err refusal) = Why.Refused (number_of refusal)
