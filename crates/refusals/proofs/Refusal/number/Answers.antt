-- `Refusal::number` is the variant's own number, and no other variant has it. Assumes nothing.
use Rattle.std.proofs.Common.{◌≡◌, ◌+◌, refl, ◌∙◌}
use denote.Enum.Declared.{tag_of}
use Rattle.refusals.specs.contracts.Refusal.{the_type}
use Rattle.refusals.specs.Refusal.{number_of}
use Rattle.refusals.specs.declared.Refusal.{Refusal}
use Rattle.refusals.specs.declared.Refusal.TheVariants.{Length, Scale, Numbers, Lag, State, Malformed, Limit, Samples, Channel}
use Rattle.refusals.proofs.Laws.{same_number}
use Rattle.refusals.proofs.Refusal.number.Goals as goal

tag_is : (r : Refusal) → tag_of the_type r + 1 ≡ number_of r
unfolding number_of
tag_is Length = refl
tag_is Scale = refl
tag_is Numbers = refl
tag_is Lag = refl
tag_is State = refl
tag_is Malformed = refl
tag_is Limit = refl
tag_is Samples = refl
tag_is Channel = refl

pub returns-clause-value : goal.returns-clause-value
returns-clause-value c = tag_is c.args.self

pub returns-clause-own : goal.returns-clause-own
returns-clause-own c other e = same_number other c.args.self (e ∙ tag_is c.args.self)
