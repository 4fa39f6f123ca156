-- Orders one after the other, from a bank on; and what a channel has heard: its own accepted frames since its own last reset, in their order.
-- Assumes nothing.
use Rattle.std.specs.Prelude.{◌&&◌, List, [], ◌∷◌, ◌++◌, ℕ, eqb, replicate}
use Rattle.rows.specs.Choice.{IF◌THEN◌ELSE◌}
use Rattle.frames.specs.Frame.{Frame}
use Rattle.state.specs.declared.State.{State}
use Rattle.state.specs.Valid.{reset_of}
use Rattle.card.specs.Card.{Order, call, reset, channel_of, answer_of, bank_after}

-- n channels, all reset
unfoldable pub all_reset : ℕ → List State
all_reset n = replicate n reset_of

unfoldable pub bank_from : List State → List Order → List State
bank_from bank [] = bank
bank_from bank (o ∷ os) = bank_from (bank_after bank o) os

-- the frames of the calls on channel i that were accepted since its last reset, after those that were there before
unfoldable pub heard_from : List State → ℕ → List Frame → List Order → List Frame
heard_from bank i fs [] = fs
heard_from bank i fs (call j f ∷ os) =
    heard_from (bank_after bank (call j f)) i (IF eqb j i && eqb (answer_of bank (call j f)).refusal 0 THEN fs ++ (f ∷ []) ELSE fs) os
heard_from bank i fs (reset j ∷ os) = heard_from (bank_after bank (reset j)) i (IF eqb j i THEN [] ELSE fs) os

-- what channel i has heard in all of them
unfoldable pub heard : List State → ℕ → List Order → List Frame
heard bank i os = heard_from bank i [] os

-- the orders on channel i alone
unfoldable pub orders_on : ℕ → List Order → List Order
orders_on i [] = []
orders_on i (o ∷ os) = IF eqb (channel_of o) i THEN o ∷ orders_on i os ELSE orders_on i os
