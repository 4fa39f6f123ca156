-- What is asked of a card's run. `run_asked` in `proofs/Orders.antt` shows it. Assumes nothing.
use Rattle.std.specs.Prelude.{◌≡◌, true, false, ◌&&◌, List, [], ◌∷◌, ◌++◌, ℕ, ◌<◌, ◌≤◌, eqb, length, drop}
use Rattle.rows.specs.Choice.{IF◌THEN◌ELSE◌}
use Rattle.state.specs.declared.State.{State}
use Rattle.state.specs.Valid.{reset_of}
use Rattle.runner.specs.Run as trace
use Rattle.card.specs.Card.{Order}
use Rattle.card.specs.History.{all_reset, bank_from}
use Rattle.exchange.specs.Line.{channel_in, calls_of, orderly, order_in}
use Rattle.exchange.specs.Run.{channels, reply_of, write_of, bank_of}

-- the orders of some lines: those of the well-formed ones
unfoldable pub orders_of : List (List ℕ) → List Order
orders_of [] = []
orders_of (l ∷ ls) = IF orderly l THEN order_in l ∷ orders_of ls ELSE orders_of ls

-- the frames on channel i since its last reset, each as the line of a trace, which is the card's line without its channel; after those that were there
-- before
unfoldable pub lines_from : ℕ → List (List ℕ) → List (List ℕ) → List (List ℕ)
lines_from i ts [] = ts
lines_from i ts (l ∷ ls) = lines_from i (IF orderly l && eqb (channel_in l) i THEN IF calls_of l THEN ts ++ (drop 2 l ∷ []) ELSE [] ELSE ts) ls

unfoldable pub lines_on : ℕ → List (List ℕ) → List (List ℕ)
lines_on i ls = lines_from i [] ls

pub record RunAsked : Type 0 where
  -- `600` for a malformed line
  pub six : (bank : List State) (l : List ℕ) → orderly l ≡ false → write_of bank l ≡ 54 ∷ 48 ∷ 48 ∷ 10 ∷ []
  -- `900` for a well-formed one whose channel is above 63, whatever follows
  pub nine : (bank : List State) (l : List ℕ) → length bank ≡ channels → orderly l ≡ true → channels ≤ channel_in l → write_of bank l ≡ 57 ∷ 48 ∷ 48 ∷ 10 ∷ []
  -- `000` for a reset
  pub zeros : (bank : List State) (l : List ℕ) → length bank ≡ channels → orderly l ≡ true → calls_of l ≡ false → channel_in l < channels → write_of bank l ≡ 48 ∷ 48 ∷ 48 ∷ 10 ∷ []
  -- a call is answered as `run_trace` answers the line of its frame, after the frames of its channel since its own last reset, whatever else there was
  pub alone : (ls : List (List ℕ)) (l : List ℕ) → orderly l ≡ true → calls_of l ≡ true → channel_in l < channels
      → reply_of (bank_of (all_reset channels) ls) l ≡ trace.reply_of (trace.state_of reset_of (lines_on (channel_in l) ls)) (drop 2 l)
  -- and the bank that lines leave is the one that their orders leave: so what is asked of a card, in `card/specs/Asked.antt`, is true of them
  pub orders : (bank : List State) (ls : List (List ℕ)) → bank_of bank ls ≡ bank_from bank (orders_of ls)
