-- What a result of `call` stands for tells it: two results that stand for the same are the same. Assumes nothing.
use Rattle.std.proofs.Common.{◌≡◌, ap, arith}
use Rattle.std.specs.Prelude.{Result, Ok, Err}
use Rattle.refusals.specs.declared.Refusal.{Refusal}
use Rattle.refusals.proofs.Laws.{number_digit, same_number}
use Rattle.card.specs.declared.Called as code
use Rattle.card.specs.Called.{Called}
use Rattle.card.specs.Card.{number_only}
use Rattle.card.specs.Result.{called_in}

-- the answer to an accepted frame
back : Called → code.Called
back c = record { vad = c.vad; vvad = c.vvad; stat = c.stat; acf0 = c.acf0; pvad = c.pvad }

pub same_called : (r q : Result code.Called Refusal) → called_in r ≡ called_in q → r ≡ q
unfolding called_in number_only back
same_called (Ok a) (Ok b) e = ap (λ (x : Called). Ok (back x)) e
same_called (Ok a) (Err q) e = let n = ap (λ (x : Called). x.refusal) e in let d = number_digit q in absurd (omega arith)
same_called (Err r) (Ok b) e = let n = ap (λ (x : Called). x.refusal) e in let d = number_digit r in absurd (omega arith)
same_called (Err r) (Err q) e = ap Err (same_number r q (ap (λ (x : Called). x.refusal) e))
