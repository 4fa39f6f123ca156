-- What a result of the code stands for tells it: two results with the same answer are the same. Assumes nothing.
use Rattle.std.proofs.Common.{◌≡◌, ap, arith}
use Rattle.std.specs.Prelude.{Result, Ok, Err}
use Rattle.refusals.proofs.Laws.{number_digit, same_number}
use Rattle.detector.specs.declared.Accepted.{Accepted}
use Rattle.detector.specs.declared.Refused.{Refused}
use Rattle.detector.specs.Answer.{Answer}
use Rattle.detector.specs.Step.{refused_of}
use Rattle.detector.specs.Result.{answer_of}

-- the accepted frame that an answer is of
back : Answer → Accepted
back r = record { vad = r.vad; vvad = r.vvad; stat = r.stat; acf0 = r.acf0; pvad = r.pvad; next = r.next }

both : (r q : Refused) → r.refusal ≡ q.refusal → r.state ≡ q.state → r ≡ q
both r q e f = rw (e, f)

pub same_answer : (r q : Result Accepted Refused) → answer_of r ≡ answer_of q → r ≡ q
unfolding answer_of refused_of back
same_answer (Ok a) (Ok b) e = ap (λ (x : Answer). Ok (back x)) e
same_answer (Ok a) (Err q) e = let n = ap (λ (x : Answer). x.refusal) e in let d = number_digit q.refusal in absurd (omega arith)
same_answer (Err r) (Ok b) e = let n = ap (λ (x : Answer). x.refusal) e in let d = number_digit r.refusal in absurd (omega arith)
same_answer (Err r) (Err q) e =
    ap Err (both r q (same_number r.refusal q.refusal (ap (λ (x : Answer). x.refusal) e)) (ap (λ (x : Answer). x.next) e))
