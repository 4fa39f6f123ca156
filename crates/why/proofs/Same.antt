-- What a result of `explain` stands for tells it: two results that stand for the same are the same. Assumes nothing.
use Rattle.std.proofs.Common.{◌≡◌, ap, arith}
use Rattle.std.specs.Prelude.{Result, Ok, Err}
use Rattle.refusals.proofs.Laws.{number_digit, same_number}
use Rattle.detector.specs.declared.Accepted.{Accepted}
use Rattle.detector.specs.Answer.{Answer}
use Rattle.detector.specs.Step.{refused_of}
use Rattle.detector.specs.Result.{accepted_in}
use Rattle.why.specs.Why.{Why}
use Rattle.why.specs.declared.Reasons.{Reasons}
use Rattle.why.specs.declared.Explained as code
use Rattle.why.specs.declared.Denied.{Denied}
use Rattle.why.specs.Explained.{Explained}
use Rattle.why.specs.Explain.{denied_of}
use Rattle.why.specs.Result.{explained_in}

-- the accepted frame that an answer is of
back : Answer → Accepted
back r = record { next = r.next; vad = r.vad; vvad = r.vvad; stat = r.stat; acf0 = r.acf0; pvad = r.pvad }

-- the reasons that a frame is told, and else those at hand
reasons_in : Reasons → Why → Reasons
reasons_in r (Why.Refused n) = r
reasons_in r (Why.Because x) = x

whole : (x y : code.Explained) → x.answer ≡ y.answer → x.reasons ≡ y.reasons → x.next ≡ y.next → x ≡ y
whole x y a r n = rw (a, r, n)

both : (x y : Denied) → x.refusal ≡ y.refusal → x.explainer ≡ y.explainer → x ≡ y
both x y r e = rw (r, e)

pub same_explained : (r q : Result code.Explained Denied) → explained_in r ≡ explained_in q → r ≡ q
unfolding explained_in denied_of refused_of back reasons_in
same_explained (Ok x) (Ok y) e =
    ap Ok (whole x y (ap (λ (z : Explained). back z.answer) e) (ap (λ (z : Explained). reasons_in x.reasons z.why) e) (ap (λ (z : Explained). z.next) e))
same_explained (Ok x) (Err d) e = let n = ap (λ (z : Explained). z.answer.refusal) e in let t = number_digit d.refusal in absurd (omega arith)
same_explained (Err d) (Ok x) e = let n = ap (λ (z : Explained). z.answer.refusal) e in let t = number_digit d.refusal in absurd (omega arith)
same_explained (Err c) (Err d) e =
    ap Err (both c d (same_number c.refusal d.refusal (ap (λ (z : Explained). z.answer.refusal) e)) (ap (λ (z : Explained). z.next) e))
