-- What a frame is answered by the explainer: the answer, why, and the run after it. Assumes nothing.
use Rattle.detector.specs.Answer.{Answer}
use Rattle.why.specs.Why.{Why}
use Rattle.why.specs.declared.Explainer.{Explainer}

pub record Explained : Type 0 where
  pub answer : Answer
  pub why : Why
  pub next : Explainer
