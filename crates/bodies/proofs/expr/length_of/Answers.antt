-- Proof of `length_of`.
use Rattle.std.proofs.lemmas.Result.{MatchResult-from_err}
use Rattle.bodies.proofs.Expressions.{length-did, length-no-name}
use Rattle.bodies.proofs.expr.length_of.Goals as goal

pub returns-in_err-x : goal.returns-in_err-x
returns-in_err-x c = MatchResult-from_err c.from_residual-in_err-x.result _ _ c.from_residual-in_err-x.ensures.0 (λ y. length-no-name c.in_ok-rest.ensures c.in_err-x.ensures.0)

pub returns : goal.returns
returns c = length-did c.in_ok-x.x.now c.in_ok-rest.ensures c.in_ok-x.ensures c.in_ok-rest-2.ensures c.put_named.ensures
