-- Proof of `input`.
use Rattle.bodies.proofs.Expressions.{input-did}
use Rattle.bodies.proofs.expr.input.Goals as goal

pub returns : goal.returns
returns c = input-did c.in_ok-rest.ensures c.in_ok-rest-2.ensures c.put.ensures
