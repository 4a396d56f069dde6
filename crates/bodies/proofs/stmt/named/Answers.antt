-- Proof of `named`.
use Rattle.bodies.proofs.Statements.{set-did, named_other}
use Rattle.bodies.proofs.stmt.named.Goals as goal

pub returns-in-Some : goal.returns-in-Some
returns-in-Some c = set-did c.args.x.now c.requires.begins c.in-Some.ensures c.in_ok-rest.ensures c.put_named.ensures

pub returns : goal.returns
returns c = named_other c.args.x.now c.args.out.now c.with_semi.new.out c.with_semi.result c.requires.begins c.in_default.ensures c.in_default-eat.ensures c.with_semi.ensures
