-- Proof of `indexed`.
use Rattle.bodies.proofs.Statements.{store_did, index_ex_did}
use Rattle.bodies.proofs.stmt.indexed.Goals as goal

pub returns-in-Some : goal.returns-in-Some
returns-in-Some c = store_did c.args.x.now c.requires.some c.in_ok-rest.ensures c.in_ok-rest-2.ensures c.in-Some.ensures c.in_ok-rest-3.ensures c.put_named.ensures

pub returns : goal.returns
returns c = index_ex_did c.args.x.now c.requires.some c.in_ok-rest.ensures c.in_ok-rest-2.ensures c.in_default.ensures c.put_named-2.ensures c.in_ok-rest-4.ensures c.in_ok-rest-5.ensures c.put.ensures
