-- Proof of `params_of`.
use Rattle.parser.proofs.Params.{params_none, params_some}
use Rattle.parser.proofs.list.params_of.Goals as goal

pub returns-in-Some : goal.returns-in-Some
returns-in-Some c = params_none c.args.out.now c.in-Some.ensures

pub returns : goal.returns
returns c = params_some c.args.text.now c.args.out.now c.list_of.new.out c.list_of.result c.in_default.ensures c.list_of.ensures
