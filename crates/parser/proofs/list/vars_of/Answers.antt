-- Proof of `vars_of`.
use Rattle.parser.proofs.Listing.{vars-none, vars-some}
use Rattle.parser.proofs.list.vars_of.Goals as goal

pub returns-in_default : goal.returns-in_default
returns-in_default c = vars-none c.args.text.now c.args.out.now c.in_default.ensures

pub returns : goal.returns
returns c = vars-some c.args.out.now c.list_of.new.out c.list_of.result c.in-Some.ensures c.list_of.ensures
