-- Proof of `sized`.
use Rattle.std.proofs.Common.{◌∙◌}
use Rattle.parser.proofs.Items.{byte_is, sized-did}
use Rattle.parser.proofs.item.sized.Goals as goal

pub returns : goal.returns
returns c = sized-did c.args.wide c.args.x.now c.in_ok-n.n c.from.result (c.from.ensures ∙ byte_is c.args.wide) c.in_ok-n.ensures c.open_item.ensures c.put.ensures c.put_num.ensures c.close_item.ensures
