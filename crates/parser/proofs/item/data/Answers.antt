-- Proof of `data`.
use Rattle.std.proofs.Common.{◌∙◌}
use Rattle.parser.proofs.Items.{byte_is, data_did}
use Rattle.parser.proofs.item.data.Goals as goal

pub returns : goal.returns
returns c = data_did c.args.wide c.args.x.now c.from.result (c.from.ensures ∙ byte_is c.args.wide) c.requires.some c.open_item.ensures c.put_all.ensures c.in_ok-count.ensures c.set.ensures c.close_item.ensures
