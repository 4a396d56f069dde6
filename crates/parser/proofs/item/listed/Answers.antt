-- Proof of `listed`.
use Rattle.rows.specs.Kinds.{item_kind_no}
use Rattle.parser.proofs.Items.{listed-did}
use Rattle.parser.proofs.item.listed.Goals as goal

pub returns : goal.returns
returns c = listed-did c.args.used c.args.x.now (item_kind_no c.list_kind.result) c.list_kind.ensures c.open_item.ensures c.put.ensures c.in_ok-count.ensures c.set.ensures c.close_item.ensures
