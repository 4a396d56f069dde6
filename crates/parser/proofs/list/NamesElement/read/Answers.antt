-- Proof of `read`.
use Rattle.parser.proofs.Listing.{names_read}
use Rattle.parser.proofs.list.NamesElement.read.Goals as goal

pub returns : goal.returns
returns c = names_read c.args.self.local c.args.text.now c.expect_name.result c.expect_name.ensures
