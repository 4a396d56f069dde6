-- Proof of `text_to`.
use Rattle.parser.proofs.Listing.{text_did}
use Rattle.parser.proofs.list.text_to.Goals as goal

pub returns : goal.returns
returns c = text_did c.in_ok-w.w.now c.requires.ready.short c.in_ok-w.ensures c.in_ok-rest.ensures c.put_text.ensures
