-- The theorem that stands on the contract of `further`, from TextLaws.
use Rattle.grammar.proofs.TextLaws.{further}
use Rattle.grammar.proofs.further.Goals as goal

pub returns : goal.returns
returns c = further
