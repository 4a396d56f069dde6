-- The contract of further: Further.
use Rattle.language.proofs.Safe.{further}
use Rattle.language.proofs.further.Goals as goal

pub returns : goal.returns
returns c = further
