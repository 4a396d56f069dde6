use Rattle.bounds.proofs.NodesSize.{resolved-short}
use Rattle.bounds.proofs.resolved_rows_are_short.Goals as goal

pub returns : goal.returns
returns c = resolved-short
