use Rattle.bounds.proofs.CoreNodes.{core-nodes}
use Rattle.bounds.proofs.core_nodes_are_plain.Goals as goal

pub returns : goal.returns
returns c = core-nodes
