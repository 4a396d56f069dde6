use Rattle.rows.proofs.TreeNodes.{bodies-nodes}
use Rattle.rows.proofs.bodies_are_nodes.Goals as goal

pub returns : goal.returns
returns c = bodies-nodes
