-- `stage_of_nodes`: the stage of nodes, node by node.
use Rattle.std.proofs.Common.{◌≡◌, max, arith, rules}
use Rattle.limits.specs.Body.{NodesLeft}
use Rattle.limits.specs.Stages.{node_stage, nodes_stage}
use Rattle.limits.proofs.EntryLaws.{fold_is}
use Rattle.limits.proofs.stages.stage_of_nodes.Goals as goal

pub returns : goal.returns
returns c = λ ts k. omega (arith, fold_is NodesLeft node_stage max (λ a b t j f' h q. search rules) (λ a us. nodes_stage ts ≡ max a (nodes_stage us)) (λ a t us p. omega arith) k (omega arith) c.fold.ensures.ran)
