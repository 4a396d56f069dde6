-- The theorem of the fold.
use Rattle.generator.proofs.EmitStmt.{emits_body}
use Rattle.generator.proofs.nodes_make_steps.Goals as goal

pub returns : goal.returns
returns c = emits_body
