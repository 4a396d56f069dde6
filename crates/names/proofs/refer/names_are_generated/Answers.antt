use Rattle.names.proofs.Referents.{generated}
use Rattle.names.proofs.refer.names_are_generated.Goals as goal

pub returns : goal.returns
returns c = generated
