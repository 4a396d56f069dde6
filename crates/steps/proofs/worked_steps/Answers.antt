use Rattle.steps.proofs.Samples.{worked}
use Rattle.steps.proofs.worked_steps.Goals as goal

pub returns : goal.returns
returns c = worked
