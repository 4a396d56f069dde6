use Rattle.lower.proofs.Samples.{worked}
use Rattle.lower.proofs.worked_images.Goals as goal

pub returns : goal.returns
returns c = worked
