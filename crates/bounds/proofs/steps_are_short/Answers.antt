use Rattle.bounds.proofs.StepsSize.{steps-short}
use Rattle.bounds.proofs.steps_are_short.Goals as goal

pub returns : goal.returns
returns c = steps-short
