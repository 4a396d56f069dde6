use Rattle.steps.proofs.FitsHold.{fits_hold}
use Rattle.steps.proofs.steps_fit.Goals as goal

pub returns : goal.returns
returns c = fits_hold
