use Rattle.lower.proofs.Correct.{compiled_fits}
use Rattle.lower.proofs.images_fit.Goals as goal

pub returns : goal.returns
returns c = compiled_fits
