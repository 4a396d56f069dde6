-- The theorem that stands on the contract of `image_fits`, from Budget.
use Rattle.grammar.proofs.Budget.{image-fits}
use Rattle.grammar.proofs.image_fits.Goals as goal

pub returns : goal.returns
returns c = image-fits
