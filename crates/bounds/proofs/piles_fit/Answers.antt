use Rattle.bounds.proofs.Made.{pile-fits}
use Rattle.bounds.proofs.piles_fit.Goals as goal

pub returns : goal.returns
returns c = pile-fits
