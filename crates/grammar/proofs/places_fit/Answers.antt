-- The theorem that stands on the contract of `places_fit`, from Budget.
use Rattle.grammar.proofs.Budget.{places-fit}
use Rattle.grammar.proofs.places_fit.Goals as goal

pub returns : goal.returns
returns c = places-fit
