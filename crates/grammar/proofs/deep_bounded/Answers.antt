-- The theorem that stands on the contract of `deep_bounded`, from Depth.
use Rattle.grammar.proofs.Depth.{deep-bound}
use Rattle.grammar.proofs.deep_bounded.Goals as goal

pub returns : goal.returns
returns c = deep-bound
