-- The theorem that stands on the contract of `deep_attained`, from Deepest.
use Rattle.grammar.proofs.Deepest.{deep_is_attained}
use Rattle.grammar.proofs.deep_attained.Goals as goal

pub returns : goal.returns
returns c = deep_is_attained
