-- The theorem that stands on the contract of `cut_samples`, from Samples.
use Rattle.grammar.proofs.Samples.{cut}
use Rattle.grammar.proofs.cut_samples.Goals as goal

pub returns : goal.returns
returns c = cut
