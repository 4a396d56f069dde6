-- The theorem that stands on the contract of `words_bounded`, from Size.
use Rattle.grammar.proofs.Size.{words-bound}
use Rattle.grammar.proofs.words_bounded.Goals as goal

pub returns : goal.returns
returns c = words-bound
