-- The theorem that stands on the contract of `worked_texts`, from Samples.
use Rattle.grammar.proofs.Samples.{worked_texts_hold}
use Rattle.grammar.proofs.worked_texts.Goals as goal

pub returns : goal.returns
returns c = worked_texts_hold
