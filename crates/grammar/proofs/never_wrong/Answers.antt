-- The theorem that stands on the contract of `never_wrong`, from TextLaws.
use Rattle.grammar.proofs.TextLaws.{never-wrong}
use Rattle.grammar.proofs.never_wrong.Goals as goal

pub returns : goal.returns
returns c = never-wrong
