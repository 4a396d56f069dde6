-- The theorem that stands on the contract of `one_program`, from TextLaws.
use Rattle.grammar.proofs.TextLaws.{one-program}
use Rattle.grammar.proofs.one_program.Goals as goal

pub returns : goal.returns
returns c = one-program
