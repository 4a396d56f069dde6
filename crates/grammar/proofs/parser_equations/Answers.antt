-- The theorem that stands on the contract of `parser_equations`, from Equations.
use Rattle.grammar.proofs.Equations.{equations}
use Rattle.grammar.proofs.parser_equations.Goals as goal

pub returns : goal.returns
returns c = equations
