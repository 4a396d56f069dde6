-- The theorem that stands on the contract of `jumps_reach`, from Budget.
use Rattle.grammar.proofs.Budget.{jumps_do_reach}
use Rattle.grammar.proofs.jumps_reach.Goals as goal

pub returns : goal.returns
returns c = jumps_do_reach
