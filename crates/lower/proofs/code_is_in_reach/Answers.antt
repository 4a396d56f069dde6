use Rattle.lower.proofs.Correct.{compiled_short}
use Rattle.lower.proofs.code_is_in_reach.Goals as goal

pub returns : goal.returns
returns c = compiled_short
