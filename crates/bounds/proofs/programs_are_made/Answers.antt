use Rattle.bounds.proofs.Made.{made-right}
use Rattle.bounds.proofs.programs_are_made.Goals as goal

pub returns : goal.returns
returns c = made-right
