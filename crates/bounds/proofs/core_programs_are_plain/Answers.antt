use Rattle.bounds.proofs.CoreSteps.{core_programs}
use Rattle.bounds.proofs.core_programs_are_plain.Goals as goal

pub returns : goal.returns
returns c = core_programs
