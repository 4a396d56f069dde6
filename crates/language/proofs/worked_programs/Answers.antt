-- The contract of worked_programs: Worked.
use Rattle.language.proofs.Samples.{worked}
use Rattle.language.proofs.worked_programs.Goals as goal

pub returns : goal.returns
returns c = worked
