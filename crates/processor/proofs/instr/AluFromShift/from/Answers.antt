use Rattle.std.proofs.Common.{ap, mod-eq_of_lt}
use Rattle.processor.specs.Machine.{sar}
use Rattle.processor.proofs.instr.AluFromShift.from.Goals as goal

pub returns-in-Srai : goal.returns-in-Srai
returns-in-Srai c x n h = rw c.in-Srai.is (ap (sar x) (mod-eq_of_lt h))
