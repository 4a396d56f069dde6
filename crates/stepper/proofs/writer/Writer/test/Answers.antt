use Rattle.stepper.proofs.Testing.{tested}
use Rattle.stepper.proofs.writer.Writer.test.Goals as goal

pub returns : goal.returns
returns c = tested c.settle-value.ensures c.write.ensures
