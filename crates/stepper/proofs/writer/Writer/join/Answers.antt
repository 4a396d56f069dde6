use Rattle.stepper.proofs.Testing.{joined}
use Rattle.stepper.proofs.writer.Writer.join.Goals as goal

pub returns : goal.returns
returns c = joined c.settle-value.result c.settle-value.ensures c.make.ensures c.land.ensures
