use Rattle.stepper.proofs.Testing.{or_tested}
use Rattle.stepper.proofs.writer.Writer.or_test.Goals as goal

pub returns : goal.returns
returns c = or_tested c.settle-value.result c.saturating_add-jump.result c.saturating_add.result c.settle-value.ensures c.saturating_add-jump.ensures c.saturating_add.ensures c.write.ensures c.write-2.ensures c.write-3.ensures
