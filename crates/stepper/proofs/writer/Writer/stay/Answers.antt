use Rattle.stepper.proofs.Testing.{stayed}
use Rattle.stepper.proofs.writer.Writer.stay.Goals as goal

pub returns : goal.returns
returns c = stayed c.settle-value.result c.saturating_sub.result c.settle-value.ensures c.saturating_sub.ensures c.write.ensures
